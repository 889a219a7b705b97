use Rattle.std.proofs.Common.{◌≡◌, ℕ, ◌<◌, false, length, get_or}
use Rattle.rules.specs.Rules.{at}
use Rattle.rules.specs.Search.{Marked}
use Rattle.find.proofs.marks.Marks.mark_above_zero.Given as goal

abbrev pub invariant-loop-p : goal.invariant-loop-p
invariant-loop-p l = (length l.self.inside ≡ 320) × ((k : ℕ) → k < l.p → Marked (get_or l.self.inside k false) (at l.table.minutes k))
