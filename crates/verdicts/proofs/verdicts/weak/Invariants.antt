use Rattle.std.proofs.Common.{◌≡◌, length}
use Rattle.book.specs.Held.{held}
use Rattle.verdicts.specs.Filling.{WeakTables}
use Rattle.verdicts.proofs.verdicts.weak.Given as goal

abbrev pub invariant-loop-case : goal.invariant-loop-case
invariant-loop-case l = WeakTables (held l.book) l.case l.table × (l.loops ≡ l.initial.loops) × (length l.table ≡ 320)
