use Rattle.std.proofs.Common.{◌≡◌, false, ◌&&◌}
use Rattle.book.specs.Labels.{names, any_below}
use Rattle.book.specs.Plain.{plain, job, asking, lacks}
use Rattle.book.proofs.parts.Table.lacks_any.Given as goal

abbrev pub invariant-loop-c : goal.invariant-loop-c
invariant-loop-c l = any_below l.c (λ c. names l.label c && lacks l.label (job (plain l.self) (asking (plain l.self) c)).label) ≡ false
