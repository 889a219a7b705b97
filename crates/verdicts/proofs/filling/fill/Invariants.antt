use Rattle.std.proofs.Common.{◌≡◌, ◌*◌, ◌++◌, length, drop}
use Rattle.book.specs.Held.{held}
use Rattle.grades.specs.Systems.{each_below}
use Rattle.verdicts.specs.Filling.{block}
use Rattle.verdicts.proofs.filling.fill.Given as goal

abbrev pub invariant-loop-case : goal.invariant-loop-case
invariant-loop-case l =
    l.minutes
    ≡ each_below l.case (λ s. block (held l.book) l.table (s * l.apart) s) ++ drop (l.case * length (held l.book).jobs) l.initial.minutes
