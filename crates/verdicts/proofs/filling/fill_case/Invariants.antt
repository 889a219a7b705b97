use Rattle.std.proofs.Common.{◌≡◌, ◌+◌, ◌++◌, take, drop}
use Rattle.book.specs.Held.{held}
use Rattle.grades.specs.Systems.{each_below}
use Rattle.verdicts.specs.Filling.{spread}
use Rattle.verdicts.proofs.filling.fill_case.Given as goal

abbrev pub invariant-loop-j : goal.invariant-loop-j
invariant-loop-j l =
    let row = each_below l.j (spread (held l.book) l.table l.from l.case) in
    l.minutes ≡ (take l.first l.initial.minutes ++ row) ++ drop (l.first + l.j) l.initial.minutes
