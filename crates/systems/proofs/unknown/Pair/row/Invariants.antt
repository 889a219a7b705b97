use Rattle.std.proofs.Common.{◌≡◌, ◌+◌, ◌≤◌, pos}
use Rattle.book.specs.Held.{held}
use Rattle.rules.specs.Rows.{rule_of}
use Rattle.grades.specs.Systems.{each_below, place}
use Rattle.systems.proofs.Between.{begun, told_if}
use Rattle.systems.proofs.unknown.Pair.row.Given as goal

abbrev pub invariant-loop-c : goal.invariant-loop-c
invariant-loop-c l =
    let b = held l.self.book.now in
    let s = l.self.case in
    let t = l.self.other in
    (rule_of l.row ≡ begun (place b s l.j) (record { place = place b t l.j; minutes = pos 0 }) (each_below l.c (told_if b s t)))
    × (l.row.count ≤ l.c + 1)
