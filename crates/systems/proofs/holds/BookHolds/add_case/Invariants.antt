use Rattle.std.proofs.Common.{map}
use Rattle.book.specs.Held.{held}
use Rattle.rules.specs.Rows.{rule_of as row_rule}
use Rattle.rules.specs.Tables.{Adds}
use Rattle.grades.specs.Systems.{each_below, rule_of, place}
use Rattle.systems.proofs.Due.{if_due}
use Rattle.systems.proofs.holds.BookHolds.add_case.Given as goal

abbrev pub invariant-loop-hold : goal.invariant-loop-hold
invariant-loop-hold l =
    let b = held l.self.book.now in
    Adds 8192 (map row_rule l.initial.out) (each_below l.hold-index (if_due b l.case (rule_of (place b l.case)))) (map row_rule l.out)
