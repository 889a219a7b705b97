use Rattle.std.proofs.Common.{map}
use Rattle.book.specs.Held.{held}
use Rattle.rules.specs.Rows.{rule_of}
use Rattle.rules.specs.Tables.{Adds}
use Rattle.grades.specs.Systems.{each_below, unknown_from}
use Rattle.systems.proofs.unknown.add_unknown.Given as goal

abbrev pub invariant-loop-case : goal.invariant-loop-case
invariant-loop-case l = Adds 8192 (map rule_of l.initial.out) (each_below l.case (unknown_from (held l.book))) (map rule_of l.out)
