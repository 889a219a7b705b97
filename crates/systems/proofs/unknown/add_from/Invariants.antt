use Rattle.std.proofs.Common.{map}
use Rattle.book.specs.Held.{held}
use Rattle.rules.specs.Rows.{rule_of}
use Rattle.rules.specs.Tables.{Adds}
use Rattle.grades.specs.Systems.{each_below, unknown_between}
use Rattle.systems.proofs.unknown.add_from.Given as goal

abbrev pub invariant-loop-other : goal.invariant-loop-other
invariant-loop-other l = Adds 8192 (map rule_of l.initial.out) (each_below l.other (unknown_between (held l.book) l.case)) (map rule_of l.out)
