use Rattle.std.proofs.Common.{map}
use Rattle.book.specs.Held.{held}
use Rattle.rules.specs.Rows.{rule_of}
use Rattle.rules.specs.Tables.{Adds}
use Rattle.grades.specs.Systems.{each_below}
use Rattle.systems.proofs.Between.{unknown_if}
use Rattle.systems.proofs.unknown.Pair.add_rules.Given as goal

abbrev pub invariant-loop-j : goal.invariant-loop-j
invariant-loop-j l =
    Adds 8192 (map rule_of l.initial.out) (each_below l.j (unknown_if (held l.self.book.now) l.self.case l.self.other)) (map rule_of l.out)
