use Rattle.book.specs.Held.{held}
use Rattle.rules.specs.Tables.{Adds}
use Rattle.grades.specs.Systems.{each_below}
use Rattle.systems.proofs.Holding.{check_if}
use Rattle.systems.proofs.holds.add_checks_of.Given as goal

abbrev pub invariant-loop-c : goal.invariant-loop-c
invariant-loop-c l = Adds 164 l.initial.out (each_below l.c (check_if (held l.book) l.j)) l.out
