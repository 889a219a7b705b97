use Rattle.book.specs.Held.{held}
use Rattle.rules.specs.Tables.{Adds}
use Rattle.grades.specs.Systems.{each_below, check_holds_of}
use Rattle.systems.proofs.holds.add_checks.Given as goal

abbrev pub invariant-loop-j : goal.invariant-loop-j
invariant-loop-j l = Adds 164 l.initial.out (each_below l.j (check_holds_of (held l.book))) l.out
