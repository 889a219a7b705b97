use Rattle.rules.specs.Tables.{Adds}
use Rattle.grades.specs.Systems.{each_below}
use Rattle.systems.proofs.Holding.{start_if}
use Rattle.systems.proofs.holds.add_starts.Given as goal

abbrev pub invariant-loop-j : goal.invariant-loop-j
invariant-loop-j l = Adds 164 l.initial.out (each_below l.j start_if) l.out
