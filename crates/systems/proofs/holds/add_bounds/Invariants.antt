use Rattle.std.proofs.Common.{[], ◌∷◌}
use Rattle.book.specs.Held.{held}
use Rattle.rules.specs.Tables.{Adds}
use Rattle.grades.specs.Systems.{each_below, bound_hold}
use Rattle.systems.proofs.holds.add_bounds.Given as goal

abbrev pub invariant-loop-i : goal.invariant-loop-i
invariant-loop-i l = Adds 164 l.initial.out (each_below l.i (λ n. bound_hold (held l.book) n ∷ [])) l.out
