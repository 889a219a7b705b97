use Rattle.std.proofs.Common.{◌≡◌, ◌++◌, map, take, drop}
use Rattle.find.specs.Answers.{origin_of}
use Rattle.find.proofs.loops.write_origins.Given as goal

abbrev pub invariant-loop-i : goal.invariant-loop-i
invariant-loop-i g l = l.out ≡ map (origin_of (g.T.WithOrigins.origins l.system)) (take l.i l.rules) ++ drop l.i l.initial.out
