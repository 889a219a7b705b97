use Rattle.std.proofs.Common.{◌≡◌, ◌++◌, map, take, drop, pos}
use Rattle.find.proofs.tables.Table.write_out.Given as goal

abbrev pub invariant-loop-p : goal.invariant-loop-p
invariant-loop-p l = l.minutes ≡ map pos (take l.p l.self.minutes) ++ drop l.p l.initial.minutes
