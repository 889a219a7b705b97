use Rattle.rules.proofs.Walks.{Walking}
use Rattle.find.proofs.Seen.{numbers}
use Rattle.find.proofs.loops.Barred.walk.Given as goal

abbrev pub invariant-loop-n : goal.invariant-loop-n
invariant-loop-n g l =
    Walking (g.T.RuleSystem.meaning l.system) l.self.table.by (numbers l.seen) l.walked l.n l.place
