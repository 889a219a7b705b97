use Rattle.rules.specs.Search.{Peels}
use Rattle.rules.proofs.Peeling.{Sweeping}
use Rattle.find.proofs.marks.Marks.sweep.Given as goal

abbrev pub invariant-loop-p : goal.invariant-loop-p
invariant-loop-p g l =
    let m = g.T.RuleSystem.meaning l.system in
    let by = l.table.by in
    Peels m by l.initial.self.inside l.self.inside × Sweeping m by l.p l.initial.self.inside l.self.inside l.dropped
