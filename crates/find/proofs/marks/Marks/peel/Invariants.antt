use Rattle.rules.specs.Search.{Peels, marks}
use Rattle.find.proofs.marks.Marks.peel.Given as goal

abbrev pub invariant-loop : goal.invariant-loop
invariant-loop g l = Peels (g.T.RuleSystem.meaning l.system) l.table.by l.initial.self.inside l.self.inside

abbrev pub decreases-loop : goal.decreases-loop
decreases-loop g l = marks l.self.inside
