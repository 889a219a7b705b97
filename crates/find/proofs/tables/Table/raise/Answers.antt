use Rattle.std.proofs.Common.{refl}
use Rattle.find.proofs.Places.{stays_kept, raised_table, raised_good, raised_grown}
use Rattle.find.proofs.tables.Table.raise.Goals as goal

pub returns-then-minute-self-clause-grown : goal.returns-then-minute-self-clause-grown
returns-then-minute-self-clause-grown g c = (
  refl,
  stays_kept (g.T.RuleSystem.meaning c.args.system.now) c.self.inside.places c.args.self.now c.self.view_is c.args.number c.least_asked-minute.result
      c.held-held.result c.new-rule.result c.new-rule.ensures c.least_asked-minute.ensures c.held-held.ensures.value c.if-minute-self.true,
)

pub invariant_of-self : goal.invariant_of-self
invariant_of-self g c = raised_table (g.T.RuleSystem.meaning c.args.system.now) (g.T.RuleSystem.sound c.args.system.now) c.self.inside.places
    c.args.self.now c.self.view_is c.args.number c.least_asked-minute.result c.held-held.result c.requires.known c.new-rule.result
    c.new-rule.ensures c.least_asked-minute.ensures c.requires.good c.held-held.ensures.value c.if-minute-self.false _ refl

pub returns-clause-good : goal.returns-clause-good
returns-clause-good g c = raised_good (g.T.RuleSystem.meaning c.args.system.now) (g.T.RuleSystem.sound c.args.system.now) c.self.inside.places
    c.args.self.now c.self.view_is c.args.number c.least_asked-minute.result c.held-held.result c.requires.known c.new-rule.result
    c.new-rule.ensures c.least_asked-minute.ensures c.requires.good c.held-held.ensures.value c.if-minute-self.false _ refl refl

pub returns-clause-grown : goal.returns-clause-grown
returns-clause-grown g c = raised_grown (g.T.RuleSystem.meaning c.args.system.now) (g.T.RuleSystem.sound c.args.system.now) c.self.inside.places
    c.args.self.now c.self.view_is c.args.number c.least_asked-minute.result c.held-held.result c.requires.known c.new-rule.result
    c.new-rule.ensures c.least_asked-minute.ensures c.requires.good c.held-held.ensures.value c.if-minute-self.false _ refl
