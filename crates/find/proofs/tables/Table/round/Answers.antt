use Rattle.find.proofs.Going.{going_on}
use Rattle.find.proofs.tables.Table.round.Goals as goal

pub loop-number-preserved : goal.loop-number-preserved
loop-number-preserved g c = (
  c.raise-rose.ensures.good,
  going_on (g.T.RuleSystem.meaning c.args.system.now) c.loop-number.number c.args.self.now.minutes
      c.loop-number.self.minutes c.raise-rose.new.self.minutes c.loop-number.rose c.raise-rose.result
      c.loop-number.invariant.1 c.raise-rose.ensures.grown,
)
