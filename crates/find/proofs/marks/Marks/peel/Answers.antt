use Rattle.rules.specs.Search.{same}
use Rattle.rules.proofs.Peeling.{peels_in, peels_on}
use Rattle.find.proofs.marks.Marks.peel.Goals as goal

pub loop-init : goal.loop-init
loop-init g c = same

pub sweep-requires : goal.sweep-requires
sweep-requires g c = λ p h. c.requires p
    (peels_in (g.T.RuleSystem.meaning c.args.system.now) c.args.table.now.by c.args.self.now.inside c.loop.self.inside c.loop.invariant p h)

pub loop-preserved : goal.loop-preserved
loop-preserved g c = peels_on (g.T.RuleSystem.meaning c.args.system.now) c.args.table.now.by c.args.self.now.inside c.loop.self.inside
    c.sweep.new.self.inside c.loop.invariant c.sweep.ensures.peels
