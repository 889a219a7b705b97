use Rattle.rules.proofs.Walks.{chain_known}
use Rattle.find.proofs.loops.Barred.write_loop.Goals as goal

pub write_origins-requires-clause-known : goal.write_origins-requires-clause-known
write_origins-requires-clause-known g c = let round = c.walk-round.ensures in
    chain_known (g.T.RuleSystem.meaning c.args.system.now) c.walk-round.result.now round.from round.from round.closes
