use Rattle.rules.specs.Search.{Good}
use Rattle.rules.proofs.Steps.{Going}
use Rattle.find.proofs.tables.Table.round.Given as goal

abbrev pub invariant-loop-number : goal.invariant-loop-number
invariant-loop-number g l =
    let m = g.T.RuleSystem.meaning l.system in
    Good m l.number l.self.minutes l.self.by
    × Going m l.number l.initial.self.minutes l.self.minutes l.rose
