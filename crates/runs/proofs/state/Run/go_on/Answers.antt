use Rattle.runs.proofs.Carried.{asked_next}
use Rattle.runs.proofs.state.Run.go_on.Goals as goal

pub invariant_of-result-in-Some : goal.invariant_of-result-in-Some
invariant_of-result-in-Some c = record { asks = asked_next c.args.self c.in-Some.check c.in-Some.ensures }
