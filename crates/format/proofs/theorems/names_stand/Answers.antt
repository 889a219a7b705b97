use Rattle.format.proofs.Placed.{names_counted}
use Rattle.format.proofs.theorems.names_stand.Goals as goal

pub returns : goal.returns
returns c = names_counted
