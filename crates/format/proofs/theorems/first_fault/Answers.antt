use Rattle.format.proofs.Local.{first_fault}
use Rattle.format.proofs.theorems.first_fault.Goals as goal

pub returns : goal.returns
returns c = first_fault
