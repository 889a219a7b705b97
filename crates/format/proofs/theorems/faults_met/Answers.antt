use Rattle.std.proofs.Common.{rules}
use Rattle.book.specs.Plain.{part_missing}
use Rattle.format.proofs.theorems.faults_met.Goals as goal

pub returns : goal.returns
unfolding part_missing
returns c = search rules
