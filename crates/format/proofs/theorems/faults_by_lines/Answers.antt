use Rattle.format.proofs.Local.{faults_by_lines}
use Rattle.format.proofs.theorems.faults_by_lines.Goals as goal

pub returns : goal.returns
returns c = faults_by_lines
