use Rattle.format.proofs.Local.{lines_before}
use Rattle.format.proofs.theorems.lines_before.Goals as goal

pub returns : goal.returns
returns c = lines_before
