use Rattle.walks.proofs.Laws.{ended_are_whole}
use Rattle.walks.proofs.theorems.ended_are_whole.Goals as goal

pub returns : goal.returns
returns c = ended_are_whole
