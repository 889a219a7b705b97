use Rattle.find.proofs.Exactly.{exactly}
use Rattle.find.proofs.theorems.answers_exactly.Goals as goal

pub returns : goal.returns
returns c = exactly
