use Rattle.find.proofs.Exactly.{loop_exactly}
use Rattle.find.proofs.theorems.explains_exactly.Goals as goal

pub returns : goal.returns
returns c = loop_exactly
