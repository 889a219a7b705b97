use Rattle.walks.proofs.Laws.{lawful_keep_law}
use Rattle.walks.proofs.theorems.lawful_keep_law.Goals as goal

pub returns : goal.returns
returns c = lawful_keep_law
