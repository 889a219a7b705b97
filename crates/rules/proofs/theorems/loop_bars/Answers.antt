use Rattle.rules.proofs.Walks.{loop_bars}
use Rattle.rules.proofs.theorems.loop_bars.Goals as goal

pub returns : goal.returns
returns c = loop_bars
