use Rattle.book.proofs.Always.{checks_done}
use Rattle.book.proofs.theorems.checks_done.Goals as goal

pub returns : goal.returns
returns c = checks_done
