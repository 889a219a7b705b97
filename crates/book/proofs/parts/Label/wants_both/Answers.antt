use Rattle.std.proofs.Common.{arith}
use Rattle.book.proofs.Tests.{both_is}
use Rattle.book.proofs.parts.Label.wants_both.Goals as goal

pub returns : goal.returns
returns c = both_is c.args.self (omega arith) (omega arith)
