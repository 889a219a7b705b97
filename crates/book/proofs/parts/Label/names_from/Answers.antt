use Rattle.std.proofs.Common.{arith}
use Rattle.book.proofs.Tests.{from_is}
use Rattle.book.proofs.parts.Label.names_from.Goals as goal

pub returns : goal.returns
returns c = from_is c.args.self c.args.checks (omega arith) (omega arith)
