use Rattle.std.proofs.Common.{arith}
use Rattle.book.proofs.Tests.{lacks_is}
use Rattle.book.proofs.parts.Label.lacks.Goals as goal

pub returns : goal.returns
returns c = lacks_is c.args.self c.args.part (omega arith) (omega arith) (omega arith) (omega arith)
