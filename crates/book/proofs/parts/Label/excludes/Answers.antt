use Rattle.std.proofs.Common.{arith}
use Rattle.book.proofs.Tests.{exclude_is}
use Rattle.book.proofs.parts.Label.excludes.Goals as goal

pub returns : goal.returns
returns c = exclude_is c.args.self c.args.other (omega arith) (omega arith) (omega arith) (omega arith)
