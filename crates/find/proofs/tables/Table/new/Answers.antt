use Rattle.std.proofs.Common.{replicate, refl, arith}
use Rattle.rules.proofs.Steps.{starts, zero_at}
use Rattle.find.proofs.tables.Table.new.Goals as goal

pub invariant_of-result : goal.invariant_of-result
invariant_of-result c = record { sized = refl; low = λ p. omega (arith, zero_at 320 p) }

pub returns : goal.returns
returns c = λ m. starts m (replicate 320 0) refl
