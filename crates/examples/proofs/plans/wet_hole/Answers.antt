use Rattle.std.proofs.Common.{rules}
use Rattle.book.specs.Plain.{part_missing}
use Rattle.examples.proofs.plans.wet_hole.Goals as goal

pub returns : goal.returns
unfolding part_missing
returns c = search rules
