use Rattle.std.proofs.Common.{sym, ap, ◌∙◌}
use Rattle.format.specs.Theorems.{reading_of}
use Rattle.format.proofs.Sound.{read_sound}
use Rattle.format.proofs.theorems.reads_plans.Goals as goal

pub returns : goal.returns
returns c room bytes s e = let r = read_sound room bytes s e in sym r.is ∙ ap (λ v. reading_of v.plan) r.is
