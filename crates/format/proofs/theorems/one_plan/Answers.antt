use Rattle.std.proofs.Common.{sym, ap, ◌∙◌}
use Rattle.format.specs.Theorems.{reading_of}
use Rattle.format.proofs.Steps.{same_ok}
use Rattle.format.proofs.Complete.{read_complete}
use Rattle.format.proofs.theorems.one_plan.Goals as goal

pub returns : goal.returns
returns c room bytes p q g h = ap (λ s. s.plan) (same_ok (reading_of p) (reading_of q) (sym (read_complete room bytes p g) ∙ read_complete room bytes q h))
