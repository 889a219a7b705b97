use Rattle.std.proofs.Common.{ap, subst}
use Rattle.format.specs.Theorems.{reading_of, Writes}
use Rattle.format.proofs.Sound.{read_sound}
use Rattle.format.proofs.Complete.{read_complete}
use Rattle.format.proofs.theorems.reads_exactly.Goals as goal

pub returns : goal.returns
returns c room bytes p =
    (λ e. let r = read_sound room bytes (reading_of p) e in subst (Writes room bytes) (ap (λ s. s.plan) r.is) r.writes, read_complete room bytes p)
