-- The tests of the systems decide what they say.
use Rattle.std.proofs.Common.{◌≡◌, ℕ, not, ◌&&◌, eqb, Decides}
use Rattle.std.proofs.lemmas.Bool.Decides.{Decides-and, Decides-eqb, Decides-not}
use Rattle.book.specs.Labels.{bit}
use Rattle.book.specs.Plain.{Plain, bound, asking, Done}
use Rattle.book.specs.Done.{done}
use Rattle.book.proofs.Tests.{done_decides}
use Rattle.rules.specs.declared.parts.Origin.{Origin}
use Rattle.rules.specs.declared.parts.Origin.TheVariants.{Bound, Start, Check}
use Rattle.grades.specs.Grades.{Counts}
use Rattle.grades.specs.Systems.{counts, due_of, both_do, tells_apart}

pub apart_decides : (x y : ℕ) → Decides (not (eqb x y)) (x ≡ y → ⊥)
apart_decides x y = Decides-not (eqb x y) (Decides-eqb x y)

pub both_decides : (b : Plain) (s i t j : ℕ) → Decides (done b s i && done b t j) (Done b s i × Done b t j)
both_decides b s i t j = Decides-and (done b s i) (done b t j) (done_decides b s i) (done_decides b t j)

pub counts_decides : (b : Plain) (s i : ℕ) → Decides (counts b s i) (Counts b s i)
counts_decides b s i = both_decides b s (bound b i).first s (bound b i).second

pub both_do_decides : (b : Plain) (s t j : ℕ) → Decides (both_do b s t j) ((s ≡ t → ⊥) × (Done b s j × Done b t j))
both_do_decides b s t j = Decides-and (not (eqb s t)) (done b s j && done b t j) (apart_decides s t) (both_decides b s j t j)

pub tells_apart_decides : (b : Plain) (s t c : ℕ) → Decides (tells_apart b s t c) (Done b s (asking b c) × (bit s c ≡ bit t c → ⊥))
tells_apart_decides b s t c =
    Decides-and (done b s (asking b c)) (not (eqb (bit s c) (bit t c))) (done_decides b s (asking b c)) (apart_decides (bit s c) (bit t c))

-- what a hold of an origin asks: that its bound counts (C), or that its jobs are done (D)
abbrev pub Due : Plain → (ℕ → Type 0) → (ℕ → Type 0) → Origin → Type 0
Due b C D (Bound i) = C i
Due b C D (Start j) = D j × D 0
Due b C D (Check c j) = D j × D (asking b c)

pub due_decides : (b : Plain) (s : ℕ) (o : Origin) → Decides (due_of b s o) (Due b (Counts b s) (Done b s) o)
due_decides b s (Bound i) = counts_decides b s i
due_decides b s (Start j) = both_decides b s j s 0
due_decides b s (Check c j) = both_decides b s j s (asking b c)
