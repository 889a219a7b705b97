-- The holds that are due in a case, hold by hold.
use Rattle.std.proofs.Common.{◌≡◌, ℕ, zero, suc, ◌<◌, Bool, true, false, not, ◌&&◌, eqb, List, [], ◌∷◌, ◌++◌, map, length, get_or, ℤ, pos}
use Rattle.std.proofs.Common.{sym, refl, ap, ◌∙◌, append_assoc, append-nil}
use Rattle.book.specs.declared.parts.Kind.{Kind}
use Rattle.book.specs.declared.parts.Kind.TheVariants.{Least, Most}
use Rattle.book.specs.Labels.{names}
use Rattle.book.specs.Plain.{Plain, job, bound, checks}
use Rattle.book.specs.Done.{done}
use Rattle.rules.specs.declared.parts.Origin.TheVariants.{Bound}
use Rattle.grades.specs.declared.holds.Hold.{Hold}
use Rattle.grades.specs.Systems.{each_below, when, due, counts, hold_of, bound_hold, start_hold, check_hold}
use Rattle.grades.specs.Systems.{bound_holds, start_holds, check_holds_of, check_holds, holds, holds_in}
use Rattle.grades.proofs.Lists.{Every, every_at, every_append, every_below, every_when}

-- a hold that is never read
abbrev pub no_hold : Hold
no_hold = record { held = 0; by = 0; minutes = pos 0; origin = Bound 0 }

-- the r-th hold, where it is due, made into something else
abbrev pub if_due : {A : Type 0} → Plain → ℕ → (Hold → A) → ℕ → List A
if_due b s g r = when (due b s (get_or (holds b) r no_hold)) (g (get_or (holds b) r no_hold) ∷ [])

each_front : {A : Type 0} (n : ℕ) (f : ℕ → List A) → each_below (suc n) f ≡ f 0 ++ each_below n (λ i. f (suc i))
each_front zero f = sym (append-nil (f 0))
each_front (suc n) f = ap (λ xs. xs ++ f (suc n)) (each_front n f) ∙ append_assoc (f 0) (each_below n (λ i. f (suc i))) (f (suc n))

map_when : {A : Type 0} (g : Hold → A) (t : Bool) (h : Hold) (rest : List Hold) → map g (when t (h ∷ []) ++ rest) ≡ when t (g h ∷ []) ++ map g rest
map_when g true h rest = refl
map_when g false h rest = refl

pub in_each : {A : Type 0} (b : Plain) (s : ℕ) (g : Hold → A) (hs : List Hold)
    → map g (holds_in b s hs) ≡ each_below (length hs) (λ r. when (due b s (get_or hs r no_hold)) (g (get_or hs r no_hold) ∷ []))
in_each b s g [] = refl
in_each b s g (h ∷ hs) =
    map_when g (due b s h) h (holds_in b s hs)
    ∙ (ap (λ xs. when (due b s h) (g h ∷ []) ++ xs) (in_each b s g hs)
    ∙ sym (each_front (length hs) (λ r. when (due b s (get_or (h ∷ hs) r no_hold)) (g (get_or (h ∷ hs) r no_hold) ∷ []))))

-- a hold of the book is due where its two jobs are done
abbrev pub ByJobs : Plain → ℕ → Hold → Type 0
ByJobs b s h = due b s h ≡ (done b s h.held && done b s h.by)

swapped : (x y : Bool) → (x && y) ≡ (y && x)
swapped true true = refl
swapped true false = refl
swapped false true = refl
swapped false false = refl

module _ (b : Plain) (s : ℕ) where
  by_kind : (k : Kind) (f g : ℕ) (w : ℤ) (i : ℕ) → counts b s i ≡ (done b s f && done b s g) → ByJobs b s (hold_of k f g w (Bound i))
  by_kind Least f g w i e = e ∙ swapped (done b s f) (done b s g)
  by_kind Most f g w i e = e

  all_by_jobs : Every (ByJobs b s) (holds b)
  all_by_jobs =
      let P = ByJobs b s in
      every_append P (bound_holds b) (start_holds b ++ check_holds b)
      (every_below P (length b.bounds) (λ n. bound_hold b n ∷ [])
      (λ i h. (by_kind (bound b i).kind (bound b i).first (bound b i).second (bound b i).minutes i refl, tt)))
      (every_append P (start_holds b) (check_holds b)
      (every_below P (length b.jobs) (λ j. when (not (eqb j 0)) (start_hold j ∷ [])) (λ j h. every_when P (not (eqb j 0)) (start_hold j) (λ t. refl)))
      (every_below P (length b.jobs) (check_holds_of b) (λ j h.
      every_below P (checks b) (λ c. when (names (job b j).label c) (check_hold b j c ∷ []))
      (λ c l. every_when P (names (job b j).label c) (check_hold b j c) (λ t. refl)))))

  pub by_jobs : (r : ℕ) → r < length (holds b) → ByJobs b s (get_or (holds b) r no_hold)
  by_jobs r h = every_at (ByJobs b s) (holds b) no_hold all_by_jobs r h
