-- What a plan for a hole that may be wet forces: lower bounds of every strategy's minutes.
use Rattle.std.proofs.Common.{◌≡◌, ℕ, zero, suc, ◌+◌, ◌<◌, ◌≤◌, true, List, [], ◌∷◌, length, get_or, pos, refl, inl, inr, arith}
use native.Mathlib.Decide.{dec_le}
use Rattle.std.proofs.lemmas.Int.{ints}
use Rattle.book.specs.declared.parts.Bound.{Bound}
use Rattle.book.specs.Plain.{Plain, Done, Case, bound}
use Rattle.book.specs.Done.{done}
use Rattle.book.proofs.Tests.{done_decides}
use Rattle.grades.specs.Grades.{Minutes, KeepsBound, Agrees, Strategy, Dynamic}
use Rattle.grades.specs.Systems.{counts}
use Rattle.grades.proofs.Tests.{counts_decides}
use Rattle.examples.specs.Plans.{least, start, wet, pump, grout, wet_hole, written, timetable}

-- the minutes of a row, and of rows, are no later than others
abbrev pub Low : List ℕ → (ℕ → ℕ) → Type 0
Low [] m = Unit {0}
Low (x ∷ xs) m = (x ≤ m 0) × Low xs (λ j. m (suc j))

abbrev pub LowRows : List (List ℕ) → Minutes → Type 0
LowRows [] m = Unit {0}
LowRows (r ∷ rs) m = Low r (m 0) × LowRows rs (λ s. m (suc s))

low_at : (row : List ℕ) (m : ℕ → ℕ) → Low row m → (j : ℕ) → get_or row j 0 ≤ m j
low_at [] m t j = omega arith
low_at (x ∷ xs) m (h, t) zero = h
low_at (x ∷ xs) m (h, t) (suc j) = low_at xs (λ i. m (suc i)) t j

pub low_rows_at : (rows : List (List ℕ)) (m : Minutes) → LowRows rows m → (s j : ℕ) → written rows s j ≤ m s j
low_rows_at [] m t s j = omega arith
low_rows_at (r ∷ rs) m (h, t) zero j = low_at r (m 0) h j
low_rows_at (r ∷ rs) m (h, t) (suc s) j = low_rows_at rs (λ i. m (suc i)) t s j

-- a bound that counts by computing is kept
pub kept_at : (b : Plain) (m : Minutes) → Strategy b m → (s : ℕ) → Case b s →
    (i : ℕ) → i < length b.bounds → counts b s i ≡ true → KeepsBound (bound b i) (m s)
kept_at b m d s h i l e = d.bounds s h i l ((counts_decides b s i).0 e)

pub done_in : (b : Plain) (s j : ℕ) → done b s j ≡ true → Done b s j
done_in b s j e = (done_decides b s j).0 e

-- the plans share their jobs and first three bounds
abbrev pub body : List Bound → Plain
body more = record { jobs = wet_hole.jobs; bounds = least start wet (pos 60) ∷ least wet pump (pos 5) ∷ least pump grout (pos 90) ∷ more }

pub record Shared (m : Minutes) : Type 0 where
  pub dry_look : 60 ≤ m 0 1
  pub wet_look : 60 ≤ m 1 1
  pub dry_seal : m 0 1 + 1 ≤ m 0 4
  pub wet_pump : m 1 1 + 5 ≤ m 1 2
  pub wet_grout : m 1 2 + 90 ≤ m 1 3

pub shared : (more : List Bound) (m : Minutes) → Strategy (body more) m → Shared m
shared more m d =
    let a0 = kept_at (body more) m d 0 (omega arith) 0 (omega arith) refl in
    let a1 = kept_at (body more) m d 1 (omega arith) 0 (omega arith) refl in
    let p = kept_at (body more) m d 1 (omega arith) 1 (omega arith) refl in
    let g = kept_at (body more) m d 1 (omega arith) 2 (omega arith) refl in
    record {
      dry_look = omega (arith, ints);
      wet_look = omega (arith, ints);
      dry_seal = d.after_checks 0 (omega arith) 4 (omega arith) (done_in (body more) 0 4 refl) 0 (inr refl);
      wet_pump = omega (arith, ints);
      wet_grout = omega (arith, ints);
    }

-- no strategy has a job earlier than the timetable whose grout and seal in a dry hole are no later than the strategy's
pub no_later : (more : List Bound) (m : Minutes) → Strategy (body more) m → (g l : ℕ) → g ≤ m 0 3 → l ≤ m 0 4 → (s j : ℕ) → timetable g l s j ≤ m s j
no_later more m d g l h k =
    let f = shared more m d in
    low_rows_at ((0 ∷ 60 ∷ 0 ∷ g ∷ l ∷ []) ∷ (0 ∷ 60 ∷ 65 ∷ 155 ∷ 0 ∷ []) ∷ []) m
    ((omega arith, (omega arith, (omega arith, (h, (k, tt))))), ((omega arith, (omega arith, (omega arith, (omega arith, (omega arith, tt))))), tt))

-- a job no later than the look in a dry hole knows nothing that tells a wet one apart
unseen : (more : List Bound) (m : Minutes) (j : ℕ) → m 0 j ≤ m 0 1 → Agrees (body more) m 1 0 j
unseen more m j h zero k = let l = k.before in absurd (omega arith)
unseen more m j h (suc c) k = let l = k.is in absurd (omega arith)

-- so the look has one minute, and grout waits for it in a dry hole too
pub look_same : (more : List Bound) (m : Minutes) → Dynamic (body more) m → m 0 1 ≡ m 1 1
look_same more m d =
    d.same 0 1 (omega arith) (omega arith) 1 (omega arith) (done_in (body more) 0 1 refl) (done_in (body more) 1 1 refl)
    (inl (unseen more m 1 (omega arith)))

pub grout_waits : (more : List Bound) (m : Minutes) → Dynamic (body more) m → m 0 1 + 1 ≤ m 0 3
grout_waits more m d = by (dec_le (m 0 1 + 1) (m 0 3))
  where
    by : Dec (m 0 1 + 1 ≤ m 0 3) → m 0 1 + 1 ≤ m 0 3
    by (yes l) = l
    by (no l) =
        let e =
        d.same 0 1 (omega arith) (omega arith) 3 (omega arith) (done_in (body more) 0 3 refl) (done_in (body more) 1 3 refl)
        (inl (unseen more m 3 (omega arith))) in
        let k = shared more m d.strategy in
        let w = look_same more m d in
        omega arith
