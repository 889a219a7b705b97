-- The least of what the alternatives of a rule ask, and whether one of them leads out: from what was answered of each.
use Rattle.std.proofs.Common.{◌≡◌, ℕ, zero, suc, ◌<◌, ◌≤◌, min, ◌⊎◌, Bool, true, false, List, [], ◌∷◌, length, map, get_or, Some}
use Rattle.std.proofs.Common.{MatchBool, fold, sym, refl, ◌∙◌, subst, inl, inr, ⊎_elim, zero-add, arith}
use Rattle.std.specs.List.{AllWithin, HoldsAt, range_with_len, reduce}
use Rattle.std.proofs.lemmas.List.FromFn.{length-range_with_len, get_or-range_with_len, length-map-range_with_len, get_or-map-range_with_len}
use Rattle.std.proofs.lemmas.Bool.{cases_lt}
use Rattle.rules.specs.Rules.{Rule, alternative}
use Rattle.rules.specs.Search.{In, Out, LeadsOut, LeastAsked, asked_by}

-- the least of some numbers is one of them
record IsLeast (xs : List ℕ) (m : ℕ) : Type 0 where
  least : (i : ℕ) → i < length xs → m ≤ get_or xs i 0
  reached : (i : ℕ) × (i < length xs) × (m ≡ get_or xs i 0)

least_on : (x y : ℕ) (xs : List ℕ) (m : ℕ) → IsLeast (min x y ∷ xs) m → IsLeast (x ∷ (y ∷ xs)) m
least_on x y xs m l = record { least = below; reached = ⊎_elim here there (place l.reached.0 l.reached.1 l.reached.2) }
  where
    below : (i : ℕ) → i < length (x ∷ (y ∷ xs)) → m ≤ get_or (x ∷ (y ∷ xs)) i 0
    below zero h = omega (arith, l.least 0 (omega arith))
    below (suc zero) h = omega (arith, l.least 0 (omega arith))
    below (suc (suc i)) h = l.least (suc i) (omega arith)

    place : (i : ℕ) → i < length (min x y ∷ xs) → m ≡ get_or (min x y ∷ xs) i 0 → (m ≡ min x y) ⊎ ((i : ℕ) × (i < length xs) × (m ≡ get_or xs i 0))
    place zero h e = inl e
    place (suc i) h e = inr (i, omega arith, e)

    here : m ≡ min x y → (i : ℕ) × (i < length (x ∷ (y ∷ xs))) × (m ≡ get_or (x ∷ (y ∷ xs)) i 0)
    here e = ⊎_elim (λ (h : x < y). (0, omega arith, omega arith)) (λ (h : y ≤ x). (1, omega arith, omega arith)) (cases_lt x y)

    there : ((i : ℕ) × (i < length xs) × (m ≡ get_or xs i 0)) → (i : ℕ) × (i < length (x ∷ (y ∷ xs))) × (m ≡ get_or (x ∷ (y ∷ xs)) i 0)
    there (i, h, e) = (suc (suc i), omega arith, e)

fold_least : (x : ℕ) (xs : List ℕ) → IsLeast (x ∷ xs) (fold min x xs)
fold_least x [] = record {
  least = λ i h. let e : i ≡ 0 = omega arith in subst (λ j. x ≤ get_or (x ∷ []) j 0) (sym e) (omega arith);
  reached = (0, omega arith, refl);
}
fold_least x (y ∷ xs) = least_on x y xs (fold min (min x y) xs) (fold_least (min x y) xs)

reduce_least : (xs : List ℕ) (m : ℕ) → reduce min xs ≡ Some m → IsLeast xs m
reduce_least [] m e = let z : ◌≡◌ {A = ℕ} 0 1 = cc in absurd (omega arith)
reduce_least (x ∷ xs) m e = let is : fold min x xs ≡ m = cc in subst (IsLeast (x ∷ xs)) is (fold_least x xs)

pub least_from_reduce : (table : List ℕ) (k : Rule) (n x : ℕ) → n ≡ length k.alternatives →
    reduce min (map (λ a. asked_by table (alternative k a)) (range_with_len 0 n)) ≡ Some x → LeastAsked table k x
least_from_reduce table k n x e is =
    let f : ℕ → ℕ = λ a. asked_by table (alternative k a) in
    let l = reduce_least (map f (range_with_len 0 n)) x is in
    let long = length-map-range_with_len f 0 n in
    let (i, within, at_i) = l.reached in
    let low : i < n = omega (arith, within, long) in
    record {
      least = λ a h.
          let here : a < n = omega (arith, e, h) in
          subst (λ v. x ≤ v) (get_or-map-range_with_len f 0 n a a 0 here (zero-add a)) (l.least a (omega (arith, here, long)));
      reached = (i, omega (arith, e, low), at_i ∙ get_or-map-range_with_len f 0 n i i 0 low (zero-add i));
    }

pub leads_from_cases : (k : Rule) (inside : List Bool) (n : ℕ) (r : Bool) → n ≡ length k.alternatives →
    MatchBool r ((i : ℕ) × (i < length (range_with_len 0 n)) × HoldsAt (λ a. Out inside (alternative k a).place) (range_with_len 0 n) i)
    (AllWithin (λ a. In inside (alternative k a).place) (range_with_len 0 n) 0 (length (range_with_len 0 n))) →
    LeadsOut k inside r
leads_from_cases k inside n true e (i, within, out) =
    let low : i < n = omega (arith, length-range_with_len 0 n, within) in
    let is = get_or-range_with_len 0 n i 0 low ∙ zero-add i in
    (i, omega (arith, e, low), subst (λ a. Out inside (alternative k a).place) is (out 0))
leads_from_cases k inside n false e all = λ a within.
    let low : a < n = omega (arith, e, within) in
    let is = get_or-range_with_len 0 n a 0 low ∙ zero-add a in
    subst (λ b. In inside (alternative k b).place) is (all a 0 (omega arith) (omega (arith, length-range_with_len 0 n, low)))
