-- Numbers in a text: read and written.
use Rattle.std.proofs.Common.{◌≡◌, ℕ, zero, suc, ◌^◌, ◌<◌, ◌≤◌, Bool, true, false, cond, not, ◌&&◌, eqb, leb, ◌⊎◌, List, [], ◌∷◌, length}
use Rattle.std.proofs.Common.{get_or, ℤ, pos, negsuc, neg_ℤ, nat_abs, Some, None, decimal, sym, refl, ap, ◌∙◌, subst, inl, inr, arith}
use Rattle.std.proofs.Common.{rules}
use native.Mathlib.Nat.{pow-le-pow_right}
use Rattle.std.specs.Fmt.{signed_decimal}
use Rattle.std.proofs.lemmas.Bool.Decides.{nat_tests}
use Rattle.std.proofs.lemmas.Bool.{and_parts, leb-true, eqb-true, ne_eqb, not-true, eqb-false}
use Rattle.std.proofs.lemmas.Str.Parse.{IsNumeralModel, numerals_by_fold, digits_value_short}
use Rattle.std.proofs.lemmas.Fmt.{digits_decimal, digits_value-decimal, decimal-digits_value, first_decimal, decimal_nonempty}
use Rattle.std.proofs.lemmas.Fmt.{decimal_digit, length-decimal-le}
use Rattle.format.specs.Faults.{digits, number_after, natural_form, natural_of, minutes_of}
use Rattle.format.proofs.Steps.{some_passed, no_value}

own : IsNumeralModel (λ ds. digits ds ≡ true) (number_after 0)
own = numerals_by_fold _ (search rules) number_after (search rules)

below : (k n : ℕ) → k ≤ 5 → n < 10 ^ k → n < 100000
below k n h l = let p : 10 ^ k ≤ 10 ^ 5 = pow-le-pow_right (omega arith) h in omega arith

pub natural_true : (k : ℕ) (w : List ℕ) → k ≤ 5 → natural_form k w ≡ true → (w ≡ decimal (number_after 0 w)) × (number_after 0 w < 10 ^ k)
natural_true k w h t =
    let p = and_parts (digits w) _ t in
    let q = and_parts (leb 1 (length w)) _ p.1 in
    let r = and_parts (leb (length w) k) _ q.1 in
    let one = leb-true 1 (length w) q.0 in
    let few = leb-true (length w) k r.0 in
    let front : get_or w 0 0 ≡ 48 → length w ≡ 1 = λ e. (let z = r.1 in grind (arith, nat_tests)) in
    let v = digits_value_short own w k p.0 few in
    (sym (decimal-digits_value own w p.0 (omega arith) front (omega (arith, below k (number_after 0 w) h v))), v)

pub natural_decimal : (k n : ℕ) → 0 < k → k ≤ 5 → n < 10 ^ k → natural_form k (decimal n) ≡ true
natural_decimal k n z h l =
    let b = below k n h l in
    let d = digits_decimal own n (omega arith) in
    let s = decimal_nonempty n (omega arith) in
    let m = length-decimal-le k n z l (omega arith) in
    let f : (length (decimal n) ≤ 1) ⊎ (get_or (decimal n) 0 0 ≡ 48 → ⊥) = first n b in
    grind (arith, nat_tests)
  where
    first : (n : ℕ) → n < 100000 → (length (decimal n) ≤ 1) ⊎ (get_or (decimal n) 0 0 ≡ 48 → ⊥)
    first zero b = inl (omega (arith, ap length (decimal_digit 0 (omega arith))))
    first (suc n) b = let f = first_decimal (suc n) (omega arith) (omega arith) in inr (λ e. omega arith)

pub value_of : (n : ℕ) → n < 100000 → number_after 0 (decimal n) ≡ n
value_of n h = digits_value-decimal own n (omega arith)

pub natural_sound : (k : ℕ) (w : List ℕ) (n : ℕ) → k ≤ 5 → natural_of k w ≡ Some n → (w ≡ decimal n) × (n < 10 ^ k)
natural_sound k w n h e =
    let p = some_passed (natural_form k w) (number_after 0 w) n e in
    subst (λ m. (w ≡ decimal m) × (m < 10 ^ k)) p.1 (natural_true k w h p.0)

pub natural_complete : (k n : ℕ) → 0 < k → k ≤ 5 → n < 10 ^ k → natural_of k (decimal n) ≡ Some n
natural_complete k n z h l = rw (natural_decimal k n z h l) (ap Some (value_of n (below k n h l)))

signed_neg : (v : ℕ) → (v ≡ 0 → ⊥) → (signed_decimal (neg_ℤ (pos v)) ≡ 45 ∷ decimal v) × (nat_abs (neg_ℤ (pos v)) ≡ v)
signed_neg zero h = absurd (h refl)
signed_neg (suc v) h = (refl, refl)

pub minutes_sound : (w : List ℕ) (z : ℤ) → minutes_of w ≡ Some z → (w ≡ signed_decimal z) × (nat_abs z < 100000)
minutes_sound [] z e = no_value z e
minutes_sound (c ∷ cs) z e = go (eqb c 45) refl e
  where
    go : (t : Bool) → eqb c 45 ≡ t
        → cond t (cond (natural_form 5 cs && not (eqb (number_after 0 cs) 0)) (Some (neg_ℤ (pos (number_after 0 cs)))) None)
        (cond (natural_form 5 (c ∷ cs)) (Some (pos (number_after 0 (c ∷ cs)))) None) ≡ Some z
        → (c ∷ cs ≡ signed_decimal z) × (nat_abs z < 100000)
    go true d q =
        let p = some_passed (natural_form 5 cs && not (eqb (number_after 0 cs) 0)) _ z q in
        let r = and_parts (natural_form 5 cs) _ p.0 in
        let n = natural_true 5 cs (omega arith) r.0 in
        let s = signed_neg (number_after 0 cs) (eqb-false _ 0 (not-true _ r.1)) in
        let x = eqb-true c 45 d in
        let y = n.0 in
        let u = p.1 in
        let a : c ∷ cs ≡ 45 ∷ decimal (number_after 0 cs) = cc in
        subst (λ m. (c ∷ cs ≡ signed_decimal m) × (nat_abs m < 100000)) u (a ∙ sym s.0, omega (arith, s.1, n.1))
    go false d q =
        let p = some_passed (natural_form 5 (c ∷ cs)) _ z q in
        let n = natural_true 5 (c ∷ cs) (omega arith) p.0 in
        subst (λ m. (c ∷ cs ≡ signed_decimal m) × (nat_abs m < 100000)) p.1 (n.0, omega (arith, n.1))

plain : (w : List ℕ) (n : ℕ) → digits w ≡ true → natural_form 5 w ≡ true → number_after 0 w ≡ n → minutes_of w ≡ Some (pos n)
plain [] n d f e = let z : ◌≡◌ {A = ℕ} 0 1 = cc in absurd (omega arith)
plain (c ∷ cs) n d f e =
    let x = leb-true 48 c (and_parts (leb 48 c) _ (and_parts (leb 48 c && leb c 57) _ d).0).0 in
    rw (ne_eqb c 45 (λ h. omega arith), f) (ap (λ m. Some (pos m)) e)

pub minutes_complete : (z : ℤ) → nat_abs z < 100000 → minutes_of (signed_decimal z) ≡ Some z
minutes_complete (pos n) h = plain (decimal n) n (digits_decimal own n (omega arith)) (natural_decimal 5 n (omega arith) (omega arith) (omega arith))
    (value_of n h)
minutes_complete (negsuc n) h =
    let v = value_of (suc n) h in
    let f = natural_decimal 5 (suc n) (omega arith) (omega arith) (omega arith) in
    rw (f, v, ne_eqb (suc n) 0 (λ e. omega arith)) refl

pub digits_of : (n : ℕ) → n < 100000 → digits (decimal n) ≡ true
digits_of n h = digits_decimal own n (omega arith)
