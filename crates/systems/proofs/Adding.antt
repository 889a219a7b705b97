-- Filling a table from the front, piece by piece.
use Rattle.std.proofs.Common.{◌≡◌, ℕ, zero, suc, ◌+◌, ◌-◌, ◌≤◌, Bool, true, false, List, [], ◌∷◌, ◌++◌, map, length, take, sym, refl, ap, ◌∙◌}
use Rattle.std.proofs.Common.{append_assoc, append-nil, add-one, length-append, arith}
use Rattle.std.proofs.lemmas.List.{take-map, map-append, take_all, length-map, length-take}
use Rattle.rules.specs.Tables.{Adds}
use Rattle.grades.specs.Systems.{each_below, when}

take_none : {A : Type 0} (n : ℕ) → take {A = A} n [] ≡ []
take_none zero = refl
take_none (suc n) = refl

-- the front of two lists, one behind the other
take_both : {A : Type 0} (m k : ℕ) (x y : List A) → k ≡ m - length x → take m (x ++ y) ≡ take m x ++ take k y
take_both zero k x y e = let z : 0 ≡ k = omega arith in ap (λ i. take i y) z
take_both (suc m) k [] y e = let z : suc m ≡ k = omega arith in ap (λ i. take i y) z
take_both (suc m) k (v ∷ x) y e = ap (λ l. v ∷ l) (take_both m k x y (omega arith))

module _ {A : Type 0} (n : ℕ) where
  -- nothing more
  pub adds_none : (xs : List A) → Adds n xs [] xs
  adds_none xs = sym (ap (λ ys. xs ++ ys) (take_none (n - length xs)) ∙ append-nil xs)

  -- two pieces, one after the other
  pub adds_then : (a x b y c : List A) → Adds n a x b → Adds n b y c → Adds n a (x ++ y) c
  adds_then a x b y c p q =
      let m = n - length a in
      let room : n - length b ≡ m - length x = omega (arith, ap length p, length-append a (take m x), length-take m x) in
      q ∙ (ap (λ z. z ++ take (n - length b) y) p
      ∙ (append_assoc a (take m x) (take (n - length b) y) ∙ ap (λ z. a ++ z) (sym (take_both m (n - length b) x y room))))

  -- what each number gives, and one number more
  pub adds_more : (before now after : List A) (i : ℕ) (f : ℕ → List A) → Adds n before (each_below i f) now → Adds n now (f i) after
      → Adds n before (each_below (i + 1) f) after
  adds_more before now after i f p q = rw (add-one i) (adds_then before (each_below i f) now (f i) after p q)

  -- one more where a test holds, and nothing where it does not
  pub adds_when : (t : Bool) (x : A) (now after : List A) → t ≡ true → Adds n now (x ∷ []) after → Adds n now (when t (x ∷ [])) after
  adds_when t x now after e p = rw e p

  pub adds_not : (t : Bool) (x : A) (now after : List A) → t ≡ false → after ≡ now → Adds n now (when t (x ∷ [])) after
  adds_not t x now after e p = rw e (p ∙ adds_none now)

  -- what was put into an empty table with room enough
  pub adds_all : (xs after : List A) → Adds n [] xs after → length xs ≤ n → after ≡ xs
  adds_all xs after p h = p ∙ take_all (n - length {A = A} []) xs (omega (arith, h))

-- what is put behind a list of things is put behind the list of their meanings
pub adds_made : {A B : Type 0} (n : ℕ) (g : A → B) (before more after : List A) → Adds n before more after
    → Adds n (map g before) (map g more) (map g after)
adds_made n g before more after e =
    let k = n - length before in
    ap (map g) e ∙ (map-append g before (take k more) ∙ ap (λ z. map g before ++ z)
    (sym (take-map g k more) ∙ ap (λ i. take (n - i) (map g more)) (sym (length-map before g))))
