-- Every entry, and some entry, of the lists that rules are made of.
use Rattle.std.proofs.Common.{◌≡◌, ℕ, zero, suc, ◌<◌, Bool, true, false, ◌⊎◌, List, [], ◌∷◌, ◌++◌, map, length, get_or, sym, refl, subst}
use Rattle.std.proofs.Common.{inl, inr, ⊎_elim, arith}
use native.Mathlib.Decide.{ℕ_discrete}
use Rattle.grades.specs.Systems.{each_below, when}

module _ {A : Type 0} (P : A → Type 0) where
  abbrev pub Every : List A → Type 0
  Every [] = Unit {0}
  Every (x ∷ xs) = P x × Every xs

  abbrev pub SomeOf : List A → Type 0
  SomeOf [] = ⊥
  SomeOf (x ∷ xs) = P x ⊎ SomeOf xs

  pub every_at : (xs : List A) (d : A) → Every xs → (i : ℕ) → i < length xs → P (get_or xs i d)
  every_at [] d e i h = absurd (omega arith)
  every_at (x ∷ xs) d e zero h = e.0
  every_at (x ∷ xs) d e (suc i) h = every_at xs d e.1 i (omega arith)

  pub at_every : (xs : List A) (d : A) → ((i : ℕ) → i < length xs → P (get_or xs i d)) → Every xs
  at_every [] d f = tt
  at_every (x ∷ xs) d f = (f 0 (omega arith), at_every xs d (λ i h. f (suc i) (omega arith)))

  pub some_at : (xs : List A) (d : A) → SomeOf xs → (i : ℕ) × (i < length xs) × P (get_or xs i d)
  some_at [] d s = absurd s
  some_at (x ∷ xs) d (inl p) = (0, omega arith, p)
  some_at (x ∷ xs) d (inr s) = let r = some_at xs d s in (suc r.0, omega (arith, r.1), r.2)

  pub at_some : (xs : List A) (d : A) (i : ℕ) → i < length xs → P (get_or xs i d) → SomeOf xs
  at_some [] d i h p = absurd (omega arith)
  at_some (x ∷ xs) d zero h p = inl p
  at_some (x ∷ xs) d (suc i) h p = inr (at_some xs d i (omega arith) p)

  pub every_append : (xs ys : List A) → Every xs → Every ys → Every (xs ++ ys)
  every_append [] ys e f = f
  every_append (x ∷ xs) ys e f = (e.0, every_append xs ys e.1 f)

  pub every_left : (xs ys : List A) → Every (xs ++ ys) → Every xs
  every_left [] ys e = tt
  every_left (x ∷ xs) ys e = (e.0, every_left xs ys e.1)

  pub every_right : (xs ys : List A) → Every (xs ++ ys) → Every ys
  every_right [] ys e = e
  every_right (x ∷ xs) ys e = every_right xs ys e.1

  pub some_left : (xs ys : List A) → SomeOf xs → SomeOf (xs ++ ys)
  some_left [] ys s = absurd s
  some_left (x ∷ xs) ys (inl p) = inl p
  some_left (x ∷ xs) ys (inr s) = inr (some_left xs ys s)

  pub some_right : (xs ys : List A) → SomeOf ys → SomeOf (xs ++ ys)
  some_right [] ys s = s
  some_right (x ∷ xs) ys s = inr (some_right xs ys s)

  pub some_split : (xs ys : List A) → SomeOf (xs ++ ys) → SomeOf xs ⊎ SomeOf ys
  some_split [] ys s = inr s
  some_split (x ∷ xs) ys (inl p) = inl (inl p)
  some_split (x ∷ xs) ys (inr s) = ⊎_elim (λ (l : SomeOf xs). inl (inr l)) (λ (r : SomeOf ys). inr r) (some_split xs ys s)

  -- of a list made number by number
  pub every_below : (n : ℕ) (f : ℕ → List A) → ((k : ℕ) → k < n → Every (f k)) → Every (each_below n f)
  every_below zero f h = tt
  every_below (suc n) f h = every_append (each_below n f) (f n) (every_below n f (λ k l. h k (omega arith))) (h n (omega arith))

  pub below_every : (n : ℕ) (f : ℕ → List A) → Every (each_below n f) → (k : ℕ) → k < n → Every (f k)
  below_every zero f e k h = absurd (omega arith)
  below_every (suc n) f e k h = go (below_every n f (every_left (each_below n f) (f n) e) k) (ℕ_discrete k n)
    where
      go : (k < n → Every (f k)) → Dec (k ≡ n) → Every (f k)
      go ih (yes q) = subst (λ i. Every (f i)) (sym q) (every_right (each_below n f) (f n) e)
      go ih (no q) = ih (omega arith)

  pub some_below : (n : ℕ) (f : ℕ → List A) (k : ℕ) → k < n → SomeOf (f k) → SomeOf (each_below n f)
  some_below zero f k h s = absurd (omega arith)
  some_below (suc n) f k h s = go (λ l. some_below n f k l s) (ℕ_discrete k n)
    where
      go : (k < n → SomeOf (each_below n f)) → Dec (k ≡ n) → SomeOf (each_below n f ++ f n)
      go ih (yes q) = some_right (each_below n f) (f n) (subst (λ i. SomeOf (f i)) q s)
      go ih (no q) = some_left (each_below n f) (f n) (ih (omega arith))

  pub below_some : (n : ℕ) (f : ℕ → List A) → SomeOf (each_below n f) → (k : ℕ) × (k < n) × SomeOf (f k)
  below_some zero f s = absurd s
  below_some (suc n) f s =
      ⊎_elim (λ (l : SomeOf (each_below n f)). let r = below_some n f l in (r.0, omega (arith, r.1), r.2))
      (λ (r : SomeOf (f n)). (n, omega arith, r)) (some_split (each_below n f) (f n) s)

  -- of a list under a test
  pub every_when : (t : Bool) (x : A) → (t ≡ true → P x) → Every (when t (x ∷ []))
  every_when true x f = (f refl, tt)
  every_when false x f = tt

  pub when_every : (t : Bool) (x : A) → Every (when t (x ∷ [])) → t ≡ true → P x
  when_every true x e q = e.0
  when_every false x e q = let z : ◌≡◌ {A = ℕ} 0 1 = cc in absurd (omega arith)

  pub some_when : (t : Bool) (x : A) → t ≡ true → P x → SomeOf (when t (x ∷ []))
  some_when true x q p = inl p
  some_when false x q p = let z : ◌≡◌ {A = ℕ} 0 1 = cc in absurd (omega arith)

  pub when_some : (t : Bool) (x : A) → SomeOf (when t (x ∷ [])) → (t ≡ true) × P x
  when_some true x (inl p) = (refl, p)
  when_some true x (inr s) = absurd s
  when_some false x s = absurd s

pub every_map : {A B : Type 0} (P : B → Type 0) (f : A → B) (xs : List A) → Every (λ x. P (f x)) xs → Every P (map f xs)
every_map P f [] e = tt
every_map P f (x ∷ xs) e = (e.0, every_map P f xs e.1)

pub map_every : {A B : Type 0} (P : B → Type 0) (f : A → B) (xs : List A) → Every P (map f xs) → Every (λ x. P (f x)) xs
map_every P f [] e = tt
map_every P f (x ∷ xs) e = (e.0, map_every P f xs e.1)

pub every_like : {A : Type 0} (P Q : A → Type 0) → ((x : A) → P x → Q x) → (xs : List A) → Every P xs → Every Q xs
every_like P Q f [] e = tt
every_like P Q f (x ∷ xs) e = (f x e.0, every_like P Q f xs e.1)
