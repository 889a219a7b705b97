-- Cutting a text into pieces, and putting them together again.
use Rattle.std.proofs.Common.{◌≡◌, ℕ, Bool, true, false, cond, eqb, List, [], ◌∷◌, ◌++◌, map, sym, refl, ap, ◌∙◌}
use Rattle.std.proofs.lemmas.Bool.{eqb-true, ne_eqb, eq-eqb}
use Rattle.format.specs.Format.{spaced, ended, Every}
use Rattle.format.specs.Faults.{cut, onto}

-- pieces with a byte between two of them
abbrev pub joined : ℕ → List (List ℕ) → List ℕ
joined c [] = []
joined c (w ∷ []) = w
joined c (w ∷ (v ∷ vs)) = w ++ (c ∷ joined c (v ∷ vs))

joined_onto : (c x : ℕ) (ws : List (List ℕ)) → joined c (onto x ws) ≡ x ∷ joined c ws
joined_onto c x [] = refl
joined_onto c x (w ∷ []) = refl
joined_onto c x (w ∷ (v ∷ vs)) = refl

-- a cut has at least one piece
pub some_cut : (c : ℕ) (xs : List ℕ) → (w : List ℕ) × (ws : List (List ℕ)) × (cut c xs ≡ w ∷ ws)
some_cut c [] = ([], [], refl)
some_cut c (x ∷ xs) = go (eqb x c) (some_cut c xs)
  where
    go : (t : Bool) → (w : List ℕ) × (ws : List (List ℕ)) × (cut c xs ≡ w ∷ ws)
        → (w : List ℕ) × (ws : List (List ℕ)) × (cond t ([] ∷ cut c xs) (onto x (cut c xs)) ≡ w ∷ ws)
    go true s = ([], cut c xs, refl)
    go false s = (x ∷ s.0, s.1, ap (onto x) s.2)

joined_more : (c : ℕ) (xs : List ℕ) → joined c ([] ∷ cut c xs) ≡ c ∷ joined c (cut c xs)
joined_more c xs = let s = some_cut c xs in rw s.2 refl

pub joined_cut : (c : ℕ) (xs : List ℕ) → joined c (cut c xs) ≡ xs
joined_cut c [] = refl
joined_cut c (x ∷ xs) = go (eqb x c) refl (joined_cut c xs)
  where
    go : (t : Bool) → eqb x c ≡ t → joined c (cut c xs) ≡ xs → joined c (cond t ([] ∷ cut c xs) (onto x (cut c xs))) ≡ x ∷ xs
    go true e ih = let d = eqb-true x c e in let m = joined_more c xs in cc
    go false e ih = joined_onto c x (cut c xs) ∙ ap (λ t. x ∷ t) ih

-- a piece without the byte, and the byte after it
abbrev pub Free : ℕ → List ℕ → Type 0
Free c w = Every (λ x. x ≡ c → ⊥) w

pub cut_piece : (c : ℕ) (w xs : List ℕ) → Free c w → cut c (w ++ (c ∷ xs)) ≡ w ∷ cut c xs
cut_piece c [] xs f = rw (eq-eqb c c refl) refl
cut_piece c (x ∷ w) xs f = rw (ne_eqb x c f.0, cut_piece c w xs f.1) refl

pub cut_last : (c : ℕ) (w : List ℕ) → Free c w → cut c w ≡ w ∷ []
cut_last c [] f = refl
cut_last c (x ∷ w) f = rw (ne_eqb x c f.0, cut_last c w f.1) refl

pub spaced_joined : (ws : List (List ℕ)) → spaced ws ≡ joined 32 ws
spaced_joined [] = refl
spaced_joined (w ∷ []) = refl
spaced_joined (w ∷ (v ∷ vs)) = ap (λ t. w ++ (32 ∷ t)) (spaced_joined (v ∷ vs))

-- the words of a line
pub spaced_cut : (x : List ℕ) → spaced (cut 32 x) ≡ x
spaced_cut x = spaced_joined (cut 32 x) ∙ joined_cut 32 x

pub cut_spaced : (w : List ℕ) (ws : List (List ℕ)) → Every (Free 32) (w ∷ ws) → cut 32 (spaced (w ∷ ws)) ≡ w ∷ ws
cut_spaced w [] f = cut_last 32 w f.0
cut_spaced w (v ∷ vs) f = cut_piece 32 w (spaced (v ∷ vs)) f.0 ∙ ap (λ t. w ∷ t) (cut_spaced v vs f.1)

-- the lines of a text
pub cut_ended : (ls : List (List (List ℕ))) → Every (λ l. Free 10 (spaced l)) ls → cut 10 (ended ls) ≡ map spaced ls ++ ([] ∷ [])
cut_ended [] f = refl
cut_ended (l ∷ ls) f = cut_piece 10 (spaced l) (ended ls) f.0 ∙ ap (λ t. spaced l ∷ t) (cut_ended ls f.1)

joined_ended : (ls : List (List (List ℕ))) → joined 10 (map spaced ls ++ ([] ∷ [])) ≡ ended ls
joined_ended [] = refl
joined_ended (l ∷ []) = refl
joined_ended (l ∷ (m ∷ ls)) = ap (λ t. spaced l ++ (10 ∷ t)) (joined_ended (m ∷ ls))

pub ended_cut : (bytes : List ℕ) (ls : List (List (List ℕ))) → cut 10 bytes ≡ map spaced ls ++ ([] ∷ []) → bytes ≡ ended ls
ended_cut bytes ls e = sym (joined_cut 10 bytes) ∙ ap (joined 10) e ∙ joined_ended ls
