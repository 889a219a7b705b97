-- The pieces of a text.
use Rattle.std.proofs.Common.{◌≡◌, ℕ, ◌+◌, ◌<◌, ◌≤◌, Bool, true, false, cond, eqb, ◌⊎◌, List, [], ◌∷◌, ◌++◌, length, take, drop, ltb, not, Some, None}
use Rattle.std.proofs.Common.{Option, MatchOption, sym, refl, ap, ◌∙◌, arith}
use Rattle.std.proofs.lemmas.List.{length-append, length-drop, take_all, take-take, drop-take, drop-drop}
use Rattle.std.proofs.Math.Seq.{take-append_seam, drop-append_seam}
use Rattle.reader.specs.declared.piece.Piece.{Piece}
use Rattle.reader.specs.Pieces.{Lies, Parted}
use Rattle.std.specs.List.{slice_split, onto_first, position_or_len, position}
use Rattle.std.proofs.lemmas.List.Splits.{slice_split_first}
use Rattle.std.proofs.lemmas.List.Sums.{split_at_first, passes_at_first}
use Rattle.std.proofs.lemmas.Bool.{eqb-true, ltb-true, ltb-false}
use Rattle.format.specs.Faults.{cut, onto}
use Rattle.format.specs.Format.{same}

-- a cut is what `split` gives
cut_is : (c : ℕ) (xs : List ℕ) → cut c xs ≡ slice_split (λ x. eqb x c) xs
cut_is c [] = refl
cut_is c (x ∷ xs) = rw (cut_is c xs) (ap (cond (eqb x c) ([] ∷ slice_split (λ x. eqb x c) xs)) (one_way x (slice_split (λ x. eqb x c) xs)))
  where
    one_way : (x : ℕ) (ws : List (List ℕ)) → onto x ws ≡ onto_first x ws
    one_way x [] = refl
    one_way x (w ∷ ws) = refl

-- a text with no byte c is one piece
uncut : (c : ℕ) (xs : List ℕ) → length xs ≤ position_or_len (λ x. eqb x c) xs → cut c xs ≡ xs ∷ []
uncut c [] h = refl
uncut c (x ∷ xs) h = go (eqb x c) h (uncut c xs)
  where
    go : (t : Bool) → length (x ∷ xs) ≤ cond (not t) (1 + position_or_len (λ x. eqb x c) xs) 0
        → (length xs ≤ position_or_len (λ x. eqb x c) xs → cut c xs ≡ xs ∷ []) → cond t ([] ∷ cut c xs) (onto x (cut c xs)) ≡ (x ∷ xs) ∷ []
    go true h ih = absurd (omega arith)
    go false h ih = rw (ih (omega arith)) refl

-- at its first byte c, a text is cut
abbrev pub CutAt : ℕ → List ℕ → ℕ → Type 0
CutAt c xs n = (n < length xs) × (cut c xs ≡ take n xs ∷ cut c (drop (n + 1) xs)) × (xs ≡ take n xs ++ (c ∷ drop (n + 1) xs))

pub cut_at : (c : ℕ) (xs : List ℕ) (r : Option ℕ) → r ≡ position (λ x. eqb x c) xs → MatchOption r (cut c xs ≡ xs ∷ []) (CutAt c xs)
cut_at c xs r e = go (ltb (position_or_len p xs) (length xs)) refl r e
  where
    p : ℕ → Bool
    p = λ x. eqb x c

    go : (t : Bool) → ltb (position_or_len (λ x. eqb x c) xs) (length xs) ≡ t → (r : Option ℕ)
        → r ≡ cond t (Some (position_or_len (λ x. eqb x c) xs)) None → MatchOption r (cut c xs ≡ xs ∷ []) (CutAt c xs)
    go true h (Some n) q =
        let k : n ≡ position_or_len (λ x. eqb x c) xs = cc in
        let l = ltb-true _ _ h in
        rw k (
          l,
          cut_is c xs ∙ (slice_split_first (λ x. eqb x c) xs 0 l ∙ ap (λ ws. take (position_or_len (λ x. eqb x c) xs) xs ∷ ws) (sym (cut_is c _))),
          split_at_first (λ x. eqb x c) xs 0 l
              ∙ ap (λ y. take (position_or_len (λ x. eqb x c) xs) xs ++ (y ∷ drop (position_or_len (λ x. eqb x c) xs + 1) xs))
              (eqb-true _ c (passes_at_first (λ x. eqb x c) xs 0 l)),
        )
    go true h None q = cc
    go false h (Some n) q = cc
    go false h None q = uncut c xs (ltb-false _ _ h)

-- words of two lengths differ
pub not_same : (w v : List ℕ) → (length w < length v) ⊎ (length v < length w) → same w v ≡ false
not_same [] [] h = absurd (omega arith)
not_same [] (y ∷ ys) h = refl
not_same (x ∷ xs) [] h = refl
not_same (x ∷ xs) (y ∷ ys) h = grind (arith, not_same xs ys)

-- the parts of a part of a text are parts of it
pub part_of : (text a z : List ℕ) (b : ℕ) → a ++ z ≡ take (length (a ++ z)) (drop b text)
    → (a ≡ take (length a) (drop b text)) × (z ≡ take (length z) (drop (b + length a) text))
part_of text a z b e =
    let long = length-append a z in (
      sym (take-append_seam a z) ∙ (ap (take (length a)) e ∙ take-take (length a) (length (a ++ z)) (drop b text) (omega arith)),
      sym (drop-append_seam a z) ∙ (ap (drop (length a)) (e ∙ ap (λ n. take n (drop b text)) long)
          ∙ (drop-take (length a) (length z) (drop b text) ∙ ap (take (length z)) (drop-drop (length a) b text))),
    )

-- a piece that ends where a text does is all of it from a byte on
pub to_end : (text : List ℕ) (p : Piece) → Lies text p → p.byte + length p.bytes.now ≡ length text → p.bytes.now ≡ drop p.byte text
to_end text p h e = h.there ∙ take_all (length p.bytes.now) (drop p.byte text) (omega (arith, e, length-drop p.byte text))

module _ (c : ℕ) (text : List ℕ) (whole front : Piece) where
  -- the front of a piece lies where the piece does
  pub lies_front : (rest : Option Piece) → Lies text whole → Parted c whole front rest → Lies text front
  lies_front None h p = record { short = h.short; within = rw (p.byte, p.after) h.within; there = rw (p.byte, p.after) h.there }
  lies_front (Some rest) h p =
      let w = part_of text front.bytes.now (c ∷ rest.bytes.now) whole.byte (rw (← p.after.all) h.there) in
      record {
        short = h.short;
        within = omega (arith, h.within, p.byte, ap length p.after.all, length-append front.bytes.now (c ∷ rest.bytes.now));
        there = rw p.byte w.0;
      }

  -- and the rest of it behind the front
  pub lies_rest : (rest : Piece) → Lies text whole → Parted c whole front (Some rest)
      → (rest.byte + length rest.bytes.now ≤ length text) × (rest.bytes.now ≡ take (length rest.bytes.now) (drop rest.byte text))
  lies_rest rest h p =
      let w = part_of text front.bytes.now (c ∷ rest.bytes.now) whole.byte (rw (← p.after.all) h.there) in
      let r = part_of text (c ∷ []) rest.bytes.now (whole.byte + length front.bytes.now) w.1 in (
        omega (arith, h.within, p.after.byte, ap length p.after.all, length-append front.bytes.now (c ∷ rest.bytes.now)),
        rw p.after.byte r.1,
      )

  -- which ends where the piece does
  pub ends_rest : (rest : Piece) → Parted c whole front (Some rest)
      → rest.byte + length rest.bytes.now ≡ whole.byte + length whole.bytes.now
  ends_rest rest p = omega (arith, p.after.byte, ap length p.after.all, length-append front.bytes.now (c ∷ rest.bytes.now))
