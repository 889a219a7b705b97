-- Rows that are numbered one after another.
use Rattle.std.proofs.Common.{◌≡◌, ℕ, zero, suc, ◌+◌, ◌<◌, List, [], ◌∷◌, ◌++◌, map, length, take, get_or, slice_get, Some, refl, ap, ◌∙◌, arith}
use Rattle.std.proofs.lemmas.List.{take_more, length-take-le}
use Rattle.rules.specs.declared.rows.Row.{Row}
use Rattle.rules.specs.declared.parts.Origin.TheVariants.{Bound}
use Rattle.rules.specs.Rows.{rule_of}
use Rattle.listed.specs.declared.numbered.Numbered.{Numbered}
use Rattle.listed.specs.Numbered.{with_numbers, bound_of, numbered}

push_number : (n m : ℕ) (rows : List Row) (row : Row) → m ≡ n + length rows
    → with_numbers n (rows ++ row ∷ []) ≡ with_numbers n rows ++ record { row = row; number = m } ∷ []
push_number n m [] row e = let z : n ≡ m = omega arith in ap (λ (k : ℕ). record { row = row; number = k } ∷ []) z
push_number n m (x ∷ rows) row e = ap (λ t. record { row = x; number = n } ∷ t) (push_number (suc n) m rows row (omega arith))

pub numbers_long : (n : ℕ) (rows : List Row) → length (with_numbers n rows) ≡ length rows
numbers_long n [] = refl
numbers_long n (x ∷ rows) = ap suc (numbers_long (suc n) rows)

-- the rules of numbered rows are those of the rows
pub numbers_rules : (n : ℕ) (rows : List Row) → map (λ (x : Numbered). rule_of x.row) (with_numbers n rows) ≡ map rule_of rows
numbers_rules n [] = refl
numbers_rules n (x ∷ rows) = ap (λ t. rule_of x ∷ t) (numbers_rules (suc n) rows)

-- their origins are the bounds of their numbers
pub numbers_bounds : (n : ℕ) (rows : List Row) → map bound_of (with_numbers n rows) ≡ numbered (length rows) n
numbers_bounds n [] = refl
numbers_bounds n (x ∷ rows) = ap (λ t. Bound n ∷ t) (numbers_bounds (suc n) rows)

pub numbered_long : (n from : ℕ) → length (numbered n from) ≡ n
numbered_long zero from = refl
numbered_long (suc n) from = ap suc (numbered_long n (suc from))

numbered_from : (n from r k : ℕ) → r < n → k ≡ from + r → slice_get (numbered n from) r ≡ Some (Bound k)
numbered_from zero from r k h e = absurd (omega arith)
numbered_from (suc n) from zero k h e = let z : from ≡ k = omega arith in ap (λ i. Some (Bound i)) z
numbered_from (suc n) from (suc r) k h e = numbered_from n (suc from) r k (omega arith) (omega arith)

pub numbered_item : (n r : ℕ) → r < n → slice_get (numbered n 0) r ≡ Some (Bound r)
numbered_item n r h = numbered_from n 0 r r h (omega arith)

-- one row more
pub one_more : (rows : List Row) (i : ℕ) (d : Row) → i < length rows
    → with_numbers 0 (take (i + 1) rows) ≡ with_numbers 0 (take i rows) ++ record { row = get_or rows i d; number = i } ∷ []
one_more rows i d h =
    ap (with_numbers 0) (take_more rows i d h) ∙ push_number 0 i (take i rows) (get_or rows i d) (omega (arith, length-take-le i rows (omega arith)))
