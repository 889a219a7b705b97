-- Loops shown by tests that are computed.
use Rattle.std.proofs.Common.{◌≡◌, ℕ, ◌<◌, Bool, true, cond, eqb, List, length, get_or}
use Rattle.std.proofs.lemmas.Bool.Decides.{Decides-eqb}
use Rattle.book.specs.Labels.{all_below}
use Rattle.rules.specs.Rules.{System, rule}
use Rattle.examples.proofs.Tested.{if_true, all_true}

-- the place that rule i of a list holds back
abbrev pub holding : System → List ℕ → ℕ → ℕ
holding m rs i = (rule m (get_or rs i 0)).held

-- no place is held back twice
abbrev pub no_other : System → List ℕ → ℕ → ℕ → Bool
no_other m rs i j = cond (eqb (holding m rs i) (holding m rs j)) (eqb i j) true

pub once_by_test : (m : System) (rs : List ℕ) → all_below (length rs) (λ i. all_below (length rs) (no_other m rs i)) ≡ true →
    (i j : ℕ) → i < length rs → j < length rs → holding m rs i ≡ holding m rs j → i ≡ j
once_by_test m rs e i j h k q =
    (Decides-eqb i j).0 (if_true (eqb (holding m rs i) (holding m rs j)) (eqb i j)
    (all_true (length rs) (no_other m rs i) (all_true (length rs) (λ x. all_below (length rs) (no_other m rs x)) e i h) j k)
    ((Decides-eqb (holding m rs i) (holding m rs j)).1 q))
