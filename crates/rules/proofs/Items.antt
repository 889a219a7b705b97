-- What is answered to the questions about a rule.
use Rattle.std.proofs.Common.{◌≡◌, ℕ, ◌<◌, ◌≤◌, List, map, length, get_or, slice_get, Some, None, ap, ◌∙◌, arith}
use Rattle.std.proofs.lemmas.Option.{slice_get-get_or, slice_get_past}
use Rattle.std.proofs.lemmas.List.{get_or-map, length-map}
use Rattle.rules.specs.Rules.{System, Rule, rule, alternative, no_rule, no_alternative}
use Rattle.rules.specs.Rules.{held_at, held_of, count_at, count_of, alternative_at, alternative_of}
use Rattle.rules.specs.Rows.{system_by}

-- of any system, below the end
pub held_within : (m : System) (r : ℕ) → r < length m.rules → held_at m r ≡ Some (rule m r).held
held_within m r h = ap held_of (slice_get-get_or m.rules r no_rule h)

pub count_within : (m : System) (r : ℕ) → r < length m.rules → count_at m r ≡ Some (length (rule m r).alternatives)
count_within m r h = ap count_of (slice_get-get_or m.rules r no_rule h)

pub alternative_within : (m : System) (r a : ℕ) → r < length m.rules → a < length (rule m r).alternatives →
    alternative_at m r a ≡ Some (alternative (rule m r) a)
alternative_within m r a h i =
    ap (λ x. alternative_of x a) (slice_get-get_or m.rules r no_rule h) ∙ slice_get-get_or (rule m r).alternatives a no_alternative i

-- the rule of what is stored at r, and none past the last
module _ {R : Type 0} (read : R → Rule) (rows : List R) (r : ℕ) where
  pub rows_item : (d : R) → r < length rows → slice_get (map read rows) r ≡ Some (read (get_or rows r d))
  rows_item d h =
      slice_get-get_or (map read rows) r no_rule (omega (arith, length-map rows read)) ∙ ap Some (get_or-map read rows r d no_rule h)

  pub rows_none : length rows ≤ r → slice_get (map read rows) r ≡ None
  rows_none h = slice_get_past (map read rows) r (omega (arith, length-map rows read))

-- so what a table's system answers
module _ {R : Type 0} (read : R → Rule) (places : ℕ) (rows : List R) (r : ℕ) (d : R) (h : r < length rows) where
  pub rows_held : held_at (system_by read places rows) r ≡ Some (read (get_or rows r d)).held
  rows_held = ap held_of (rows_item read rows r d h)

  pub rows_count : count_at (system_by read places rows) r ≡ Some (length (read (get_or rows r d)).alternatives)
  rows_count = ap count_of (rows_item read rows r d h)

  pub rows_alternative : (a : ℕ) → alternative_at (system_by read places rows) r a ≡ slice_get (read (get_or rows r d)).alternatives a
  rows_alternative a = ap (λ x. alternative_of x a) (rows_item read rows r d h)

module _ {R : Type 0} (read : R → Rule) (places : ℕ) (rows : List R) (r : ℕ) (h : length rows ≤ r) where
  pub no_held : held_at (system_by read places rows) r ≡ None
  no_held = ap held_of (rows_none read rows r h)

  pub no_count : count_at (system_by read places rows) r ≡ None
  no_count = ap count_of (rows_none read rows r h)

  pub no_alternative_at : (a : ℕ) → alternative_at (system_by read places rows) r a ≡ None
  no_alternative_at a = ap (λ x. alternative_of x a) (rows_none read rows r h)
