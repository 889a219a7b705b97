-- The rules of stored rows, one by one.
use Rattle.std.proofs.Common.{◌≡◌, ℕ, ◌<◌, min, List, length, get_or, take, ap, ◌∙◌, arith}
use Rattle.std.proofs.lemmas.List.{get_or-map, get_or-take, length-map, length-take}
use Rattle.rules.specs.declared.rows.Step.{Step}
use Rattle.rules.specs.declared.rows.Row.{Row}
use Rattle.rules.specs.Rules.{Rule, rule, alternative, no_rule, no_alternative}
use Rattle.rules.specs.Rows.{step_of, rule_of, system_by}

-- how many alternatives a row's rule has
pub row_count : (row : Row) → length (rule_of row).alternatives ≡ min row.count (length row.alternatives)
row_count row = length-map (take row.count row.alternatives) step_of ∙ length-take row.count row.alternatives

-- one of them
pub row_alternative : (row : Row) (a : ℕ) (d : Step) → a < row.count → a < length row.alternatives →
    alternative (rule_of row) a ≡ step_of (get_or row.alternatives a d)
row_alternative row a d h i =
    get_or-map step_of (take row.count row.alternatives) a d no_alternative (omega (arith, length-take row.count row.alternatives))
    ∙ ap step_of (get_or-take row.count row.alternatives a d h)

-- the rule of what is stored at r
pub stored_rule : {R : Type 0} (read : R → Rule) (places : ℕ) (rows : List R) (r : ℕ) (d : R) → r < length rows →
    rule (system_by read places rows) r ≡ read (get_or rows r d)
stored_rule read places rows r d h = get_or-map read rows r d no_rule h
