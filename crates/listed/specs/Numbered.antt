-- Rows with their numbers, and the origins that they give.
use Rattle.std.specs.Prelude.{ℕ, zero, suc, List, [], ◌∷◌}
use Rattle.rules.specs.declared.parts.Origin.{Origin}
use Rattle.rules.specs.declared.parts.Origin.TheVariants.{Bound}
use Rattle.rules.specs.declared.rows.Row.{Row}
use Rattle.rules.specs.Rules.{Rule}
use Rattle.rules.specs.Rows.{rule_of}
use Rattle.listed.specs.declared.numbered.Numbered.{Numbered}

-- the rule of a numbered row, and the bound that it comes from
abbrev pub row_rule : Numbered → Rule
row_rule x = rule_of x.row

abbrev pub bound_of : Numbered → Origin
bound_of x = Bound x.number

-- rows in their order, numbered from n on
abbrev pub with_numbers : ℕ → List Row → List Numbered
with_numbers n [] = []
with_numbers n (row ∷ rows) = record { row = row; number = n } ∷ with_numbers (suc n) rows

-- so many bounds, by number, from one on
abbrev pub numbered : ℕ → ℕ → List Origin
numbered zero from = []
numbered (suc n) from = Bound from ∷ numbered n (suc from)
