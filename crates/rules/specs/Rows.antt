-- What stored rules mean: each is a rule, and a list of them is a rule system.
use Rattle.std.specs.Prelude.{ℕ, List, map, take}
use Rattle.rules.specs.declared.parts.Alternative.{Alternative}
use Rattle.rules.specs.declared.rows.Step.{Step}
use Rattle.rules.specs.declared.rows.Row.{Row}
use Rattle.rules.specs.Rules.{Rule, System}

-- so many places, and the rules that are read from what is stored, in their order
abbrev pub system_by : {R : Type 0} → (R → Rule) → ℕ → List R → System
system_by rule places stored = record { places = places; rules = map rule stored }

-- what a row's alternative means
abbrev pub step_of : Step → Alternative
step_of s = record { place = s.place; minutes = s.minutes }

-- the first `count` alternatives of a row are those of its rule
abbrev pub rule_of : Row → Rule
rule_of row = record { held = row.held; alternatives = map step_of (take row.count row.alternatives) }
