-- A system with one place for each job, lowered so that `start` is at 0.
use Rattle.std.proofs.Common.{◌≡◌, ℕ, ◌-◌, List, map, length, ◌∙◌, arith}
use lib.ListN.{length-map}
use Rattle.book.specs.Plain.{Plain, bound}
use Rattle.book.specs.Sound.{Sound}
use Rattle.rules.specs.Rules.{System, Keeps, Least, at}
use Rattle.grades.proofs.Props.{Holding}
use Rattle.grades.proofs.Strategies.{lower_holding, at_lowered}

-- the table lowered by the minute of its first place
abbrev pub lowered : List ℕ → List ℕ
lowered table = map (λ v. v - at table 0) table

-- C: the bounds that count; D: the jobs done; a table keeps the system exactly where it keeps the holds of C and D
pub record Single (b : Plain) (C D : ℕ → Type 0) (m : System) : Type 1 where
  pub joins : (i : ℕ) → C i → D (bound b i).first × D (bound b i).second
  pub start : D 0
  pub into : (table : List ℕ) → Keeps m table → Holding b C D (λ j. at table j)
  pub back : (table : List ℕ) → length table ≡ m.places → Holding b C D (λ j. at table j) → Keeps m table

module _ (b : Plain) (sound : Sound b) (C D : ℕ → Type 0) (m : System) (x : Single b C D m) where
  pub lowered_keeps : (table : List ℕ) → Keeps m table → Keeps m (lowered table)
  lowered_keeps table keeps =
      let k = x.into table keeps in
      x.back (lowered table) (length-map table (λ v. v - at table 0) ∙ keeps.sized)
      (lower_holding b sound C D x.joins (λ j. at table j) (λ j. at (lowered table) j) (at table 0)
      (λ j h p. omega (arith, at_lowered table (at table 0) j, k.start j h p x.start)) k)

  pub lowered_zero : (table : List ℕ) → at (lowered table) 0 ≡ 0
  lowered_zero table = omega (arith, at_lowered table (at table 0) 0)

  pub least_zero : (table : List ℕ) → Least m table → at table 0 ≡ 0
  least_zero table least = omega (arith, least.least (lowered table) (lowered_keeps table least.keeps) 0, lowered_zero table)
