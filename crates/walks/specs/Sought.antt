-- Which check is sought, from the set of the jobs just told and the set of the checks heard of.
use Rattle.std.specs.Prelude.{ℕ, ◌<◌, Option, MatchOption}
use Rattle.book.specs.Plain.{Plain, checks, asking}
use Rattle.walks.specs.Logs.{Has}

-- check c is among the jobs just told, and was not heard of
pub record Sought (b : Plain) (just heard c : ℕ) : Type 0 where
  pub known : c < checks b
  pub told : Has just (asking b c)
  pub unheard : Has heard c → ⊥

abbrev pub LowestSought : Plain → ℕ → ℕ → Option ℕ → Type 0
LowestSought b just heard lowest = MatchOption lowest
    ((c : ℕ) → Sought b just heard c → ⊥)
    (λ c. Sought b just heard c × ((d : ℕ) → d < c → Sought b just heard d → ⊥))
