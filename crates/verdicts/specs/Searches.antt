-- What the searches of a book's rules answer.
use Rattle.std.specs.Prelude.{◌≡◌, ℕ, ◌*◌, List, length, take, drop, ℤ, Result}
use Rattle.book.specs.Plain.{Plain}
use Rattle.rules.specs.declared.parts.Origin.{Origin}
use Rattle.rules.specs.Rules.{System}
use Rattle.find.specs.declared.answers.Explained.{Explained}
use Rattle.find.specs.declared.answers.Refusal.{Refusal}
use Rattle.find.specs.Answers.{Explains}
use Rattle.grades.specs.Systems.{strong_system, strong_origins, weak_system, weak_origins}

-- where the part of a case begins in a list with a number for each case and job
abbrev pub part : Plain → ℕ → ℕ
part b s = s * length b.jobs

-- a search of the strong rules
abbrev pub StrongSearch : Plain → List ℤ → List ℤ → List Origin → List Origin → Result Explained Refusal → Type 0
StrongSearch b before after loops loops_after r = Explains (strong_system b) (strong_origins b) before after loops loops_after r

-- a search whose table goes over the numbers from an index on; those before it stay
pub record SearchFrom (m : System) (origins : List Origin) (from : ℕ) (before after : List ℤ) (loops loops_after : List Origin)
    (r : Result Explained Refusal) : Type 0 where
  pub said : Explains m origins (drop from before) (drop from after) loops loops_after r
  pub front : take from after ≡ take from before

-- a search of the weak rules of a case, over the case's part
abbrev pub CaseSearch : Plain → ℕ → List ℤ → List ℤ → List Origin → List Origin → Result Explained Refusal → Type 0
CaseSearch b s before after loops loops_after r =
    SearchFrom (weak_system b s) (weak_origins b s) (part b s) before after loops loops_after r
