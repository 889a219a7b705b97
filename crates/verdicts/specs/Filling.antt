-- A table of minutes, spread over the minutes list case by case.
use Rattle.std.specs.Prelude.{◌≡◌, ℕ, ◌+◌, ◌*◌, ◌<◌, cond, List, [], ◌∷◌, ◌++◌, length, take, drop, ℤ, pos, negsuc, slice_index_or}
use Rattle.book.specs.Done.{done}
use Rattle.book.specs.Plain.{Plain, cases}
use Rattle.rules.specs.Rules.{Least, at}
use Rattle.find.specs.declared.answers.Explained.{Explained}
use Rattle.find.specs.declared.answers.Explained.TheVariants as explained
use Rattle.find.specs.declared.answers.Found.{Found}
use Rattle.find.specs.declared.answers.Found.TheVariants.{Table, NoTable}
use Rattle.grades.specs.Systems.{each_below, weak_system}
use Rattle.verdicts.specs.declared.answers.StrongAnswer.{StrongAnswer}
use Rattle.verdicts.specs.declared.answers.StrongAnswer.TheVariants.{Yes as StrongYes, No as StrongNo}
use Rattle.verdicts.specs.declared.answers.DynamicAnswer.{DynamicAnswer}
use Rattle.verdicts.specs.declared.answers.DynamicAnswer.TheVariants.{Yes as DynamicYes, No as DynamicNo}
use Rattle.verdicts.specs.Searches.{part}
use Rattle.verdicts.specs.Verdicts.{size}

-- what the table says of a job in a case, where the minutes of the case stand from `from` on; -1 for a job not done
abbrev pub spread : Plain → List ℤ → ℕ → ℕ → ℕ → List ℤ
spread b table from s j = cond (done b s j) (slice_index_or table (from + j) (pos 0)) (negsuc 0) ∷ []

-- the minutes of one case, by job number
abbrev pub block : Plain → List ℤ → ℕ → ℕ → List ℤ
block b table from s = each_below (length b.jobs) (spread b table from s)

-- the minutes of a case stand in the case's part of the list, and the rest is as before
abbrev pub CaseFilled : Plain → List ℤ → ℕ → ℕ → List ℤ → List ℤ → Type 0
CaseFilled b table from s before after =
    after ≡ (take (part b s) before ++ block b table from s) ++ drop (part b s + length b.jobs) before

-- the minutes of all cases, where those of two cases stand `apart` places from each other
abbrev pub blocks : Plain → List ℤ → ℕ → List ℤ
blocks b table apart = each_below (cases b) (λ s. block b table (s * apart) s)

-- they stand first in the list, and the rest is as before
abbrev pub Filled : Plain → List ℤ → ℕ → List ℤ → List ℤ → Type 0
Filled b table apart before after = after ≡ blocks b table apart ++ drop (size b) before

-- what a strong, and a dynamic, search comes to: the list is filled and the answer yes, or it stays and the answer is no
abbrev pub StrongEnds : Explained → Plain → List ℤ → List ℤ → List ℤ → StrongAnswer → Type 0
StrongEnds explained.Table b table before after r = (r ≡ StrongYes) × Filled b table 0 before after
StrongEnds (explained.Loop n) b table before after r = (r ≡ StrongNo n) × (after ≡ before)

abbrev pub DynamicEnds : Found → Plain → List ℤ → List ℤ → List ℤ → DynamicAnswer → Type 0
DynamicEnds Table b table before after r = (r ≡ DynamicYes) × Filled b table (length b.jobs) before after
DynamicEnds NoTable b table before after r = (r ≡ DynamicNo) × (after ≡ before)

-- the list has the least tables of the weak rules of the first `some` cases, one after another
pub record WeakTables (b : Plain) (some : ℕ) (found : List ℤ) : Type 0 where
  pub tables : ℕ → List ℕ
  pub least : (s : ℕ) → s < some → Least (weak_system b s) (tables s)
  pub read : (s : ℕ) → s < some → (j : ℕ) → j < length b.jobs → slice_index_or found (part b s + j) (pos 0) ≡ pos (at (tables s) j)
