-- What is known once the three verdicts are asked for: the minutes are those of the strongest grade that has a yes.
use Rattle.std.specs.Prelude.{◌≡◌, ℕ, ◌≤◌, Bool, true, false, List, ◌++◌, map, length, take, ℤ}
use Rattle.book.specs.Plain.{Plain}
use Rattle.rules.specs.declared.parts.Origin.{Origin}
use Rattle.rules.specs.Loops.{Loop}
use Rattle.find.specs.Answers.{origin_of}
use Rattle.grades.specs.Grades.{Minutes, Earliest}
use Rattle.grades.specs.Systems.{weak_system, weak_origins, listed}
use Rattle.verdicts.specs.declared.answers.WeakAnswer.{WeakAnswer}
use Rattle.verdicts.specs.declared.answers.WeakAnswer.TheVariants.{Yes, No}
use Rattle.verdicts.specs.Verdicts.{size, LowestFailing}
use Rattle.sheet.specs.declared.grade.Grade.{Grade}
use Rattle.sheet.specs.declared.grade.Grade.TheVariants.{Strong, Dynamic, Weak}
use Rattle.sheet.specs.declared.verdict.Verdicts.{Verdicts}
use Rattle.sheet.specs.Sheet.{strongest, is_strong, is_dynamic, is_weak}
use Rattle.sheet.specs.Printed.{good, Verdict, Rest, PlanSheet, SheetOf}

-- the minutes begin with those of the earliest strategy of a grade
abbrev pub Holds : Plain → Grade → List ℤ → Type 0
Holds b g minutes = (minute : Minutes) × Earliest b (good b g) minute × (take (size b) minutes ≡ listed b minute)

-- the origins begin with those of a loop of n rules of case s, the lowest that fails
abbrev pub Looping : Plain → List Origin → ℕ → ℕ → Type 0
Looping b origins s n =
    LowestFailing b s × (rs : List ℕ) × Loop (weak_system b s) rs × (length rs ≡ n) × (take n origins ≡ map (origin_of (weak_origins b s)) rs)

-- the minutes are those of the strongest grade with a yes; with none, the origins are those of a loop
abbrev pub Shown : Plain → List ℤ → List Origin → Bool → Bool → WeakAnswer → Type 0
Shown b minutes origins true dynamic weak = Holds b Strong minutes
Shown b minutes origins false true weak = Holds b Dynamic minutes
Shown b minutes origins false false Yes = Holds b Weak minutes
Shown b minutes origins false false (No case length) = Looping b origins case length

pub record Judged (b : Plain) (minutes : List ℤ) (origins : List Origin) (v : Verdicts) : Type 0 where
  pub strong_is : Verdict b Strong (is_strong v.strong)
  pub dynamic_is : Verdict b Dynamic (is_dynamic v.dynamic)
  pub weak_is : Verdict b Weak (is_weak v.weak)
  pub shown : Shown b minutes origins (is_strong v.strong) (is_dynamic v.dynamic) v.weak

-- what follows the verdicts was put at the end of a page
abbrev pub RestPut : Plain → (ℕ → List ℕ) → Verdicts → List ℕ → List ℕ → Type 0
RestPut b name v before after =
    (rest : List ℕ) × Rest b name (strongest (is_strong v.strong) (is_dynamic v.dynamic) (is_weak v.weak)) rest
    × (length rest ≤ 7000) × (after ≡ before ++ rest)

-- the sheet of a plan, no longer than 8,192 bytes, was put at the end of a page
abbrev pub SheetPut : Plain → (ℕ → List ℕ) → List ℕ → List ℕ → Type 0
SheetPut b name before after = (sheet : List ℕ) × PlanSheet b name sheet × (length sheet ≤ 8192) × (after ≡ before ++ sheet)

-- the same of a text
abbrev pub TextPut : List ℕ → List ℕ → List ℕ → Type 0
TextPut text before after = (sheet : List ℕ) × SheetOf text sheet × (length sheet ≤ 8192) × (after ≡ before ++ sheet)
