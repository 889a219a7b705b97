-- What the verdicts answer, in the words of strategies and loops.
use Rattle.std.specs.Prelude.{◌≡◌, ℕ, ◌*◌, ◌<◌, ◌≤◌, List, ◌++◌, length, drop, ℤ, Ok, Err, Result}
use Rattle.book.specs.Plain.{Plain, Case, cases}
use Rattle.rules.specs.declared.parts.Origin.{Origin}
use Rattle.rules.specs.Rules.{Keeps, NoneKeeps}
use Rattle.find.specs.declared.answers.Refusal.{Refusal}
use Rattle.find.specs.declared.answers.Refusal.TheVariants.{MinutesShort, LoopShort}
use Rattle.find.specs.Answers.{Looped}
use Rattle.grades.specs.Grades.{Minutes, Strong, Weak, Dynamic, Earliest}
use Rattle.grades.specs.Systems.{strong_system, weak_system, strong_origins, weak_origins, listed}
use Rattle.verdicts.specs.declared.answers.StrongAnswer.{StrongAnswer}
use Rattle.verdicts.specs.declared.answers.StrongAnswer.TheVariants.{Yes as StrongYes, No as StrongNo}
use Rattle.verdicts.specs.declared.answers.WeakAnswer.{WeakAnswer}
use Rattle.verdicts.specs.declared.answers.WeakAnswer.TheVariants.{Yes as WeakYes, No as WeakNo}
use Rattle.verdicts.specs.declared.answers.DynamicAnswer.{DynamicAnswer}
use Rattle.verdicts.specs.declared.answers.DynamicAnswer.TheVariants.{Yes as DynamicYes, No as DynamicNo}

-- how many numbers a yes writes: one for each case and job
abbrev pub size : Plain → ℕ
size b = cases b * length b.jobs

-- a yes: the minutes list begins with the earliest strategy of the grade, and goes on as before
abbrev pub ListsEarliest : Plain → (Minutes → Type 0) → List ℤ → List ℤ → Type 0
ListsEarliest b Grade before after = (minute : Minutes) × Earliest b Grade minute × (after ≡ listed b minute ++ drop (size b) before)

-- a no: there is no strategy of the grade
abbrev pub NoStrategy : (Minutes → Type 0) → Type 0
NoStrategy Grade = (minute : Minutes) → Grade minute → ⊥

-- the lowest failing case: no table keeps its weak rules, and for each lower case one does
pub record LowestFailing (b : Plain) (s : ℕ) : Type 0 where
  pub is : Case b s
  pub fails : NoneKeeps (weak_system b s)
  pub lower : (t : ℕ) → t < s → (table : List ℕ) × Keeps (weak_system b t) table

-- Refusals: the minutes list is too short, else the loop list has under 20 records.
abbrev pub Short : Plain → List ℤ → List Origin → Refusal → Type 0
Short b minutes loops MinutesShort = length minutes < size b
Short b minutes loops LoopShort = (size b ≤ length minutes) × (length loops < 20)

-- neither list is too short
abbrev pub Room : Plain → List ℤ → List Origin → Type 0
Room b minutes loops = (size b ≤ length minutes) × (20 ≤ length loops)

-- Each verdict by its answer, with both lists before and after it. On a no the loop list begins with the origins of a loop of
-- the grade's own rules, and goes on as before.
abbrev pub StrongSays : Plain → List ℤ → List ℤ → List Origin → List Origin → StrongAnswer → Type 0
StrongSays b before after loops loops_after StrongYes = ListsEarliest b (Strong b) before after × (loops_after ≡ loops)
StrongSays b before after loops loops_after (StrongNo n) =
    NoStrategy (Strong b) × Looped (strong_system b) (strong_origins b) loops loops_after n × (after ≡ before)

abbrev pub StrongAnswered : Plain → List ℤ → List ℤ → List Origin → List Origin → Result StrongAnswer Refusal → Type 0
StrongAnswered b before after loops loops_after (Ok a) = Room b before loops × StrongSays b before after loops loops_after a
StrongAnswered b before after loops loops_after (Err e) = Short b before loops e × (after ≡ before) × (loops_after ≡ loops)

-- a weak no is answered with the lowest failing case, and the loop is of that case's rules
abbrev pub WeakSays : Plain → List ℤ → List ℤ → List Origin → List Origin → WeakAnswer → Type 0
WeakSays b before after loops loops_after WeakYes = ListsEarliest b (Weak b) before after × (loops_after ≡ loops)
WeakSays b before after loops loops_after (WeakNo s n) =
    NoStrategy (Weak b) × LowestFailing b s × Looped (weak_system b s) (weak_origins b s) loops loops_after n × (after ≡ before)

abbrev pub WeakAnswered : Plain → List ℤ → List ℤ → List Origin → List Origin → Result WeakAnswer Refusal → Type 0
WeakAnswered b before after loops loops_after (Ok a) = Room b before loops × WeakSays b before after loops loops_after a
WeakAnswered b before after loops loops_after (Err e) = Short b before loops e × (after ≡ before) × (loops_after ≡ loops)

-- a dynamic no gives nothing more
abbrev pub DynamicSays : Plain → List ℤ → List ℤ → DynamicAnswer → Type 0
DynamicSays b before after DynamicYes = ListsEarliest b (Dynamic b) before after
DynamicSays b before after DynamicNo = NoStrategy (Dynamic b) × (after ≡ before)

abbrev pub DynamicAnswered : Plain → List ℤ → List ℤ → Result DynamicAnswer Refusal → Type 0
DynamicAnswered b before after (Ok a) = (size b ≤ length before) × DynamicSays b before after a
DynamicAnswered b before after (Err e) = (e ≡ MinutesShort) × (length before < size b) × (after ≡ before)
