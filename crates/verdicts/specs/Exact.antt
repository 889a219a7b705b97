-- Each answer of a verdict comes exactly when it is said to.
use Rattle.std.specs.Prelude.{◌≡◌, ℕ, ◌<◌, ◌≤◌, ◌↔◌, List, length, ℤ, Some, None, Ok, Err, Option, Result}
use Rattle.book.specs.Plain.{Plain}
use Rattle.rules.specs.declared.parts.Origin.{Origin}
use Rattle.find.specs.declared.answers.Refusal.{Refusal}
use Rattle.find.specs.Answers.{number}
use Rattle.grades.specs.Grades.{Minutes, Strong, Weak, Dynamic}
use Rattle.verdicts.specs.declared.answers.StrongAnswer.{StrongAnswer}
use Rattle.verdicts.specs.declared.answers.StrongAnswer.TheVariants.{Yes as StrongYes, No as StrongNo}
use Rattle.verdicts.specs.declared.answers.WeakAnswer.{WeakAnswer}
use Rattle.verdicts.specs.declared.answers.WeakAnswer.TheVariants.{Yes as WeakYes, No as WeakNo}
use Rattle.verdicts.specs.declared.answers.DynamicAnswer.{DynamicAnswer}
use Rattle.verdicts.specs.declared.answers.DynamicAnswer.TheVariants.{Yes as DynamicYes, No as DynamicNo}
use Rattle.verdicts.specs.Verdicts.{size, Room, NoStrategy, LowestFailing, StrongAnswered, WeakAnswered, DynamicAnswered}

-- the number of a refusal, if the answer is one
abbrev pub refused : {A : Type 0} → Result A Refusal → Option ℕ
refused (Ok a) = None
refused (Err e) = Some (number e)

-- there is a strategy of the grade
abbrev pub SomeStrategy : (Minutes → Type 0) → Type 0
SomeStrategy Grade = ∥ ((minute : Minutes) × Grade minute) ∥₁

-- refused with 12 exactly where the minutes list is too short, and with 13 exactly where only the loop list is
abbrev pub RefusedExactly : {A : Type 0} → Plain → List ℤ → List Origin → Result A Refusal → Type 0
RefusedExactly b minutes loops r =
    ((length minutes < size b) ↔ (refused r ≡ Some 12)) × (((size b ≤ length minutes) × (length loops < 20)) ↔ (refused r ≡ Some 13))

-- otherwise yes exactly where there is a strong strategy, and no exactly where there is none
abbrev pub StrongExact : Type 0
StrongExact = (b : Plain) (before after : List ℤ) (loops loops_after : List Origin) (r : Result StrongAnswer Refusal) →
    StrongAnswered b before after loops loops_after r →
    RefusedExactly b before loops r
    × ((Room b before loops × SomeStrategy (Strong b)) ↔ (r ≡ Ok StrongYes))
    × ((Room b before loops × NoStrategy (Strong b)) ↔ ((n : ℕ) × (r ≡ Ok (StrongNo n))))

-- the same of weak, where a no names the lowest failing case
abbrev pub WeakExact : Type 0
WeakExact = (b : Plain) (before after : List ℤ) (loops loops_after : List Origin) (r : Result WeakAnswer Refusal) →
    WeakAnswered b before after loops loops_after r →
    RefusedExactly b before loops r
    × ((Room b before loops × SomeStrategy (Weak b)) ↔ (r ≡ Ok WeakYes))
    × ((Room b before loops × NoStrategy (Weak b)) ↔ ((s : ℕ) × (n : ℕ) × LowestFailing b s × (r ≡ Ok (WeakNo s n))))

-- the same of dynamic, which has no loop list
abbrev pub DynamicExact : Type 0
DynamicExact = (b : Plain) (before after : List ℤ) (r : Result DynamicAnswer Refusal) → DynamicAnswered b before after r →
    ((length before < size b) ↔ (refused r ≡ Some 12))
    × (((size b ≤ length before) × SomeStrategy (Dynamic b)) ↔ (r ≡ Ok DynamicYes))
    × (((size b ≤ length before) × NoStrategy (Dynamic b)) ↔ (r ≡ Ok DynamicNo))
