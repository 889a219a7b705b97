-- What is printed for a plan, in the words of grades, strategies and loops.
use Rattle.std.specs.Prelude.{◌≡◌, ℕ, ◌<◌, ◌≤◌, Bool, true, false, ◌⊎◌, List, ◌++◌, map, length, drop, Some, None, Ok, Err, Option, Result}
use Rattle.book.specs.Plain.{Plain, cases}
use Rattle.rules.specs.Loops.{Loop}
use Rattle.find.specs.Answers.{origin_of}
use Rattle.grades.specs.Grades.{Minutes, Earliest}
use Rattle.grades.specs.Grades as grades
use Rattle.grades.specs.Systems.{weak_system, weak_origins, listed}
use Rattle.verdicts.specs.Verdicts.{NoStrategy, LowestFailing}
use Rattle.format.specs.declared.parts.Fault.{Fault}
use Rattle.format.specs.declared.parts.NamePlace.{NamePlace}
use Rattle.format.specs.Names.{name_of}
use Rattle.sheet.specs.declared.grade.Grade.{Grade}
use Rattle.sheet.specs.declared.grade.Grade.TheVariants.{Strong, Dynamic, Weak}
use Rattle.sheet.specs.declared.refusal.Refusal.{Refusal}
use Rattle.sheet.specs.declared.refusal.Refusal.TheVariants.{OutputShort, NoMemory}
use Rattle.sheet.specs.Sheet.{fault_line, verdict_lines, strongest, table_lines, loop_lines}

-- the strategies of a grade
abbrev pub good : Plain → Grade → Minutes → Type 0
good b Strong minute = grades.Strong b minute
good b Dynamic minute = grades.Dynamic b minute
good b Weak minute = grades.Weak b minute

-- a verdict is yes where the grade has a strategy, and no where it has none
abbrev pub Verdict : Plain → Grade → Bool → Type 0
Verdict b g true = (minute : Minutes) × good b g minute
Verdict b g false = NoStrategy (good b g)

-- the table of a grade has the minutes of its earliest strategy
abbrev pub Table : Plain → (ℕ → List ℕ) → Grade → List ℕ → Type 0
Table b name g lines =
    (minute : Minutes) × Earliest b (good b g) minute × (lines ≡ table_lines g name (length b.jobs) (listed b minute) (cases b))

-- with no yes: the lowest failing case, and a loop of its rules by their origins; which loop is free
abbrev pub Fails : Plain → (ℕ → List ℕ) → List ℕ → Type 0
Fails b name lines =
    (s : ℕ) × (rs : List ℕ) × LowestFailing b s × Loop (weak_system b s) rs × (lines ≡ loop_lines b name s (map (origin_of (weak_origins b s)) rs))

abbrev pub Rest : Plain → (ℕ → List ℕ) → Option Grade → List ℕ → Type 0
Rest b name (Some g) lines = Table b name g lines
Rest b name None lines = Fails b name lines

-- the sheet of a plan: the three verdicts, and what follows them
pub record PlanSheet (b : Plain) (name : ℕ → List ℕ) (sheet : List ℕ) : Type 0 where
  pub strong : Bool
  pub dynamic : Bool
  pub weak : Bool
  pub strong_is : Verdict b Strong strong
  pub dynamic_is : Verdict b Dynamic dynamic
  pub weak_is : Verdict b Weak weak
  pub rest : List ℕ
  pub rest_is : Rest b name (strongest strong dynamic weak) rest
  pub lines : sheet ≡ verdict_lines strong dynamic weak ++ rest

-- the sheet of a text: the line of a fault, or the sheet of a plan with the names where the text has them
abbrev pub SheetOf : List ℕ → List ℕ → Type 0
SheetOf text sheet =
    ((f : Fault) × (sheet ≡ fault_line f)) ⊎ ((b : Plain) × (places : List NamePlace) × PlanSheet b (name_of text places) sheet)

-- the number of a refusal; for want of memory there is none
abbrev pub number : Refusal → Option ℕ
number OutputShort = Some 14
number NoMemory = None

-- what answer does to the output and answers
abbrev pub Answered : List ℕ → List ℕ → List ℕ → Result ℕ Refusal → Type 0
Answered text before after (Ok n) =
    (8192 ≤ length before) × (sheet : List ℕ) × SheetOf text sheet × (n ≡ length sheet) × (after ≡ sheet ++ drop n before)
Answered text before after (Err OutputShort) = (length before < 8192) × (after ≡ before)
Answered text before after (Err NoMemory) = (8192 ≤ length before) × (after ≡ before)
