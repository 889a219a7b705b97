-- The sheet that is printed for a plan, line by line.
use Rattle.std.specs.Prelude.{ℕ, zero, suc, ◌+◌, ◌*◌, ◌<◌, Bool, true, false, cond, List, [], ◌∷◌, ◌++◌, length, take, drop, ℤ, pos, negsuc}
use Rattle.std.specs.Prelude.{Some, None, codes, decimal, Option, slice_index_or}
use Rattle.book.specs.Plain.{Plain, asking, checks, cases}
use Rattle.rules.specs.declared.parts.Origin.{Origin}
use Rattle.rules.specs.declared.parts.Origin.TheVariants.{Bound, Start, Check}
use Rattle.format.specs.declared.parts.Fault.{Fault}
use Rattle.format.specs.declared.parts.Reason.{Reason}
use Rattle.format.specs.declared.parts.Reason.TheVariants.{File, Book}
use Rattle.format.specs.Faults.{reason_number}
use Rattle.verdicts.specs.declared.answers.StrongAnswer.{StrongAnswer}
use Rattle.verdicts.specs.declared.answers.StrongAnswer.TheVariants as strong
use Rattle.verdicts.specs.declared.answers.DynamicAnswer.{DynamicAnswer}
use Rattle.verdicts.specs.declared.answers.DynamicAnswer.TheVariants as dynamic
use Rattle.verdicts.specs.declared.answers.WeakAnswer.{WeakAnswer}
use Rattle.verdicts.specs.declared.answers.WeakAnswer.TheVariants as weak
use Rattle.sheet.specs.declared.grade.Grade.{Grade}
use Rattle.sheet.specs.declared.grade.Grade.TheVariants.{Strong, Dynamic, Weak}

-- a line: its words with one space between two of them, and a line feed at its end
abbrev pub line : List (List ℕ) → List ℕ
line [] = 10 ∷ []
line (w ∷ []) = w ++ (10 ∷ [])
line (w ∷ (v ∷ vs)) = w ++ (32 ∷ line (v ∷ vs))

-- the line of a fault: its layer, its number, its line and its byte
abbrev pub layer_word : Reason → List ℕ
layer_word (File f) = codes "file"
layer_word (Book r) = codes "book"

abbrev pub fault_line : Fault → List ℕ
fault_line f =
    line (codes "fault" ∷ layer_word f.reason ∷ decimal (reason_number f.reason) ∷ codes "line" ∷ decimal f.line ∷ codes "byte" ∷ decimal f.byte ∷ [])

abbrev pub grade_word : Grade → List ℕ
grade_word Strong = codes "strong"
grade_word Dynamic = codes "dynamic"
grade_word Weak = codes "weak"

abbrev pub answer_word : Bool → List ℕ
answer_word true = codes "yes"
answer_word false = codes "no"

-- the line of a verdict
abbrev pub verdict_line : Grade → Bool → List ℕ
verdict_line g good = line (grade_word g ∷ answer_word good ∷ [])

-- the line of a job in a case: its name and its minute; a job that is not done there (below 0) has none
abbrev pub job_line : List ℕ → ℤ → List ℕ
job_line name (pos m) = line (name ∷ decimal m ∷ [])
job_line name (negsuc m) = []

-- the lines of the jobs below n, by rising number
abbrev pub job_lines : (ℕ → List ℕ) → List ℤ → ℕ → List ℕ
job_lines name row zero = []
job_lines name row (suc n) = job_lines name row n ++ job_line (name n) (slice_index_or row n (pos 0))

-- how many of them are done
abbrev pub is_done : ℤ → Bool
is_done (pos m) = true
is_done (negsuc m) = false

unfoldable pub jobs_done : List ℤ → ℕ → ℕ
jobs_done row zero = 0
jobs_done row (suc n) = jobs_done row n + cond (is_done (slice_index_or row n (pos 0))) 1 0

-- the minutes of a case in a list that has them case by case
abbrev pub row_of : List ℤ → ℕ → ℕ → List ℤ
row_of minutes jobs s = take jobs (drop (s * jobs) minutes)

-- a case with its number of jobs done, and their lines
abbrev pub case_lines : (ℕ → List ℕ) → ℕ → ℕ → List ℤ → List ℕ
case_lines name jobs s row = line (codes "case" ∷ decimal s ∷ codes "jobs" ∷ decimal (jobs_done row jobs) ∷ []) ++ job_lines name row jobs

abbrev pub cases_lines : (ℕ → List ℕ) → ℕ → List ℤ → ℕ → List ℕ
cases_lines name jobs minutes zero = []
cases_lines name jobs minutes (suc s) = cases_lines name jobs minutes s ++ case_lines name jobs s (row_of minutes jobs s)

-- the table of a grade: the number of cases, and each case
abbrev pub table_lines : Grade → (ℕ → List ℕ) → ℕ → List ℤ → ℕ → List ℕ
table_lines g name jobs minutes cases =
    (line (codes "table" ∷ grade_word g ∷ []) ++ line (codes "cases" ∷ decimal cases ∷ [])) ++ cases_lines name jobs minutes cases

-- the line of a rule's origin: a bound by its number, a job's start rule, or the rule that a job waits for a check
abbrev pub origin_line : Plain → (ℕ → List ℕ) → Origin → List ℕ
origin_line b name (Bound n) = line (codes "bound" ∷ decimal n ∷ [])
origin_line b name (Start j) = line (codes "start" ∷ name j ∷ [])
origin_line b name (Check c j) = line (codes "check" ∷ name (asking b c) ∷ name j ∷ [])

abbrev pub origin_lines : Plain → (ℕ → List ℕ) → List Origin → ℕ → List ℕ
origin_lines b name origins zero = []
origin_lines b name origins (suc n) = origin_lines b name origins n ++ origin_line b name (slice_index_or origins n (Bound 0))

-- a failing case, and a loop of its rules
abbrev pub loop_lines : Plain → (ℕ → List ℕ) → ℕ → List Origin → List ℕ
loop_lines b name s origins =
    (line (codes "fails" ∷ decimal s ∷ []) ++ line (codes "loop" ∷ decimal (length origins) ∷ [])) ++ origin_lines b name origins (length origins)

-- the strongest grade with a yes
abbrev pub strongest : Bool → Bool → Bool → Option Grade
strongest true dynamic weak = Some Strong
strongest false true weak = Some Dynamic
strongest false false true = Some Weak
strongest false false false = None

-- the three verdicts
abbrev pub verdict_lines : Bool → Bool → Bool → List ℕ
verdict_lines strong dynamic weak = (verdict_line Strong strong ++ verdict_line Dynamic dynamic) ++ verdict_line Weak weak

-- whether a plan is strong, dynamic and weak, by the answers
abbrev pub is_strong : StrongAnswer → Bool
is_strong strong.Yes = true
is_strong (strong.No length) = false

abbrev pub is_dynamic : DynamicAnswer → Bool
is_dynamic dynamic.Yes = true
is_dynamic dynamic.No = false

abbrev pub is_weak : WeakAnswer → Bool
is_weak weak.Yes = true
is_weak (weak.No case length) = false

-- an origin names a bound, jobs and a check of the book
abbrev pub Within : Plain → Origin → Type 0
Within b (Bound i) = i < length b.bounds
Within b (Start j) = j < length b.jobs
Within b (Check c j) = (c < checks b) × (j < length b.jobs)
