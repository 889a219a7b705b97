-- A text is read exactly when it is the writing-out of a well-formed plan that the book takes.
use Rattle.std.specs.Prelude.{◌≡◌, ℕ, suc, ◌<◌, ◌≤◌, ◌↔◌, List, [], ◌∷◌, ◌++◌, length, Ok, Err, ◌≢◌}
use Rattle.format.specs.declared.parts.FileFault.TheVariants.{Unfinished, Trailing}
use Rattle.format.specs.declared.parts.Reason.TheVariants.{File}
use Rattle.format.specs.declared.parts.Fault.{Fault}
use Rattle.format.specs.Format.{PlanText, WellFormed, written, Every, at_first, after_all}
use Rattle.format.specs.Entered.{BookTakes, book_of}
use Rattle.format.specs.Faults.{Reading, fault, outcome, names_of}
use Rattle.format.specs.Names.{AllNamesIn}

-- what reading a plan gives: its jobs by name and the book that it sets down
abbrev pub reading_of : PlanText → Reading
reading_of p = record { plan = p; known = after_all at_first p.jobs; book = book_of p }

-- a text that keeps the format, and whose plan the book takes
pub record Writes (room : ℕ) (bytes : List ℕ) (p : PlanText) : Type 0 where
  pub well_formed : WellFormed room p
  pub taken : BookTakes p
  pub text : bytes ≡ written p

abbrev pub ReadsExactly : Type 0
ReadsExactly = (room : ℕ) (bytes : List ℕ) (p : PlanText) → (outcome room bytes ≡ Ok (reading_of p)) ↔ Writes room bytes p

-- nothing else is ever read
abbrev pub ReadsPlans : Type 0
ReadsPlans = (room : ℕ) (bytes : List ℕ) (s : Reading) → outcome room bytes ≡ Ok s → s ≡ reading_of s.plan

-- two plans have two texts
abbrev pub OnePlan : Type 0
OnePlan = (room : ℕ) (bytes : List ℕ) (p q : PlanText) → Writes room bytes p → Writes room bytes q → p ≡ q

-- the names of a plan that is read stand in its text, one for each job but `start`
abbrev pub NamesStand : Type 0
NamesStand = (room : ℕ) (text : List ℕ) (s : Reading) → outcome room text ≡ Ok s
    → AllNamesIn text (names_of text) × (length s.book.jobs ≡ suc (length (names_of text)))

-- a line without a line feed in it, and lines with a line feed after each
abbrev pub Line : List ℕ → Type 0
Line w = Every (λ x. x ≢ 10) w

abbrev pub fed : List (List ℕ) → List ℕ
fed [] = []
fed (l ∷ ls) = l ++ (10 ∷ fed ls)

-- two texts that begin with the same lines, and are not too long
pub record Alike (ls : List (List ℕ)) (xs ys : List ℕ) : Type 0 where
  pub lines : Every Line ls
  pub short : length (fed ls ++ xs) ≤ 8192
  pub short_too : length (fed ls ++ ys) ≤ 8192

-- a fault is there by its own line and those before it, whatever follows them
abbrev pub FaultsByLines : Type 0
FaultsByLines = (room : ℕ) (ls : List (List ℕ)) (xs ys : List ℕ) (f : Fault) → Alike ls xs ys
    → outcome room (fed ls ++ xs) ≡ Err f → f.line ≤ length ls → outcome room (fed ls ++ ys) ≡ Err f

-- and no line before it has any, whatever follows them
abbrev pub FirstFault : Type 0
FirstFault = (room : ℕ) (ls : List (List ℕ)) (xs ys : List ℕ) (f g : Fault) → Alike ls xs ys
    → outcome room (fed ls ++ xs) ≡ Err f → length ls < f.line → outcome room (fed ls ++ ys) ≡ Err g → length ls < g.line

-- the lines before a fault's line, alone, want only the next line
abbrev pub LinesBefore : Type 0
LinesBefore = (room : ℕ) (ls : List (List ℕ)) (xs : List ℕ) (f : Fault) → Alike ls xs xs
    → outcome room (fed ls ++ xs) ≡ Err f → f.line ≡ suc (length ls) → (f.reason ≢ File Trailing)
    → outcome room (fed ls) ≡ fault Unfinished f.line (length (fed ls))
