-- The plans of the worked examples, and the calls that write them down.
use Rattle.std.specs.Prelude.{◌≡◌, ℕ, List, [], ◌∷◌, map, ℤ, pos, Some, None, Ok, Err, slice_index, slice_index_or}
use Rattle.book.specs.declared.parts.Label.{Label}
use Rattle.book.specs.declared.parts.Kind.TheVariants.{Least, Most}
use Rattle.book.specs.declared.parts.Bound.{Bound}
use Rattle.book.specs.declared.parts.Call.{Call}
use Rattle.book.specs.declared.parts.Call.TheVariants.{AddJob, AddCheck, AddBound}
use Rattle.book.specs.declared.parts.Refusal.{Refusal}
use Rattle.book.specs.Plain.{Plain, Outcome, number, empty_label, no_job}
use Rattle.grades.specs.Grades.{Minutes}

-- a label by the checks that it wants yes and those that it wants no, check k counted as 2 to the k
abbrev pub label : ℕ → ℕ → Label
label y n = record { yes = y; no = n }

-- bounds: the second job at least, or at most, so many minutes after the first
abbrev pub least : ℕ → ℕ → ℤ → Bound
least first second minutes = record { kind = Least; first = first; second = second; minutes = minutes }

abbrev pub most : ℕ → ℕ → ℤ → Bound
most first second minutes = record { kind = Most; first = first; second = second; minutes = minutes }

-- the numbers of the jobs
abbrev pub start : ℕ
start = 0

abbrev pub wet : ℕ
wet = 1

abbrev pub pump : ℕ
pump = 2

abbrev pub grout : ℕ
grout = 3

abbrev pub seal : ℕ
seal = 4

-- The plan for a hole that may be wet: look at it, pump if it is wet, grout, seal if it is dry. The seal comes at most `within`
-- minutes after the look; further bounds may follow the five.
abbrev pub plan : ℤ → List Bound → Plain
plan within more = record {
  jobs =
      no_job
      ∷ record { label = empty_label; check = Some 0 }
      ∷ record { label = label 1 0; check = None }
      ∷ record { label = empty_label; check = None }
      ∷ record { label = label 0 1; check = None }
      ∷ [];
  bounds = least start wet (pos 60) ∷ least wet pump (pos 5) ∷ least pump grout (pos 90) ∷ most wet seal within ∷ most seal grout (pos 10) ∷ more;
}

abbrev pub wet_hole : Plain
wet_hole = plan (pos 20) []

-- the calls that write a plan down: four jobs, the first of them a check, and the bounds
abbrev pub calls : ℤ → List Bound → List Call
calls within more =
    AddCheck empty_label
    ∷ AddJob (label 1 0)
    ∷ AddJob empty_label
    ∷ AddJob (label 0 1)
    ∷ map AddBound (plan within more).bounds

-- a call is taken and answers a; or it is refused with a number, and the book is as before
abbrev pub Taken : {A : Type 0} → Outcome A → A → Type 0
Taken o a = o.answer ≡ Ok a

abbrev pub Refused : {A : Type 0} → Plain → Outcome A → ℕ → Type 0
Refused b o n = (r : Refusal) × (o.answer ≡ Err r) × (number r ≡ n) × (o.after ≡ b)

-- minutes written down case by case and by job number; what stands at a job not done in a case means nothing
abbrev pub written : List (List ℕ) → Minutes
written rows s j = slice_index (slice_index_or rows s []) j

-- the look at 60; in a dry hole grout and seal as given, in a wet one the pump at 65 and grout at 155
abbrev pub timetable : ℕ → ℕ → Minutes
timetable dry_grout dry_seal = written ((0 ∷ 60 ∷ 0 ∷ dry_grout ∷ dry_seal ∷ []) ∷ (0 ∷ 60 ∷ 65 ∷ 155 ∷ 0 ∷ []) ∷ [])
