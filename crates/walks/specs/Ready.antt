-- When a list of minutes makes a sheet ready for a book.
use Rattle.std.specs.Prelude.{◌≡◌, ℕ, ◌*◌, List, length, take, ℤ, pos, negsuc, slice_index_or}
use Rattle.book.specs.Plain.{Plain, cases}
use Rattle.grades.specs.Grades.{Minutes, Dynamic, Earliest}
use Rattle.grades.specs.Systems.{place, listed}

abbrev pub value : ℤ → ℕ
value (pos v) = v
value (negsuc v) = 0

-- the minutes of a list, case by case and by job number
abbrev pub read : Plain → List ℤ → Minutes
read b minutes s j = value (slice_index_or minutes (place b s j) (pos 0))

-- the list begins with these minutes, -1 for a job not done
abbrev pub Shown : Plain → List ℤ → Type 0
Shown b minutes = take (cases b * length b.jobs) minutes ≡ listed b (read b minutes)

-- the list begins with the earliest dynamic strategy of the book
pub record Ready (b : Plain) (minutes : List ℤ) : Type 0 where
  pub earliest : Earliest b (Dynamic b) (read b minutes)
  pub shown : Shown b minutes
