-- The minutes of one case as they stand in a list, by job number: -1 for a job not done.
use Rattle.std.specs.Prelude.{◌≡◌, ℕ, ◌<◌, ◌≤◌, ◌↔◌, List, [], length, All, Contains, filter, ℤ, pos, negsuc, Some, None, Option, nat_le, slice_index_or}
use Rattle.std.specs.List.{filter_map}
use Rattle.walks.specs.declared.parts.Telling.{Telling}
use Rattle.walks.specs.Logs.{Has}

-- the minute that a number shows, if it shows one
abbrev pub natural : ℤ → Option ℕ
natural (pos v) = Some v
natural (negsuc v) = None

-- job j stands in the row at minute v
abbrev pub Shows : List ℤ → ℕ → ℕ → Type 0
Shows row j v = natural (slice_index_or row j (pos 0)) ≡ Some v

-- the minutes that a row shows from `from` on, in the order of its jobs
abbrev pub minutes_from : List ℤ → ℕ → List ℕ
minutes_from row from = filter (λ v. nat_le from v) (filter_map natural row)

-- m is the least of these minutes
abbrev pub IsLeast : List ℕ → ℕ → Type 0
IsLeast minutes m = Contains minutes m × All (λ v. m ≤ v) minutes

-- the set of the jobs at a minute among the first n jobs of the row
abbrev pub JobsBelow : List ℤ → ℕ → ℕ → ℕ → Type 0
JobsBelow row minute n jobs = (j : ℕ) → Has jobs j ↔ ((j < n) × Shows row j minute)

-- the least minute from `from` on, with the jobs at it
abbrev pub FirstFrom : List ℤ → ℕ → Option Telling → Type 0
FirstFrom row from None = minutes_from row from ≡ []
FirstFrom row from (Some t) = IsLeast (minutes_from row from) t.minute × JobsBelow row t.minute (length row) t.jobs
