-- What a log comes to, as sets and numbers that can be kept beside it.
use Rattle.std.specs.Prelude.{ℕ, ◌+◌, ◌^◌, ◌<◌, ◌≤◌, cond, ◌≢◌, ◌↔◌, List, [], ◌∷◌, length, Some, None, Option, bit_or}
use Rattle.book.specs.Plain.{Plain, Case, Done}
use Rattle.grades.specs.Grades.{Minutes}
use Rattle.walks.specs.declared.parts.Telling.{Telling}
use Rattle.walks.specs.declared.parts.Event.{Event}
use Rattle.walks.specs.declared.parts.Event.TheVariants.{Told, Reported}
use Rattle.walks.specs.Logs.{Has, Comes}

-- the set of the checks reported, and of those reported yes
abbrev pub heard_set : List Event → ℕ
heard_set [] = 0
heard_set (Told t ∷ log) = heard_set log
heard_set (Reported r ∷ log) = bit_or (heard_set log) (2 ^ r.check)

abbrev pub yes_set : List Event → ℕ
yes_set [] = 0
yes_set (Told t ∷ log) = yes_set log
yes_set (Reported r ∷ log) = cond r.yes (bit_or (yes_set log) (2 ^ r.check)) (yes_set log)

-- the minute after the last one told
abbrev pub time : List Event → ℕ
time [] = 0
time (Told t ∷ log) = t.minute + 1
time (Reported r ∷ log) = time log

-- in case s the jobs from minute `from` on begin with this telling
pub record Begins (b : Plain) (minute : Minutes) (s from : ℕ) (t : Telling) : Type 0 where
  pub late : from ≤ t.minute
  pub some : t.jobs ≢ 0
  pub exactly : (j : ℕ) → Has t.jobs j ↔ Comes b minute s j t.minute
  pub least : (j : ℕ) → j < length b.jobs → Done b s j → from ≤ minute s j → t.minute ≤ minute s j

-- in case s no job comes from minute `from` on
abbrev pub Over : Plain → Minutes → ℕ → ℕ → Type 0
Over b minute s from = (j : ℕ) → j < length b.jobs → Done b s j → minute s j < from

-- what comes in case s from minute `from` on: nothing, or first this telling
abbrev pub First : Plain → Minutes → ℕ → ℕ → Option Telling → Type 0
First b minute s from None = Over b minute s from
First b minute s from (Some t) = Begins b minute s from t

abbrev pub Opens : Plain → Minutes → ℕ → ℕ → Option Telling → Type 0
Opens b minute s from r = Case b s → First b minute s from r
