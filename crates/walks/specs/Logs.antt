-- Logs of runs: what was told and reported, which cases agree with it, and what it is for the next event to be right.
use Rattle.std.specs.Prelude.{◌≡◌, ℕ, ◌<◌, ◌≤◌, cond, ◌≢◌, ◌⊎◌, ◌↔◌, List, [], ◌∷◌, length, Some, None, Option, bit_or}
use Rattle.book.specs.Labels.{bit}
use Rattle.book.specs.Plain.{Plain, checks, asking, Case, Done}
use Rattle.grades.specs.Grades.{Minutes}
use Rattle.walks.specs.declared.parts.Telling.{Telling}
use Rattle.walks.specs.declared.parts.Event.{Event}
use Rattle.walks.specs.declared.parts.Event.TheVariants.{Told, Reported}

-- A log is the list of a run's events, the newest first.

-- a set of job numbers has job j: its bit j is set
abbrev pub Has : ℕ → ℕ → Type 0
Has jobs j = bit jobs j ≡ 1

-- job j was told, at minute v
abbrev pub ToldAt : List Event → ℕ → ℕ → Type 0
ToldAt [] j v = ⊥
ToldAt (Told t ∷ log) j v = (Has t.jobs j × (t.minute ≡ v)) ⊎ ToldAt log j v
ToldAt (Reported r ∷ log) j v = ToldAt log j v

-- the outcome of check c was reported
abbrev pub Heard : List Event → ℕ → Type 0
Heard [] c = ⊥
Heard (Told t ∷ log) c = Heard log c
Heard (Reported r ∷ log) c = (r.check ≡ c) ⊎ Heard log c

-- a case agrees with the reports: it says of each check reported what was reported
abbrev pub Agrees : List Event → ℕ → Type 0
Agrees [] s = Unit {0}
Agrees (Told t ∷ log) s = Agrees log s
Agrees (Reported r ∷ log) s = (bit s r.check ≡ cond r.yes 1 0) × Agrees log s

abbrev pub Agreeing : Plain → List Event → ℕ → Type 0
Agreeing b log s = Case b s × Agrees log s

-- the jobs of the last telling, and its minute
abbrev pub just_told : List Event → ℕ
just_told [] = 0
just_told (Told t ∷ log) = t.jobs
just_told (Reported r ∷ log) = just_told log

abbrev pub last_minute : List Event → Option ℕ
last_minute [] = None
last_minute (Told t ∷ log) = Some t.minute
last_minute (Reported r ∷ log) = last_minute log

abbrev pub UpTo : Option ℕ → ℕ → Type 0
UpTo None v = ⊥
UpTo (Some m) v = v ≤ m

-- the set of all jobs told
abbrev pub all_told : List Event → ℕ
all_told [] = 0
all_told (Told t ∷ log) = bit_or (all_told log) t.jobs
all_told (Reported r ∷ log) = all_told log

-- job j is done in case s, at minute v
abbrev pub Comes : Plain → Minutes → ℕ → ℕ → ℕ → Type 0
Comes b minute s j v = (j < length b.jobs) × Done b s j × (minute s j ≡ v)

-- job j is left to case s: it is done there and was not told
abbrev pub Left : Plain → List Event → ℕ → ℕ → Type 0
Left b log s j = (j < length b.jobs) × Done b s j × ((v : ℕ) → ToldAt log j v → ⊥)

-- Check c is awaited: it is among the jobs of the last telling, and not reported. The lowest one awaited is asked.
abbrev pub Awaited : Plain → List Event → ℕ → Type 0
Awaited b log c = (c < checks b) × Has (just_told log) (asking b c) × (Heard log c → ⊥)

abbrev pub Asked : Plain → List Event → ℕ → Type 0
Asked b log c = Awaited b log c × ((d : ℕ) → d < c → Awaited b log d → ⊥)

abbrev pub NoneAwaited : Plain → List Event → Type 0
NoneAwaited b log = (c : ℕ) → Awaited b log c → ⊥

-- A telling is right: it has a job, for every agreeing case it has exactly the jobs left to it at that minute, and no job left
-- to any agreeing case comes earlier.
pub record Tells (b : Plain) (minute : Minutes) (log : List Event) (t : Telling) : Type 0 where
  pub some : t.jobs ≢ 0
  pub exactly : (s : ℕ) → Agreeing b log s → (j : ℕ) → Has t.jobs j ↔ (Left b log s j × (minute s j ≡ t.minute))
  pub next : (s : ℕ) → Agreeing b log s → (j : ℕ) → Left b log s j → t.minute ≤ minute s j

-- An event is right after a log: a telling only when no check is awaited, a report only of the check that is asked.
abbrev pub Right : Plain → Minutes → List Event → Event → Type 0
Right b minute log (Told t) = NoneAwaited b log × Tells b minute log t
Right b minute log (Reported r) = Asked b log r.check

-- a log is lawful: each event was right after those before it
abbrev pub Lawful : Plain → Minutes → List Event → Type 0
Lawful b minute [] = Unit {0}
Lawful b minute (e ∷ log) = Lawful b minute log × Right b minute log e

-- a run is at its end: no check is awaited, and no job is left to any agreeing case
pub record Ended (b : Plain) (log : List Event) : Type 0 where
  pub none_awaited : NoneAwaited b log
  pub none_left : (s : ℕ) → Agreeing b log s → (j : ℕ) → Left b log s j → ⊥
