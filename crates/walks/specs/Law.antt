-- The law of runs: what holds of every lawful log, at every time of its run.
use Rattle.std.specs.Prelude.{◌≡◌, ℕ, ◌<◌, ◌≤◌, ◌↔◌, List, ◌∷◌, ◌++◌, length}
use Rattle.book.specs.Plain.{Plain, checks, asking, Done}
use Rattle.grades.specs.Grades.{Minutes}
use Rattle.walks.specs.declared.parts.Telling.{Telling}
use Rattle.walks.specs.declared.parts.Event.{Event}
use Rattle.walks.specs.declared.parts.Event.TheVariants.{Told}
use Rattle.walks.specs.Logs.{Has, ToldAt, Heard, Agreeing, last_minute, UpTo, all_told, Comes, Left, NoneAwaited, Lawful, Ended}

-- `then` is the log as it stood at some time of the run
abbrev pub Was : List Event → List Event → Type 0
Was then log = (later : List Event) × (later ++ then ≡ log)

-- v is the next minute: the least of any job left to any agreeing case
pub record Next (b : Plain) (minute : Minutes) (log : List Event) (v : ℕ) : Type 0 where
  pub some : (s : ℕ) × (j : ℕ) × Agreeing b log s × Left b log s j × (minute s j ≡ v)
  pub least : (s : ℕ) → Agreeing b log s → (j : ℕ) → Left b log s j → v ≤ minute s j

-- The law: every event was right; some case agrees with the reports; each telling had at least one job and was at the next minute;
-- minutes rise, and no job is told twice; at every time, for every agreeing case, the jobs told with their minutes were exactly the
-- case's jobs up to the last minute told; and when no check was awaited, every check told had been reported.
pub record Law (b : Plain) (minute : Minutes) (log : List Event) : Type 0 where
  pub right : Lawful b minute log
  pub agreeing : (s : ℕ) × Agreeing b log s
  pub next : (t : Telling) (then : List Event) → Was (Told t ∷ then) log → Next b minute then t.minute × ((j : ℕ) × Has t.jobs j)
  pub rises : (t : Telling) (then : List Event) → Was (Told t ∷ then) log → (j v : ℕ) → ToldAt then j v → v < t.minute
  pub once : (t : Telling) (then : List Event) → Was (Told t ∷ then) log → (j v : ℕ) → Has t.jobs j → ToldAt then j v → ⊥
  pub exact : (then : List Event) → Was then log → (s : ℕ) → Agreeing b then s →
      (j v : ℕ) → ToldAt then j v ↔ (Comes b minute s j v × UpTo (last_minute then) v)
  pub reported : (then : List Event) → Was then log → NoneAwaited b then →
      (c v : ℕ) → c < checks b → ToldAt then (asking b c) v → Heard then c

-- At the end every agreeing case had all its jobs told, each at its minute, and the set of all jobs told is exactly the case's jobs.
pub record Whole (b : Plain) (minute : Minutes) (log : List Event) (s : ℕ) : Type 0 where
  pub told : (j : ℕ) → j < length b.jobs → Done b s j → ToldAt log j (minute s j)
  pub all : (j : ℕ) → Has (all_told log) j ↔ ((j < length b.jobs) × Done b s j)

-- every lawful log keeps the law, and at the end is whole
abbrev pub LawfulKeepLaw : Type 0
LawfulKeepLaw = (b : Plain) (minute : Minutes) (log : List Event) → Lawful b minute log → Law b minute log

abbrev pub EndedAreWhole : Type 0
EndedAreWhole = (b : Plain) (minute : Minutes) (log : List Event) → Lawful b minute log → Ended b log →
    (s : ℕ) → Agreeing b log s → Whole b minute log s
