-- Strategies and the three grades of a plan, in the plan's own words: no rule system and no search is spoken of here.
use Rattle.std.specs.Prelude.{◌≡◌, ℕ, ◌+◌, ◌<◌, ◌≤◌, ◌⊎◌, length, ℤ, pos, ◌+ℤ◌, ◌≤ℤ◌}
use Rattle.book.specs.declared.parts.Kind.{Kind}
use Rattle.book.specs.declared.parts.Kind.TheVariants.{Least, Most}
use Rattle.book.specs.declared.parts.Bound.{Bound}
use Rattle.book.specs.Labels.{bit, Names}
use Rattle.book.specs.Plain.{Plain, job, bound, checks, asking, Case, Done}

-- a minute for each case and job; only those of the jobs done in a case are ever read
abbrev pub Minutes : Type 0
Minutes = ℕ → ℕ → ℕ

-- how many minutes after a check its outcome is known
abbrev pub delay : Plain → ℕ → ℕ
delay b c = 1

-- the minute from which the outcome of check c is known in case s
abbrev pub known_at : Plain → Minutes → ℕ → ℕ → ℕ
known_at b minute s c = minute s (asking b c) + delay b c

-- a bound counts in the cases that do both its jobs
abbrev pub Counts : Plain → ℕ → ℕ → Type 0
Counts b s i = Done b s (bound b i).first × Done b s (bound b i).second

-- the minutes of its two jobs keep a bound
abbrev pub Within : Kind → ℤ → ℕ → ℕ → Type 0
Within Least minutes first second = (pos first +ℤ minutes) ≤ℤ pos second
Within Most minutes first second = pos second ≤ℤ (pos first +ℤ minutes)

abbrev pub KeepsBound : Bound → (ℕ → ℕ) → Type 0
KeepsBound l minute = Within l.kind l.minutes (minute l.first) (minute l.second)

-- A strategy: in each case `start` is at 0, each bound that counts is kept, no job done comes before `start`, and each job done
-- waits until the outcome of every check in its label is known.
pub record Strategy (b : Plain) (minute : Minutes) : Type 0 where
  pub start : (s : ℕ) → Case b s → minute s 0 ≡ 0
  pub bounds : (s : ℕ) → Case b s → (i : ℕ) → i < length b.bounds → Counts b s i → KeepsBound (bound b i) (minute s)
  pub not_before : (s : ℕ) → Case b s → (j : ℕ) → j < length b.jobs → Done b s j → minute s 0 ≤ minute s j
  pub after_checks : (s : ℕ) → Case b s → (j : ℕ) → j < length b.jobs → Done b s j →
      (c : ℕ) → Names (job b j).label c → known_at b minute s c ≤ minute s j

-- weak: every strategy
abbrev pub Weak : Plain → Minutes → Type 0
Weak b minute = Strategy b minute

-- strong: each job has one minute in all cases that do it
pub record Strong (b : Plain) (minute : Minutes) : Type 0 where
  pub strategy : Strategy b minute
  pub same : (s t : ℕ) → Case b s → Case b t → (j : ℕ) → j < length b.jobs → Done b s j → Done b t j → minute s j ≡ minute t j

-- check c is known before job j in case s: it is done there, and its outcome is known by the minute of j
pub record Known (b : Plain) (minute : Minutes) (s j c : ℕ) : Type 0 where
  pub is : c < checks b
  pub done : Done b s (asking b c)
  pub before : known_at b minute s c ≤ minute s j

-- case t agrees with what is known before job j in case s
abbrev pub Agrees : Plain → Minutes → ℕ → ℕ → ℕ → Type 0
Agrees b minute t s j = (c : ℕ) → Known b minute s j c → bit t c ≡ bit s c

-- dynamic: where either of two cases agrees with what is known before a job in the other, the job has the same minute in both
pub record Dynamic (b : Plain) (minute : Minutes) : Type 0 where
  pub strategy : Strategy b minute
  pub same : (s t : ℕ) → Case b s → Case b t → (j : ℕ) → j < length b.jobs → Done b s j → Done b t j →
      (Agrees b minute t s j ⊎ Agrees b minute s t j) → minute s j ≡ minute t j

-- no job done comes later in one strategy than in another
abbrev pub NoLater : Plain → Minutes → Minutes → Type 0
NoLater b minute other = (s : ℕ) → Case b s → (j : ℕ) → j < length b.jobs → Done b s j → minute s j ≤ other s j

-- of the strategies of a grade, the one in which no job comes later than in any other
pub record Earliest (b : Plain) (Grade : Minutes → Type 0) (minute : Minutes) : Type 0 where
  pub good : Grade minute
  pub first : (other : Minutes) → Grade other → NoLater b minute other
