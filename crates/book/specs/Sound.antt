-- What every book keeps.
use Rattle.std.specs.Prelude.{◌≡◌, ℕ, ◌<◌, ◌≤◌, ◌≢◌, length, pos, neg_ℤ, ◌≤ℤ◌, Some, None}
use Rattle.book.specs.declared.parts.Bound.{Bound}
use Rattle.book.specs.Labels.{WantsYes, WantsNo, Names, Exclude, Contains}
use Rattle.book.specs.Plain.{Plain, job, bound, checks, asking, empty_label}

-- A label names earlier checks only, wants none both ways, and contains the whole label of each check that it names.
pub record SoundJob (b : Plain) (j : ℕ) : Type 0 where
  pub counted : (c : ℕ) → (job b j).check ≡ Some c → (c < checks b) × (asking b c ≡ j)
  pub known : (c : ℕ) → Names (job b j).label c → (c < checks b) × (asking b c < j)
  pub one_way : (c : ℕ) → WantsYes (job b j).label c → WantsNo (job b j).label c → ⊥
  pub whole : (c : ℕ) → Names (job b j).label c → Contains (job b j).label (job b (asking b c)).label

-- A bound joins two different jobs of the book that do not exclude each other, by at most three days.
pub record SoundBound (b : Plain) (l : Bound) : Type 0 where
  pub first_in : l.first < length b.jobs
  pub second_in : l.second < length b.jobs
  pub low : neg_ℤ (pos 4320) ≤ℤ l.minutes
  pub high : l.minutes ≤ℤ pos 4320
  pub two : l.first ≢ l.second
  pub together : Exclude (job b l.first).label (job b l.second).label → ⊥

-- Job 0 is `start`, with an empty label and no check; check numbers are 0, 1, .. in order of adding.
pub record Sound (b : Plain) : Type 0 where
  pub some : 1 ≤ length b.jobs
  pub few_jobs : length b.jobs ≤ 20
  pub few_checks : checks b ≤ 4
  pub few_bounds : length b.bounds ≤ 64
  pub start_free : (job b 0).label ≡ empty_label
  pub start_asks_nothing : (job b 0).check ≡ None
  pub asked : (c : ℕ) → c < checks b → (asking b c < length b.jobs) × ((job b (asking b c)).check ≡ Some c)
  pub in_order : (c d : ℕ) → d < checks b → c < d → asking b c < asking b d
  pub each_job : (j : ℕ) → j < length b.jobs → SoundJob b j
  pub each_bound : (i : ℕ) → i < length b.bounds → SoundBound b (bound b i)
