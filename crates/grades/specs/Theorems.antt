-- What is proved for every book: the tables that keep a grade's rules with `start` at 0 are the strategies of that grade.
use Rattle.std.specs.Prelude.{◌≡◌, ℕ, ◌<◌, ◌≤◌, ◌↔◌, List, length}
use Rattle.book.specs.Labels.{bit}
use Rattle.book.specs.Plain.{Plain, checks, asking, Case, Done}
use Rattle.book.specs.Sound.{Sound}
use Rattle.rules.specs.Rules as rules
use Rattle.rules.specs.Rules.{Keeps, Least, at}
use Rattle.grades.specs.Grades.{Minutes, known_at, Weak, Strong, Dynamic, Earliest}
use Rattle.grades.specs.Systems.{strong_system, weak_system, dynamic_system, strong_reads, weak_reads, reads, FromZero}

-- two ways to give minutes agree on the jobs done
abbrev pub AlikeIn : Plain → ℕ → Minutes → Minutes → Type 0
AlikeIn b s minute other = (j : ℕ) → j < length b.jobs → Done b s j → minute s j ≡ other s j

abbrev pub Alike : Plain → Minutes → Minutes → Type 0
Alike b minute other = (s : ℕ) → Case b s → AlikeIn b s minute other

-- Strong: one table, a minute for each job.
pub record StrongTheorem (b : Plain) : Type 0 where
  pub tables_are : (table : List ℕ) → Keeps (strong_system b) table → at table 0 ≡ 0 → Strong b (strong_reads table)
  pub are_tables : (minute : Minutes) → Strong b minute →
      (table : List ℕ) × Keeps (strong_system b) table × (at table 0 ≡ 0) × Alike b (strong_reads table) minute
  pub least_from_zero : (table : List ℕ) → Least (strong_system b) table → at table 0 ≡ 0
  pub least_is_earliest : (table : List ℕ) → Least (strong_system b) table → Earliest b (Strong b) (strong_reads table)
  pub verdict : ((table : List ℕ) × Keeps (strong_system b) table) ↔ ((minute : Minutes) × Strong b minute)

-- Weak: a table for each case.
pub record WeakTheorem (b : Plain) : Type 0 where
  pub tables_are : (tables : ℕ → List ℕ) →
      ((s : ℕ) → Case b s → Keeps (weak_system b s) (tables s) × (at (tables s) 0 ≡ 0)) → Weak b (weak_reads tables)
  pub are_tables : (minute : Minutes) → Weak b minute → (s : ℕ) → Case b s →
      (table : List ℕ) × Keeps (weak_system b s) table × (at table 0 ≡ 0) × AlikeIn b s (strong_reads table) minute
  pub least_from_zero : (s : ℕ) (table : List ℕ) → Least (weak_system b s) table → at table 0 ≡ 0
  pub least_is_earliest : (tables : ℕ → List ℕ) →
      ((s : ℕ) → Case b s → Least (weak_system b s) (tables s)) → Earliest b (Weak b) (weak_reads tables)
  pub verdict : ((s : ℕ) → Case b s → (table : List ℕ) × Keeps (weak_system b s) table) ↔ ((minute : Minutes) × Weak b minute)

-- Dynamic: one table, a minute for each case and job.
pub record DynamicTheorem (b : Plain) : Type 0 where
  pub tables_are : (table : List ℕ) → Keeps (dynamic_system b) table → FromZero b table → Dynamic b (reads b table)
  pub are_tables : (minute : Minutes) → Dynamic b minute →
      (table : List ℕ) × Keeps (dynamic_system b) table × FromZero b table × Alike b (reads b table) minute
  pub least_from_zero : (table : List ℕ) → Least (dynamic_system b) table → FromZero b table
  pub least_is_earliest : (table : List ℕ) → Least (dynamic_system b) table → Earliest b (Dynamic b) (reads b table)
  pub verdict : ((table : List ℕ) × Keeps (dynamic_system b) table) ↔ ((minute : Minutes) × Dynamic b minute)

abbrev pub StrongTables : Type 0
StrongTables = (b : Plain) → Sound b → StrongTheorem b

abbrev pub WeakTables : Type 0
WeakTables = (b : Plain) → Sound b → WeakTheorem b

abbrev pub DynamicTables : Type 0
DynamicTables = (b : Plain) → Sound b → DynamicTheorem b

-- what is strong is dynamic, and what is dynamic is weak
abbrev pub GradesInOrder : Type 0
GradesInOrder = (b : Plain) (minute : Minutes) → (Strong b minute → Dynamic b minute) × (Dynamic b minute → Weak b minute)

-- the three systems are rule systems: few places and rules, few alternatives to a rule, minutes within three days
abbrev pub SystemsSound : Type 0
SystemsSound = (b : Plain) → Sound b →
    rules.Sound (strong_system b) × ((s : ℕ) → rules.Sound (weak_system b s)) × rules.Sound (dynamic_system b)

-- t says the same as s of every check whose outcome is known in s by minute v
abbrev pub AgreesUpTo : Plain → Minutes → ℕ → ℕ → ℕ → Type 0
AgreesUpTo b minute t s v = (c : ℕ) → c < checks b → Done b s (asking b c) → known_at b minute s c ≤ v → bit t c ≡ bit s c

-- a job that s does by minute v is done in t too, at the same minute
abbrev pub Follows : Plain → Minutes → ℕ → ℕ → ℕ → ℕ → Type 0
Follows b minute t s v j = Done b s j → minute s j ≤ v → Done b t j × (minute t j ≡ minute s j)

-- cases that agree on what is known by a minute have the same jobs up to it, at the same minutes
abbrev pub RunsAlike : Type 0
RunsAlike = (b : Plain) → Sound b → (minute : Minutes) → Dynamic b minute → (s t : ℕ) → Case b s → Case b t → (v : ℕ) →
    AgreesUpTo b minute t s v → (j : ℕ) → j < length b.jobs → Follows b minute t s v j × Follows b minute s t v j
