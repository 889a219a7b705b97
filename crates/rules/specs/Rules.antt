-- Rule systems, and what it is for a table of minutes to keep their rules.
use Rattle.std.specs.Prelude.{◌≡◌, ℕ, ◌<◌, ◌≤◌, List, [], length, pos, ◌+ℤ◌, neg_ℤ, ◌≤ℤ◌, Some, None, Option, slice_index}
use Rattle.std.specs.Prelude.{slice_get, slice_index_or}
use Rattle.rules.specs.declared.parts.Alternative.{Alternative}

-- a rule holds back one place, and is kept by any one of its alternatives
pub record Rule : Type 0 where
  pub held : ℕ
  pub alternatives : List Alternative

-- all that a rule system means: its number of places, and its rules in their order
pub record System : Type 0 where
  pub places : ℕ
  pub rules : List Rule

abbrev pub no_alternative : Alternative
no_alternative = record { place = 0; minutes = pos 0 }

abbrev pub no_rule : Rule
no_rule = record { held = 0; alternatives = [] }

abbrev pub rule : System → ℕ → Rule
rule m r = slice_index_or m.rules r no_rule

abbrev pub alternative : Rule → ℕ → Alternative
alternative x a = slice_index_or x.alternatives a no_alternative

-- what the questions are answered from: none past the end
abbrev pub held_of : Option Rule → Option ℕ
held_of None = None
held_of (Some x) = Some x.held

abbrev pub count_of : Option Rule → Option ℕ
count_of None = None
count_of (Some x) = Some (length x.alternatives)

abbrev pub alternative_of : Option Rule → ℕ → Option Alternative
alternative_of None a = None
alternative_of (Some x) a = slice_get x.alternatives a

abbrev pub held_at : System → ℕ → Option ℕ
held_at m r = held_of (slice_get m.rules r)

abbrev pub count_at : System → ℕ → Option ℕ
count_at m r = count_of (slice_get m.rules r)

abbrev pub alternative_at : System → ℕ → ℕ → Option Alternative
alternative_at m r a = alternative_of (slice_get m.rules r) a

-- What every system keeps to: 1 to 320 places, at most 8,192 rules, each with 1 to 5 alternatives, all places below the number of
-- places, minutes within three days either way.
pub record SoundAlternative (places : ℕ) (a : Alternative) : Type 0 where
  pub within : a.place < places
  pub low : neg_ℤ (pos 4320) ≤ℤ a.minutes
  pub high : a.minutes ≤ℤ pos 4320

pub record SoundRule (places : ℕ) (x : Rule) : Type 0 where
  pub within : x.held < places
  pub some : 1 ≤ length x.alternatives
  pub few : length x.alternatives ≤ 5
  pub each : (a : ℕ) → a < length x.alternatives → SoundAlternative places (alternative x a)

pub record Sound (m : System) : Type 0 where
  pub some : 1 ≤ m.places
  pub few : m.places ≤ 320
  pub few_rules : length m.rules ≤ 8192
  pub each : (r : ℕ) → r < length m.rules → SoundRule m.places (rule m r)

-- A table has a minute, at or above 0, for each place. It keeps a rule where the held place's minute reaches, for at least one
-- alternative, that place's minute plus its minutes.
abbrev pub at : List ℕ → ℕ → ℕ
at table place = slice_index table place

abbrev pub KeptBy : List ℕ → ℕ → Alternative → Type 0
KeptBy table held a = (pos (at table a.place) +ℤ a.minutes) ≤ℤ pos (at table held)

abbrev pub Kept : List ℕ → Rule → Type 0
Kept table x = (a : ℕ) × (a < length x.alternatives) × KeptBy table x.held (alternative x a)

pub record Keeps (m : System) (table : List ℕ) : Type 0 where
  pub sized : length table ≡ m.places
  pub each : (r : ℕ) → r < length m.rules → Kept table (rule m r)

-- the table that keeps all rules and has every minute least
pub record Least (m : System) (table : List ℕ) : Type 0 where
  pub keeps : Keeps m table
  pub least : (other : List ℕ) → Keeps m other → (place : ℕ) → at table place ≤ at other place

-- no table keeps all rules
abbrev pub NoneKeeps : System → Type 0
NoneKeeps m = (table : List ℕ) → Keeps m table → ⊥
