-- The words of the search for the least table: raising places round by round, with a record of the rule that raised each.
use Rattle.std.specs.Prelude.{◌≡◌, ℕ, suc, ◌+◌, ◌-◌, ◌*◌, ◌<◌, ◌≤◌, Bool, true, false, List, length, ℤ, pos, negsuc, Some, None, sum}
use Rattle.std.specs.Prelude.{count_by, Option, slice_index_or, slice_set}
use Rattle.rules.specs.declared.parts.Alternative.{Alternative}
use Rattle.rules.specs.Rules.{Rule, System, Kept, Keeps, at, rule, alternative}

-- so many minutes after v, or 0 where that is before the start
abbrev pub asked : ℕ → ℤ → ℕ
asked v (pos k) = v + k
asked v (negsuc k) = v - suc k

-- what an alternative asks of the place that its rule holds back
abbrev pub asked_by : List ℕ → Alternative → ℕ
asked_by table a = asked (at table a.place) a.minutes

-- the least that an alternative of the rule asks
pub record LeastAsked (table : List ℕ) (k : Rule) (x : ℕ) : Type 0 where
  pub least : (a : ℕ) → a < length k.alternatives → x ≤ asked_by table (alternative k a)
  pub reached : (a : ℕ) × (a < length k.alternatives) × (x ≡ asked_by table (alternative k a))

-- v is no more than w minutes after u
abbrev pub Leads : ℕ → ℕ → ℤ → Type 0
Leads v u (pos k) = v ≤ u + k
Leads v u (negsuc k) = v + suc k ≤ u

-- A place at v, raised at the stamp s by an alternative of w minutes over a place at u, which was raised last at the stamp z:
-- v is no more than w minutes after u, and less, if the other place was raised since.
abbrev pub Follows : ℕ → ℕ → ℕ → ℕ → ℤ → Type 0
Follows v u s z w = Leads v u w × (s ≤ z → Leads (suc v) u w)

abbrev pub FollowsBy : List ℕ → List ℕ → ℕ → Alternative → Type 0
FollowsBy table stamps p a = Follows (at table p) (at table a.place) (at stamps p) (at stamps a.place) a.minutes

-- rule r has last raised place p, by every one of its alternatives
pub record Traced (m : System) (table stamps : List ℕ) (r p : ℕ) : Type 0 where
  pub within : r < length m.rules
  pub held : (rule m r).held ≡ p
  pub each : (a : ℕ) → a < length (rule m r).alternatives → FollowsBy table stamps p (alternative (rule m r) a)

-- `by` has for each place above 0 the rule that raised it last; the stamps, which no code holds, say in what order
pub record Recorded (m : System) (table by : List ℕ) : Type 0 where
  pub stamps : List ℕ
  pub clock : ℕ
  pub long : length stamps ≡ length table
  pub high : (p : ℕ) → at stamps p ≤ clock
  pub each : (p : ℕ) → 0 < at table p → Traced m table stamps (at by p) p

-- what the search keeps to, when so many rules of a round are done
pub record Good (m : System) (done : ℕ) (table by : List ℕ) : Type 0 where
  pub wide : length table ≡ 320
  pub wide_by : length by ≡ 320
  pub low : (p : ℕ) → at table p ≤ 1382400 + 4320 * done
  pub under : (other : List ℕ) → Keeps m other → (p : ℕ) → at table p ≤ at other p
  pub recorded : Recorded m table by

-- whether the table rose: `stays` is what holds if it did not
abbrev pub Grown : Type 0 → List ℕ → List ℕ → Bool → Type 0
Grown stays before after true = sum before < sum after
Grown stays before after false = (after ≡ before) × stays

-- every rule is kept
abbrev pub AllKept : System → List ℕ → Type 0
AllKept m table = (r : ℕ) → r < length m.rules → Kept table (rule m r)

-- places by marks
abbrev pub In : List Bool → ℕ → Type 0
In inside p = slice_index_or inside p false ≡ true

abbrev pub Out : List Bool → ℕ → Type 0
Out inside p = slice_index_or inside p false ≡ false

abbrev pub marks : List Bool → ℕ
marks inside = count_by (λ b. b) inside

-- a mark for each number above 0
abbrev pub Marked : Bool → ℕ → Type 0
Marked true v = 0 < v
Marked false v = v ≡ 0

-- whether an alternative of the rule leads out of the marked places
abbrev pub LeadsOut : Rule → List Bool → Bool → Type 0
LeadsOut k inside true = (a : ℕ) × (a < length k.alternatives) × Out inside (alternative k a).place
LeadsOut k inside false = (a : ℕ) → a < length k.alternatives → In inside (alternative k a).place

-- marks are taken off one by one, each from a place whose rule leads out of the places then marked
pub data Peels (m : System) (by : List ℕ) : List Bool → List Bool → Type 0 where
  same : {x : List Bool} → Peels m by x x
  drops : {x y : List Bool} (p : ℕ) → Peels m by x y → In y p → LeadsOut (rule m (at by p)) y true → Peels m by x (slice_set y p false)

-- no rule of a marked place leads out
abbrev pub Closed : System → List ℕ → List Bool → Type 0
Closed m by inside = (p : ℕ) → In inside p → LeadsOut (rule m (at by p)) inside false

-- marked are only places, and what `by` has for them are rules
pub record Ruled (m : System) (by : List ℕ) (p : ℕ) : Type 0 where
  pub place : p < m.places
  pub within : at by p < length m.rules

-- whether a sweep took marks off
abbrev pub Swept : System → List ℕ → List Bool → List Bool → Bool → Type 0
Swept m by before after true = marks after < marks before
Swept m by before after false = (after ≡ before) × Closed m by before

-- a place that is marked, if any is
abbrev pub FirstIn : List Bool → Option ℕ → Type 0
FirstIn inside None = (p : ℕ) → Out inside p
FirstIn inside (Some p) = In inside p

-- Why no table keeps the rules: marked places, and for each the rule that raised it, which leads to marked places alone. No table
-- keeps even these rules.
pub record Barred (m : System) (by : List ℕ) (inside : List Bool) : Type 0 where
  pub heights : List ℕ
  pub stamps : List ℕ
  pub traced : (p : ℕ) → In inside p → Traced m heights stamps (at by p) p
  pub closed : Closed m by inside
  pub none : (p : ℕ) → In inside p → (other : List ℕ) → ((q : ℕ) → In inside q → Kept other (rule m (at by q))) → ⊥
