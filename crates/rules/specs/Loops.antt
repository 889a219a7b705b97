-- Why no table keeps rules of one alternative each: a loop of them.
use Rattle.std.specs.Prelude.{◌≡◌, ℕ, ◌<◌, ◌≤◌, Bool, List, [], ◌∷◌, length, ℤ, pos, ◌+ℤ◌, ◌≤ℤ◌, slice_index}
use Rattle.rules.specs.declared.parts.Alternative.{Alternative}
use Rattle.rules.specs.Rules.{System, NoneKeeps, rule, alternative}
use Rattle.rules.specs.Search.{Barred, In}

-- each rule has one alternative
pub record OneWay (m : System) : Type 0 where
  pub each : (r : ℕ) → r < length m.rules → length (rule m r).alternatives ≡ 1

-- the first alternative of rule r
abbrev pub way : System → ℕ → Alternative
way m r = alternative (rule m r) 0

-- rules each of which leads, by its first alternative, to the place that the next holds back: from the place p to the place q
abbrev pub Chain : System → ℕ → List ℕ → ℕ → Type 0
Chain m p [] q = p ≡ q
Chain m p (r ∷ rs) q = (r < length m.rules) × ((rule m r).held ≡ p) × Chain m (way m r).place rs q

-- the minutes of these alternatives together
abbrev pub total : System → List ℕ → ℤ
total m [] = pos 0
total m (r ∷ rs) = (way m r).minutes +ℤ total m rs

-- a chain that comes back to where it began, holds back no place twice, and asks more than 0 minutes
pub record Loop (m : System) (rs : List ℕ) : Type 0 where
  pub from : ℕ
  pub closes : Chain m from rs from
  pub once : (i j : ℕ) → i < length rs → j < length rs → (rule m (slice_index rs i)).held ≡ (rule m (slice_index rs j)).held → i ≡ j
  pub short : length rs ≤ m.places
  pub above : pos 1 ≤ℤ total m rs

-- a place of some that bar each other
pub record Stuck (m : System) (by : List ℕ) (p : ℕ) : Type 0 where
  pub inside : List Bool
  pub barred : Barred m by inside
  pub here : In inside p

-- no table keeps rules of one alternative each if some of them are a loop
abbrev pub LoopBars : Type 0
LoopBars = (m : System) (rs : List ℕ) → OneWay m → Loop m rs → NoneKeeps m
