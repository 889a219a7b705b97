-- What `find` and `find_or_loop` answer.
use Rattle.std.specs.Prelude.{◌≡◌, ℕ, ◌<◌, ◌≤◌, ◌↔◌, List, ◌++◌, map, length, drop, ℤ, pos, Ok, Err, Result, slice_index_or}
use Rattle.rules.specs.declared.parts.Origin.{Origin}
use Rattle.rules.specs.declared.parts.Origin.TheVariants.{Bound}
use Rattle.rules.specs.Rules.{System, Keeps, Least, NoneKeeps}
use Rattle.rules.specs.Loops.{Loop}
use Rattle.find.specs.declared.answers.Found.{Found}
use Rattle.find.specs.declared.answers.Found.TheVariants.{Table, NoTable}
use Rattle.find.specs.declared.answers.Explained.{Explained}
use Rattle.find.specs.declared.answers.Explained.TheVariants as explained
use Rattle.find.specs.declared.answers.Refusal.{Refusal}
use Rattle.find.specs.declared.answers.Refusal.TheVariants.{MinutesShort, LoopShort}

-- the numbers of the refusals
abbrev pub number : Refusal → ℕ
number MinutesShort = 12
number LoopShort = 13

-- the least table stands first among the minutes, and the rest of them is as before
abbrev pub Written : System → List ℤ → List ℤ → Type 0
Written m before after = (table : List ℕ) × Least m table × (after ≡ map pos table ++ drop m.places before)

-- What `find` answers: the minutes are too few, or a table keeps the rules, or none does. Each answer says which, so each comes
-- exactly then.
abbrev pub Finds : System → List ℤ → List ℤ → Result Found Refusal → Type 0
Finds m before after (Ok Table) = (m.places ≤ length before) × Written m before after
Finds m before after (Ok NoTable) = (m.places ≤ length before) × NoneKeeps m × (after ≡ before)
Finds m before after (Err e) = (e ≡ MinutesShort) × (length before < m.places) × (after ≡ before)

-- the origin of rule r
abbrev pub origin_of : List Origin → ℕ → Origin
origin_of origins r = slice_index_or origins r (Bound 0)

-- the origins of a loop of n rules stand first in the list, and the rest of it is as before
abbrev pub Looped : System → List Origin → List Origin → List Origin → ℕ → Type 0
Looped m origins before after n =
    (rs : List ℕ) × Loop m rs × (length rs ≡ n) × (after ≡ map (origin_of origins) rs ++ drop n before)

-- why there was no search: too few minutes, or else too short a list for a loop
abbrev pub TooShort : System → ℕ → ℕ → Refusal → Type 0
TooShort m minutes places MinutesShort = minutes < m.places
TooShort m minutes places LoopShort = (m.places ≤ minutes) × (places < m.places)

-- What `find_or_loop` answers: there is too little room, or a table keeps the rules, or none does and there is a loop.
abbrev pub Explains : System → List Origin → List ℤ → List ℤ → List Origin → List Origin → Result Explained Refusal → Type 0
Explains m origins before after list list' (Ok explained.Table) =
    (m.places ≤ length before) × (m.places ≤ length list) × Written m before after × (list' ≡ list)
Explains m origins before after list list' (Ok (explained.Loop n)) =
    (m.places ≤ length before) × (m.places ≤ length list) × NoneKeeps m × (after ≡ before) × Looped m origins list list' n
Explains m origins before after list list' (Err e) = TooShort m (length before) (length list) e × (after ≡ before) × (list' ≡ list)

-- some table keeps all rules
abbrev pub SomeKeeps : System → Type 0
SomeKeeps m = ∥ ((table : List ℕ) × Keeps m table) ∥₁

-- so each answer of `find` comes exactly when it is said to
abbrev pub FindExact : Type 0
FindExact = (m : System) (before after : List ℤ) (r : Result Found Refusal) → Finds m before after r →
    ((length before < m.places) ↔ (r ≡ Err MinutesShort))
    × (((m.places ≤ length before) × SomeKeeps m) ↔ (r ≡ Ok Table))
    × (((m.places ≤ length before) × NoneKeeps m) ↔ (r ≡ Ok NoTable))

-- and each answer of `find_or_loop`
abbrev pub LoopExact : Type 0
LoopExact = (m : System) (origins : List Origin) (before after : List ℤ) (list list' : List Origin) (r : Result Explained Refusal) →
    Explains m origins before after list list' r →
    ((length before < m.places) ↔ (r ≡ Err MinutesShort))
    × (((m.places ≤ length before) × (length list < m.places)) ↔ (r ≡ Err LoopShort))
    × (((m.places ≤ length before) × (m.places ≤ length list) × SomeKeeps m) ↔ (r ≡ Ok explained.Table))
    × (((m.places ≤ length before) × (m.places ≤ length list) × NoneKeeps m) ↔ ((n : ℕ) × (r ≡ Ok (explained.Loop n))))
