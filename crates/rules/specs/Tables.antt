-- Tables that are filled from the front, as far as there is room.
use Rattle.std.specs.Prelude.{◌≡◌, ℕ, ◌-◌, List, ◌++◌, length, take}

-- what a table of n places holds after more was put behind what was there before: as much of it as there was room for
abbrev pub Adds : {A : Type 0} → ℕ → List A → List A → List A → Type 0
Adds n before more after = after ≡ before ++ take (n - length before) more
