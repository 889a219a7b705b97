-- Labels and cases, bit by bit.
use Rattle.std.specs.Prelude.{◌≡◌, ℕ, zero, suc, ◌/◌, ◌%◌, ◌^◌, ◌<◌, Bool, true, false, ◌&&◌, ◌||◌, ◌⊎◌, ◌==◌}
use Rattle.book.specs.declared.parts.Label.{Label}

-- bit k of a number, the lowest is bit 0
abbrev pub bit : ℕ → ℕ → ℕ
bit x k = (x / 2 ^ k) % 2

-- what a label wants of check k
abbrev pub WantsYes : Label → ℕ → Type 0
WantsYes l k = bit l.yes k ≡ 1

abbrev pub WantsNo : Label → ℕ → Type 0
WantsNo l k = bit l.no k ≡ 1

abbrev pub Names : Label → ℕ → Type 0
Names l k = WantsYes l k ⊎ WantsNo l k

-- A case says yes (1) or no (0) of each check, bit k for check k. It meets a label where it says what the label wants.
abbrev pub Meets : Label → ℕ → Type 0
Meets l case = (k : ℕ) → k < 8 → (WantsYes l k → bit case k ≡ 1) × (WantsNo l k → bit case k ≡ 0)

-- two labels exclude each other: one wants yes of a check, the other no
abbrev pub Exclude : Label → Label → Type 0
Exclude l m = (k : ℕ) × (k < 8) × ((WantsYes l k × WantsNo m k) ⊎ (WantsNo l k × WantsYes m k))

-- one label contains another: it wants all that the other wants
abbrev pub Contains : Label → Label → Type 0
Contains l m = (k : ℕ) → (WantsYes m k → WantsYes l k) × (WantsNo m k → WantsNo l k)

-- The same as tests, for what is computed.
abbrev pub wants_yes : Label → ℕ → Bool
wants_yes l k = bit l.yes k == 1

abbrev pub wants_no : Label → ℕ → Bool
wants_no l k = bit l.no k == 1

abbrev pub names : Label → ℕ → Bool
names l k = wants_yes l k || wants_no l k

-- whether a test holds of some, or of each, number below n
abbrev pub any_below : ℕ → (ℕ → Bool) → Bool
any_below zero p = false
any_below (suc n) p = p n || any_below n p

abbrev pub all_below : ℕ → (ℕ → Bool) → Bool
all_below zero p = true
all_below (suc n) p = p n && all_below n p
