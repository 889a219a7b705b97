-- The names of a plan's jobs, as pieces of a text.
use Rattle.std.specs.Prelude.{ℕ, zero, suc, ◌+◌, ◌≤◌, List, length, take, drop, codes, slice_index_or, EachIndex}
use Rattle.format.specs.declared.parts.NamePlace.{NamePlace}

-- the piece of a text at a place, and the empty place
abbrev pub name_at : List ℕ → NamePlace → List ℕ
name_at text p = take p.length (drop p.byte text)

abbrev pub no_place : NamePlace
no_place = record { byte = 0; length = 0 }

-- the name of a job: `start` has its own, the others' stand in the text
abbrev pub name_of : List ℕ → List NamePlace → ℕ → List ℕ
name_of text places zero = codes "start"
name_of text places (suc j) = name_at text (slice_index_or places j no_place)

-- a name stands in the text, and has at most 8 letters
pub record NameIn (text : List ℕ) (p : NamePlace) : Type 0 where
  pub within : p.byte + p.length ≤ length text
  pub short : p.length ≤ 8

-- so do all names
abbrev pub AllNamesIn : List ℕ → List NamePlace → Type 0
AllNamesIn text places = EachIndex places (λ i. NameIn text (slice_index_or places i no_place))

-- there is a place for each of n jobs but `start`
abbrev pub Enough : List NamePlace → ℕ → Type 0
Enough places n = n ≤ suc (length places)
