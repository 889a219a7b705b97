-- Names by their places in a text, and the jobs known by them.
use Rattle.std.specs.Prelude.{◌≡◌, ℕ, ◌+◌, ◌-◌, ◌<◌, ◌≤◌, cond, List, [], ◌∷◌, length, take, drop, Some, None, codes, Option, slice_index_or}
use Rattle.book.specs.declared.parts.Job.{Job}
use Rattle.book.specs.Plain.{Plain}
use Rattle.format.specs.declared.parts.NamePlace.{NamePlace}
use Rattle.format.specs.Format.{Known, start_known, same}

-- the bytes at a place
abbrev pub slice : List ℕ → NamePlace → List ℕ
slice text n = take n.length (drop n.byte text)

abbrev pub no_place : NamePlace
no_place = record { byte = 0; length = 0 }

-- the places lie in the text
abbrev pub Placed : List ℕ → List NamePlace → Type 0
Placed text ns = (i : ℕ) → i < length ns → (slice_index_or ns i no_place).byte + (slice_index_or ns i no_place).length ≤ length text

-- the number of the job that has a name, where the first place is that of job n
abbrev pub place_from : ℕ → List ℕ → List NamePlace → List ℕ → Option ℕ
place_from n text [] w = None
place_from n text (p ∷ ps) w = cond (same (slice text p) w) (Some n) (place_from (n + 1) text ps w)

abbrev pub number_among : List ℕ → List NamePlace → List ℕ → Option ℕ
number_among text ns w = cond (same (codes "start") w) (Some 0) (place_from 1 text ns w)

-- the jobs that a reader knows: `start`, and those of a book with their names
abbrev pub named : List ℕ → List NamePlace → List Job → List Known
named text [] js = []
named text (n ∷ ns) [] = []
named text (n ∷ ns) (j ∷ js) = record { name = slice text n; check = j.check } ∷ named text ns js

abbrev pub known_in : List ℕ → List NamePlace → Plain → List Known
known_in text ns b = start_known ∷ named text ns (drop 1 b.jobs)

-- each job of a book but `start` has a name, which lies in the text
pub record Named (text : List ℕ) (ns : List NamePlace) (b : Plain) : Type 0 where
  pub counted : length ns + 1 ≡ length b.jobs
  pub placed : Placed text ns

-- the first places of a name list, one for each job but `start`
abbrev pub known_places : List NamePlace → Plain → List NamePlace
known_places ns b = take (length b.jobs - 1) ns

abbrev pub known_by : List ℕ → List NamePlace → Plain → List Known
known_by text ns b = known_in text (known_places ns b) b

-- a name list that holds the names of a book's jobs
pub record Stands (text : List ℕ) (ns : List NamePlace) (b : Plain) : Type 0 where
  pub room : length b.jobs ≤ length ns + 1
  pub placed : Placed text (known_places ns b)
