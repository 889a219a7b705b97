-- A reader's way through a text.
use Rattle.std.specs.Prelude.{◌≡◌, ℕ, zero, suc, ◌+◌, ◌-◌, ◌≤◌, Bool, false, List, [], ◌∷◌, length, Ok, Err, codes, Result, ◌==◌, slice_set}
use Rattle.book.specs.Plain.{Plain}
use Rattle.format.specs.declared.parts.FileFault.TheVariants.{Trailing}
use Rattle.format.specs.declared.parts.Fault.{Fault}
use Rattle.format.specs.declared.parts.NamePlace.{NamePlace}
use Rattle.format.specs.Faults.{fault, then, cut, line_in, line_name, count_of, jobs_count, job_of, bound_of}
use Rattle.format.specs.Faults.{Reading, with_job_line, with_bound_line}
use Rattle.reader.specs.declared.state.Section.{Section}
use Rattle.reader.specs.declared.state.Section.TheVariants.{Top, Jobs, Bounds}
use Rattle.reader.specs.declared.state.Reader.{Reader}
use Rattle.reader.specs.Names.{known_by, Stands}
use Rattle.reader.specs.declared.piece.Piece.{Piece}
use Rattle.reader.specs.Pieces.{Lies}
use Rattle.reader.specs.Says.{words_of}

-- a reader stands at the front of a text
pub record Begun (whole : List ℕ) (r : Reader) : Type 0 where
  pub text : r.text.now ≡ whole
  pub rest : r.rest.bytes.now ≡ whole
  pub line : r.rest.line ≡ 1
  pub byte : r.rest.byte ≡ 0
  pub section : r.section ≡ Top

-- the section after a line, and what has been read then
pub record Reached : Type 0 where
  pub section : Section
  pub reading : Reading

abbrev pub reached : Section → Reading → Reached
reached x s = record { section = x; reading = s }

-- what a line's words give, by the section reached
abbrev pub heard : ℕ → Section → Reading → ℕ → ℕ → List (List ℕ) → Result Reached Fault
heard room Top s l b ws = then (jobs_count room l b ws) (λ n. Ok (reached (Jobs n) s))
heard room (Jobs zero) s l b ws = then (count_of (codes "bounds") l b ws) (λ n. Ok (reached (Bounds n) s))
heard room (Jobs (suc k)) s l b ws = then (job_of s.known s.book l b ws) (λ j. Ok (reached (Jobs k) (with_job_line s j)))
heard room (Bounds zero) s l b ws = fault Trailing l b
heard room (Bounds (suc k)) s l b ws = then (bound_of s.known s.book l b ws) (λ x. Ok (reached (Bounds k) (with_bound_line s x)))

-- the name list has room for the jobs that are due
abbrev pub Due : ℕ → Section → ℕ → Type 0
Due room Top jobs = jobs ≤ 1
Due room (Jobs k) jobs = jobs + k ≤ room + 1
Due room (Bounds k) jobs = Unit {0}

-- the last line due has been read
abbrev pub finished : Section → Bool
finished Top = false
finished (Jobs k) = false
finished (Bounds k) = k == 0

-- what has been read is what the book and the name list hold
pub record Holds (text : List ℕ) (ns : List NamePlace) (o : Plain) (s : Reading) : Type 0 where
  pub known : s.known ≡ known_by text ns o
  pub book : s.book ≡ o

-- the name list after a line: its own name, if it has one, behind n others
abbrev pub note : List NamePlace → ℕ → List NamePlace → List NamePlace
note ns n [] = ns
note ns n (p ∷ ps) = slice_set ns n p

-- a line p is taken in a section
module _ (text : List ℕ) (p : Piece) (x : Section) (ns : List NamePlace) (o : Plain) where
  pub record Taken (x' : Section) (ns' : List NamePlace) (o' : Plain) : Type 0 where
    pub room : length ns' ≡ length ns
    pub stands : Stands text ns' o'
    pub due : Due (length ns) x' (length o'.jobs)
    pub noted : ns' ≡ note ns (length o.jobs - 1) (line_name p.byte (words_of p))
    pub more : length o'.jobs ≡ length o.jobs + length (line_name p.byte (words_of p))
    pub says : (s : Reading) → Holds text ns o s
        → (s' : Reading) × Holds text ns' o' s' × (heard (length ns) x s p.line p.byte (words_of p) ≡ Ok (reached x' s'))

  -- or it has a fault, and nothing is altered
  pub record Faulty (e : Fault) (ns' : List NamePlace) (o' : Plain) : Type 0 where
    pub book : o' ≡ o
    pub noted : ns' ≡ ns
    pub says : (s : Reading) → Holds text ns o s → heard (length ns) x s p.line p.byte (words_of p) ≡ Err e

-- the next line has its line feed, and the reader has moved past it
pub record LineThere (r r' : Reader) (line : Piece) : Type 0 where
  pub numbered : line.line ≡ r.rest.line
  pub begun : line.byte ≡ r.rest.byte
  pub lies : Lies r.text.now line
  pub left : cut 10 r.rest.bytes.now ≡ line.bytes.now ∷ cut 10 r'.rest.bytes.now
  pub onward : r'.rest.byte ≡ r.rest.byte + length line.bytes.now + 1
  pub counted : r'.rest.line ≡ r.rest.line + 1

-- it has none
pub record NoLine (r : Reader) (e : Fault) : Type 0 where
  pub says : line_in r.rest.line r.rest.byte (cut 10 r.rest.bytes.now) ≡ Err e
