-- What lines and their words say.
use Rattle.std.specs.Prelude.{◌≡◌, ℕ, List, [], ◌∷◌, Some, None, Ok, Option, Result, cond, codes, is_some}
use Rattle.book.specs.declared.parts.Bound.{Bound}
use Rattle.book.specs.declared.parts.Label.{Label}
use Rattle.book.specs.Held.{held}
use Rattle.format.specs.declared.parts.Fault.{Fault}
use Rattle.format.specs.Format.{Known, JobLine, BoundLine, check_number, same}
use Rattle.format.specs.Entered.{or_zero, wanting, label_from, label_in, bound_in}
use Rattle.format.specs.Faults.{then, cut, count_of, new_name, job_named, want_of, wants_of, job_line, bound_line, line_name, work_of, kind_of}
use Rattle.reader.specs.declared.lines.Head.{Head}
use Rattle.reader.specs.declared.lines.Head.TheVariants.{JobCount, OneJob, BoundCount, OneBound, Unknown}
use Rattle.reader.specs.declared.piece.Piece.{Piece}
use Rattle.reader.specs.declared.register.Register.{Register}
use Rattle.reader.specs.declared.register.Entry.{Entry}
use Rattle.reader.specs.Names.{known_by}

-- the jobs that a register knows
abbrev pub knows : Register → List Known
knows r = known_by r.text.now r.names.now (held r.book.now)

-- a label after one more label word, and after those in a piece
abbrev pub want_in : Label → List Known → ℕ → ℕ → List ℕ → Result Label Fault
want_in label ks l b w = then (want_of ks l b w) (λ a. Ok (wanting label a.sign (or_zero (check_number ks a.name))))

abbrev pub labelled : Label → List Known → Option Piece → Result Label Fault
labelled label ks None = Ok label
labelled label ks (Some p) = then (wants_of ks p.line p.byte (cut 32 p.bytes.now)) (λ xs. Ok (label_from label ks xs))

-- what a word says where it stands
module _ (ks : List Known) (w : Piece) where
  abbrev pub new_name_at : Result (List ℕ) Fault
  new_name_at = new_name ks w.line w.byte w.bytes.now

  abbrev pub job_at : Result ℕ Fault
  job_at = job_named ks w.line w.byte w.bytes.now

  abbrev pub want_at : Label → Result Label Fault
  want_at label = want_in label ks w.line w.byte w.bytes.now

-- what a line is by its first word
abbrev pub head_of : List ℕ → Head
head_of w =
    cond (same w (codes "jobs")) JobCount (cond (same w (codes "bounds")) BoundCount
    (cond (is_some (work_of w)) OneJob (cond (is_some (kind_of w)) OneBound Unknown)))

-- what a line says where it stands
abbrev pub words_of : Piece → List (List ℕ)
words_of p = cut 32 p.bytes.now

abbrev pub count_at : List ℕ → Piece → Result ℕ Fault
count_at key p = count_of key p.line p.byte (words_of p)

module _ (ks : List Known) (p : Piece) where
  abbrev pub job_line_at : Result JobLine Fault
  job_line_at = job_line ks p.line p.byte (words_of p)

  abbrev pub bound_line_at : Result BoundLine Fault
  bound_line_at = bound_line ks p.line p.byte (words_of p)

  -- a line of the jobs section enters this
  pub record JobSaid (e : Entry) : Type 0 where
    pub line : JobLine
    pub says : job_line_at ≡ Ok line
    pub work : line.work ≡ e.work
    pub label : label_in ks line.wants ≡ e.label
    pub name : line_name p.byte (words_of p) ≡ e.name ∷ []

  -- a line of the bounds section says this
  pub record BoundSaid (x : Bound) : Type 0 where
    pub line : BoundLine
    pub says : bound_line_at ≡ Ok line
    pub bound : bound_in ks line ≡ x
