-- The words of a line, one after another, and what they say.
use Rattle.std.proofs.Common.{◌≡◌, ℕ, ◌+◌, List, [], ◌∷◌, length, ℤ, Some, None, Ok, Err, Option, Result, MatchOption, sym, refl, ap, ◌∙◌, arith}
use Rattle.book.specs.declared.parts.Kind.{Kind}
use Rattle.book.specs.declared.parts.Label.{Label}
use Rattle.book.specs.Plain.{empty_label}
use Rattle.format.specs.declared.parts.FileFault.TheVariants.{NotANumber}
use Rattle.format.specs.declared.parts.Fault.{Fault}
use Rattle.format.specs.declared.parts.Work.{Work}
use Rattle.format.specs.Format.{Known, Want, check_number}
use Rattle.format.specs.Entered.{or_zero, wanting, label_from}
use Rattle.format.specs.Faults.{fault_at, then, given, cut, work_of, kind_of, new_name, job_named, want_of, wants_of, minutes_of, bound_line}
use Rattle.format.proofs.Steps.{no_fault, no_ok, same_ok, same_err, then_ok, then_is, then_no}
use Rattle.format.proofs.Lines.{job_named_sound}
use Rattle.reader.specs.declared.piece.Piece.{Piece}
use Rattle.reader.specs.declared.words.Words.{Words}
use Rattle.reader.specs.Pieces.{parts, Follows, WordFirst}
use Rattle.reader.specs.Says.{want_in, labelled, JobSaid, BoundSaid}

-- what is left of a line stands on line l from byte b on
abbrev pub At : ℕ → ℕ → Option Piece → Type 0
At l b None = Unit {0}
At l b (Some p) = (p.line ≡ l) × (p.byte ≡ b)

-- one word more of a line
pub record Taken (s : Words) (w : Piece) (t : Words) (l b : ℕ) : Type 0 where
  pub words : parts 32 s.rest ≡ w.bytes.now ∷ parts 32 t.rest
  pub line : w.line ≡ l
  pub byte : w.byte ≡ b
  pub left : At l (b + length w.bytes.now + 1) t.rest

pub taken : (s : Words) (w : Piece) (t : Words) (l b : ℕ) → WordFirst s w t → At l b s.rest → Taken s w t l b
taken s w t l b f h = record {
  words = ap (parts 32) f.left ∙ f.parted.is;
  line = f.parted.line ∙ at.0;
  byte = f.parted.byte ∙ at.1;
  left = go t.rest f.parted.after;
}
  where
    at : (f.whole.line ≡ l) × (f.whole.byte ≡ b)
    at = rw f.left at h

    go : (r : Option Piece) → MatchOption r (w.bytes.now ≡ f.whole.bytes.now) (Follows 32 f.whole w) → At l (b + length w.bytes.now + 1) r
    go None m = tt
    go (Some r) m = (m.line ∙ at.0, m.byte ∙ ap (λ n. n + length w.bytes.now + 1) at.1)

-- the label that words give, from line l and byte b on
abbrev pub saying : Label → List Known → ℕ → ℕ → List (List ℕ) → Result Label Fault
saying label ks l b ws = then (wants_of ks l b ws) (λ xs. Ok (label_from label ks xs))

pub said_at : (label : Label) (ks : List Known) (l b : ℕ) (r : Option Piece) → At l b r → labelled label ks r ≡ saying label ks l b (parts 32 r)
said_at label ks l b None h = refl
said_at label ks l b (Some p) h = ap (λ n. saying label ks n p.byte (cut 32 p.bytes.now)) h.0 ∙ ap (λ n. saying label ks l n (cut 32 p.bytes.now)) h.1

module _ (label : Label) (ks : List Known) (l b : ℕ) (w : List ℕ) (ws : List (List ℕ)) where
  said_more : (after : Label) → want_in label ks l b w ≡ Ok after → saying label ks l b (w ∷ ws) ≡ saying after ks l (b + length w + 1) ws
  said_more after e = go (want_of ks l b w) e
    where
      inner : (a : Want) (r : Result (List Want) Fault) → then {A = List Want} (then r (λ xs. Ok (a ∷ xs))) (λ xs. Ok (label_from label ks xs)) ≡ then r
          (λ xs. Ok (label_from (wanting label a.sign (or_zero (check_number ks a.name))) ks xs))
      inner a (Ok xs) = refl
      inner a (Err x) = refl

      go : (r : Result Want Fault) → then r (λ a. Ok (wanting label a.sign (or_zero (check_number ks a.name)))) ≡ Ok after
          → then (then r (λ a. then (wants_of ks l (b + length w + 1) ws) (λ xs. Ok (a ∷ xs)))) (λ xs. Ok (label_from label ks xs))
          ≡ saying after ks l (b + length w + 1) ws
      go (Ok a) q =
          inner a (wants_of ks l (b + length w + 1) ws)
          ∙ ap (λ t. saying t ks l (b + length w + 1) ws) (same_ok (wanting label a.sign (or_zero (check_number ks a.name))) after q)
      go (Err x) q = no_fault x after q

  said_stop : (e : Fault) → want_in label ks l b w ≡ Err e → saying label ks l b (w ∷ ws) ≡ Err e
  said_stop e q = go (want_of ks l b w) q
    where
      go : (r : Result Want Fault) → then r (λ a. Ok (wanting label a.sign (or_zero (check_number ks a.name)))) ≡ Err e → then {A = List Want}
          (then r (λ a. then (wants_of ks l (b + length w + 1) ws) (λ xs. Ok (a ∷ xs)))) (λ xs. Ok (label_from label ks xs)) ≡ Err e
      go (Ok a) z = no_ok _ e z
      go (Err x) z = ap Err (same_err x e z)

-- one more label word
module _ (label : Label) (ks : List Known) (s : Words) (w : Piece) (t : Words) (f : WordFirst s w t) where
  here : Taken s w t w.line w.byte
  here = taken s w t w.line w.byte f (rw f.left (sym f.parted.line, sym f.parted.byte))

  begun : labelled label ks s.rest ≡ saying label ks w.line w.byte (w.bytes.now ∷ parts 32 t.rest)
  begun = said_at label ks w.line w.byte s.rest (rw f.left (sym f.parted.line, sym f.parted.byte)) ∙ ap (saying label ks w.line w.byte) here.words

  pub labelled_more : (after : Label) → want_in label ks w.line w.byte w.bytes.now ≡ Ok after → labelled label ks s.rest ≡ labelled after ks t.rest
  labelled_more after e =
      begun ∙ (said_more label ks w.line w.byte w.bytes.now (parts 32 t.rest) after e
      ∙ sym (said_at after ks w.line (w.byte + length w.bytes.now + 1) t.rest here.left))

  pub labelled_stop : (e : Fault) → want_in label ks w.line w.byte w.bytes.now ≡ Err e → labelled label ks s.rest ≡ Err e
  labelled_stop e q = begun ∙ said_stop label ks w.line w.byte w.bytes.now (parts 32 t.rest) e q

-- a line of the jobs section
module _ (ks : List Known) (line : Piece) (s t u : Words) (w v : Piece) (start : s.rest ≡ Some line)
    (first : WordFirst s w t) (second : WordFirst t v u) where
  key_taken : Taken s w t line.line line.byte
  key_taken = taken s w t line.line line.byte first (rw start (refl, refl))

  name_taken : Taken t v u line.line (line.byte + length w.bytes.now + 1)
  name_taken = taken t v u line.line (line.byte + length w.bytes.now + 1) second key_taken.left

  two_words : cut 32 line.bytes.now ≡ w.bytes.now ∷ (v.bytes.now ∷ parts 32 u.rest)
  two_words = sym (ap (parts 32) start) ∙ (key_taken.words ∙ ap (λ ws. w.bytes.now ∷ ws) name_taken.words)

  pub job_said : (k : Work) (label : Label) → Some k ≡ work_of w.bytes.now → new_name ks v.line v.byte v.bytes.now ≡ Ok v.bytes.now
      → Ok label ≡ labelled empty_label ks u.rest
      → JobSaid ks line (record { work = k; name = record { byte = v.byte; length = length v.bytes.now }; label = label })
  job_said k label e n q =
      let d : line.byte + length w.bytes.now + 1 + length v.bytes.now + 1 ≡ line.byte + length w.bytes.now + length v.bytes.now + 2 = omega arith in
      let says : saying empty_label ks line.line (line.byte + length w.bytes.now + length v.bytes.now + 2) (parts 32 u.rest) ≡ Ok label =
      ap (λ m. saying empty_label ks line.line m (parts 32 u.rest)) (sym d) ∙ (sym (said_at empty_label ks line.line _ u.rest name_taken.left) ∙ sym q) in
      let (xs, x, y) = then_ok (wants_of ks line.line (line.byte + length w.bytes.now + length v.bytes.now + 2) (parts 32 u.rest)) _ label says in
      let name : new_name ks line.line (line.byte + length w.bytes.now + 1) v.bytes.now ≡ Ok v.bytes.now = rw (← name_taken.line, ← name_taken.byte) n in
      record {
        line = record { work = k; name = v.bytes.now; wants = xs };
        says = rw (two_words, ← e) (then_is _ _ v.bytes.now name ∙ then_is _ _ xs x);
        work = refl;
        label = same_ok (label_from empty_label ks xs) label y;
        name = rw (two_words, ← e, name_taken.byte) refl;
      }

-- a line of the bounds section
module _ (ks : List Known) (line : Piece) (s0 s1 s2 s3 s4 : Words) (w v u t : Piece) (start : s0.rest ≡ Some line) (first : WordFirst s0 w s1)
    (second : WordFirst s1 v s2) (third : WordFirst s2 u s3) (fourth : WordFirst s3 t s4) (last : s4.rest ≡ None)
    (k : Kind) (kind : Some k ≡ kind_of w.bytes.now) where
  one : Taken s0 w s1 line.line line.byte
  one = taken s0 w s1 line.line line.byte first (rw start (refl, refl))

  two : Taken s1 v s2 line.line (line.byte + length w.bytes.now + 1)
  two = taken s1 v s2 _ _ second one.left

  three : Taken s2 u s3 line.line (line.byte + length w.bytes.now + 1 + length v.bytes.now + 1)
  three = taken s2 u s3 _ _ third two.left

  four : Taken s3 t s4 line.line (line.byte + length w.bytes.now + 1 + length v.bytes.now + 1 + length u.bytes.now + 1)
  four = taken s3 t s4 _ _ fourth three.left

  all_words : cut 32 line.bytes.now ≡ w.bytes.now ∷ (v.bytes.now ∷ (u.bytes.now ∷ (t.bytes.now ∷ [])))
  all_words =
      sym (ap (parts 32) start) ∙ (one.words ∙ ap (λ ws. w.bytes.now ∷ ws) (two.words ∙ ap (λ ws. v.bytes.now ∷ ws) (three.words
      ∙ ap (λ ws. u.bytes.now ∷ ws) (four.words ∙ ap (λ r. t.bytes.now ∷ parts 32 r) last))))

  third_at : u.byte ≡ line.byte + length w.bytes.now + length v.bytes.now + 2
  third_at = omega (arith, three.byte)

  fourth_at : t.byte ≡ line.byte + length w.bytes.now + length v.bytes.now + length u.bytes.now + 3
  fourth_at = omega (arith, four.byte)

  says : bound_line ks line.line line.byte (cut 32 line.bytes.now)
      ≡ then (job_named ks v.line v.byte v.bytes.now) (λ i.
      then (job_named ks u.line u.byte u.bytes.now) (λ j.
      then (given (minutes_of t.bytes.now) (fault_at NotANumber t.line t.byte)) (λ z.
      Ok (record { kind = k; first = v.bytes.now; second = u.bytes.now; minutes = z }))))
  says = rw (all_words, ← kind, two.line, two.byte, three.line, third_at, four.line, fourth_at) refl

  module _ (i : ℕ) (named : Ok i ≡ job_named ks v.line v.byte v.bytes.now) where
    pub second_stop : (e : Fault) → Err e ≡ job_named ks u.line u.byte u.bytes.now
        → bound_line ks line.line line.byte (cut 32 line.bytes.now) ≡ Err e
    second_stop e q = says ∙ (then_is _ _ i (sym named) ∙ then_no _ _ e (sym q))

    module _ (j : ℕ) (other : Ok j ≡ job_named ks u.line u.byte u.bytes.now) where
      pub minutes_stop : None ≡ minutes_of t.bytes.now
          → bound_line ks line.line line.byte (cut 32 line.bytes.now) ≡ Err (fault_at NotANumber t.line t.byte)
      minutes_stop q = says ∙ (then_is _ _ i (sym named) ∙ (then_is _ _ j (sym other) ∙ rw (← q) refl))

      pub bound_said : (z : ℤ) → Some z ≡ minutes_of t.bytes.now
          → BoundSaid ks line (record { kind = k; first = i; second = j; minutes = z })
      bound_said z q =
          let a = (job_named_sound ks v.line v.byte v.bytes.now i (sym named)).1 in
          let b = (job_named_sound ks u.line u.byte u.bytes.now j (sym other)).1 in
          record {
            line = record { kind = k; first = v.bytes.now; second = u.bytes.now; minutes = z };
            says = says ∙ (then_is _ _ i (sym named) ∙ (then_is _ _ j (sym other) ∙ rw (← q) refl));
            bound = rw (a, b) refl;
          }
