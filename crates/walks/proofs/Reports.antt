-- Reports: which checks were reported, and that the set of those reported yes is a case that agrees.
use Rattle.std.proofs.Common.{◌≡◌, ℕ, ◌^◌, ◌<◌, Bool, true, false, cond, ◌≢◌, ◌⊎◌, List, [], ◌∷◌, sym, refl, ◌∙◌, subst, inl, inr, arith}
use native.Mathlib.Decide.{ℕ_discrete}
use lib.Bits.{bit_or}
use Rattle.std.proofs.lemmas.Nat.{or_lt, pow_below, pow_pos}
use Rattle.book.specs.Labels.{bit}
use Rattle.book.specs.Plain.{Plain, checks, asking, Case}
use Rattle.book.proofs.Bits.{bit-bit_or}
use Rattle.grades.specs.Grades.{Minutes}
use Rattle.walks.specs.declared.parts.Event.{Event}
use Rattle.walks.specs.declared.parts.Event.TheVariants.{Told, Reported}
use Rattle.walks.specs.Logs.{ToldAt, Heard, Agrees, Agreeing, Awaited, NoneAwaited, Lawful}
use Rattle.walks.specs.Standing.{heard_set, yes_set}
use Rattle.walks.proofs.Sets.{bit_of_none, bit_same, bit_other}

pub heard_dec : (log : List Event) (c : ℕ) → Dec (Heard log c)
heard_dec [] c = no (λ h. h)
heard_dec (Told t ∷ log) c = heard_dec log c
heard_dec (Reported r ∷ log) c = by (ℕ_discrete r.check c) (heard_dec log c)
  where
    by : Dec (r.check ≡ c) → Dec (Heard log c) → Dec ((r.check ≡ c) ⊎ Heard log c)
    by (yes e) d = yes (inl e)
    by (no n) (yes h) = yes (inr h)
    by (no n) (no m) = no (λ k. elim k [ inl e ↦ n e | inr h ↦ m h ])

-- the set of the checks reported is what it says
pub heard_in : (log : List Event) (c : ℕ) → Heard log c → bit (heard_set log) c ≡ 1
heard_in [] c h = absurd h
heard_in (Told t ∷ log) c h = heard_in log c h
heard_in (Reported r ∷ log) c (inl e) =
    let o = bit-bit_or (heard_set log) (2 ^ r.check) c in
    let p : bit (2 ^ r.check) c ≡ 1 = subst (λ d. bit (2 ^ r.check) d ≡ 1) e (bit_same r.check) in
    omega arith
heard_in (Reported r ∷ log) c (inr h) =
    let o = bit-bit_or (heard_set log) (2 ^ r.check) c in let k = heard_in log c h in omega arith

pub in_heard : (log : List Event) (c : ℕ) → bit (heard_set log) c ≡ 1 → Heard log c
in_heard [] c e = absurd (omega (arith, bit_of_none c))
in_heard (Told t ∷ log) c e = in_heard log c e
in_heard (Reported r ∷ log) c e = by (ℕ_discrete c r.check) (in_heard log c)
  where
    by : Dec (c ≡ r.check) → (bit (heard_set log) c ≡ 1 → Heard log c) → (r.check ≡ c) ⊎ Heard log c
    by (yes p) f = inl (sym p)
    by (no n) f = inr (f (let o = bit-bit_or (heard_set log) (2 ^ r.check) c in let z = bit_other r.check c n in omega arith))

-- what was reported yes was reported
yes_heard : (log : List Event) (c : ℕ) → bit (yes_set log) c ≡ 1 → Heard log c
yes_heard [] c e = absurd (omega (arith, bit_of_none c))
yes_heard (Told t ∷ log) c e = yes_heard log c e
yes_heard (Reported r ∷ log) c e = by r.yes (ℕ_discrete c r.check) e (yes_heard log c)
  where
    by : (y : Bool) → Dec (c ≡ r.check) → bit (cond y (bit_or (yes_set log) (2 ^ r.check)) (yes_set log)) c ≡ 1 →
        (bit (yes_set log) c ≡ 1 → Heard log c) → (r.check ≡ c) ⊎ Heard log c
    by y (yes p) e f = inl (sym p)
    by true (no n) e f = inr (f (let o = bit-bit_or (yes_set log) (2 ^ r.check) c in let z = bit_other r.check c n in omega arith))
    by false (no n) e f = inr (f e)

-- cases that say the same of the checks reported agree alike
pub agrees_like : (log : List Event) (s t : ℕ) → ((c : ℕ) → Heard log c → bit s c ≡ bit t c) → Agrees log s → Agrees log t
agrees_like [] s t f a = tt
agrees_like (Told x ∷ log) s t f a = agrees_like log s t f a
agrees_like (Reported r ∷ log) s t f a =
    (sym (f r.check (inl refl)) ∙ a.0, agrees_like log s t (λ c h. f c (inr h)) a.1)

-- two cases that agree say the same of each check reported
pub agree_same : (log : List Event) (s t c : ℕ) → Agrees log s → Agrees log t → Heard log c → bit s c ≡ bit t c
agree_same [] s t c a e h = absurd h
agree_same (Told x ∷ log) s t c a e h = agree_same log s t c a e h
agree_same (Reported r ∷ log) s t c a e (inl p) =
    subst (λ d. bit s d ≡ bit t d) p (a.0 ∙ sym e.0)
agree_same (Reported r ∷ log) s t c a e (inr h) = agree_same log s t c a.1 e.1 h

module _ (b : Plain) (minute : Minutes) where
  -- the set of the checks reported yes is an agreeing case
  pub yes_agrees : (log : List Event) → Lawful b minute log → Agrees log (yes_set log)
  yes_agrees [] l = tt
  yes_agrees (Told t ∷ log) l = yes_agrees log l.0
  yes_agrees (Reported r ∷ log) l = (here r.yes, agrees_like log (yes_set log) _ same (yes_agrees log l.0))
    where
      fresh : bit (yes_set log) r.check ≡ 0
      fresh = by (ℕ_discrete (bit (yes_set log) r.check) 1)
        where
          by : Dec (bit (yes_set log) r.check ≡ 1) → bit (yes_set log) r.check ≡ 0
          by (yes e) = absurd (l.1.0.2 (yes_heard log r.check e))
          by (no n) = grind arith

      here : (y : Bool) → bit (cond y (bit_or (yes_set log) (2 ^ r.check)) (yes_set log)) r.check ≡ cond y 1 0
      here true = let o = bit-bit_or (yes_set log) (2 ^ r.check) r.check in let p = bit_same r.check in omega arith
      here false = fresh

      other : (y : Bool) (c : ℕ) → c ≢ r.check → bit (yes_set log) c ≡ bit (cond y (bit_or (yes_set log) (2 ^ r.check)) (yes_set log)) c
      other true c n = let o = bit-bit_or (yes_set log) (2 ^ r.check) c in let z = bit_other r.check c n in omega arith
      other false c n = refl

      same : (c : ℕ) → Heard log c → bit (yes_set log) c ≡ bit (cond r.yes (bit_or (yes_set log) (2 ^ r.check)) (yes_set log)) c
      same c h = other r.yes c (λ e. l.1.0.2 (subst (λ d. Heard log d) e h))

  pub yes_case : (log : List Event) → Lawful b minute log → Case b (yes_set log)
  yes_case [] l = pow_pos (checks b)
  yes_case (Told t ∷ log) l = yes_case log l.0
  yes_case (Reported r ∷ log) l = by r.yes (yes_case log l.0)
    where
      by : (y : Bool) → Case b (yes_set log) → Case b (cond y (bit_or (yes_set log) (2 ^ r.check)) (yes_set log))
      by true h = or_lt (checks b) (yes_set log) (2 ^ r.check) h (pow_below r.check (checks b) l.1.0.0)
      by false h = h

  pub yes_agreeing : (log : List Event) → Lawful b minute log → Agreeing b log (yes_set log)
  yes_agreeing log l = (yes_case log l, yes_agrees log l)

  -- a check told was reported, or is awaited
  told_check : (log : List Event) → Lawful b minute log → (c v : ℕ) → c < checks b → ToldAt log (asking b c) v → Heard log c ⊎ Awaited b log c
  told_check [] l c v h t = absurd t
  told_check (Told t ∷ log) l c v h (inl p) = by (heard_dec log c)
    where
      by : Dec (Heard log c) → Heard log c ⊎ Awaited b (Told t ∷ log) c
      by (yes k) = inl k
      by (no n) = inr (h, p.0, n)
  told_check (Told t ∷ log) l c v h (inr p) =
      elim (told_check log l.0 c v h p) [ inl k ↦ inl k | inr a ↦ absurd (l.1.0 c a) ]
  told_check (Reported r ∷ log) l c v h p = by (told_check log l.0 c v h p) (ℕ_discrete r.check c)
    where
      by : Heard log c ⊎ Awaited b log c → Dec (r.check ≡ c) → ((r.check ≡ c) ⊎ Heard log c) ⊎ Awaited b (Reported r ∷ log) c
      by (inl k) d = inl (inr k)
      by (inr a) (yes e) = inl (inl e)
      by (inr a) (no n) = inr (a.0, a.1, λ k. elim k [ inl e ↦ n e | inr x ↦ a.2 x ])

  pub told_heard : (log : List Event) → Lawful b minute log → NoneAwaited b log → (c v : ℕ) → c < checks b → ToldAt log (asking b c) v → Heard log c
  told_heard log l none c v h t = elim (told_check log l c v h t) [ inl k ↦ k | inr a ↦ absurd (none c a) ]
