-- What was told is exactly what every agreeing case has, up to the last minute told.
use Rattle.std.proofs.Common.{◌≡◌, ℕ, ◌<◌, ◌≤◌, ◌⊎◌, ◌↔◌, List, [], ◌∷◌, sym, ◌∙◌, inl, inr, arith}
use native.Mathlib.Decide.{dec_lt, dec_le}
use Rattle.book.specs.Plain.{Plain}
use Rattle.grades.specs.Grades.{Minutes}
use Rattle.walks.specs.declared.parts.Telling.{Telling}
use Rattle.walks.specs.declared.parts.Event.{Event}
use Rattle.walks.specs.declared.parts.Event.TheVariants.{Told, Reported}
use Rattle.walks.specs.Logs.{Has, ToldAt, Agreeing, last_minute, UpTo, Comes, Left, Lawful, Tells}
use Rattle.walks.specs.Standing.{yes_set, time}
use Rattle.walks.proofs.Sets.{some_bit}
use Rattle.walks.proofs.Reports.{yes_agreeing}

-- up to the last minute told is before the minute after it
pub up_time : (log : List Event) (v : ℕ) → UpTo (last_minute log) v → v < time log
up_time [] v h = absurd h
up_time (Told t ∷ log) v h = omega arith
up_time (Reported r ∷ log) v h = up_time log v h

pub time_up : (log : List Event) (v : ℕ) → v < time log → UpTo (last_minute log) v
time_up [] v h = absurd (omega arith)
time_up (Told t ∷ log) v h = omega arith
time_up (Reported r ∷ log) v h = time_up log v h

module _ (b : Plain) (minute : Minutes) where
  abbrev Exact : List Event → Type 0
  Exact log = (s : ℕ) → Agreeing b log s → (j v : ℕ) → ToldAt log j v ↔ (Comes b minute s j v × UpTo (last_minute log) v)

  -- where the log before it is exact, a right telling is past all that was told
  past : (log : List Event) → Lawful b minute log → Exact log → (t : Telling) → Tells b minute log t → time log ≤ t.minute
  past log l before t tells = by (dec_le (time log) t.minute)
    where
      by : Dec (time log ≤ t.minute) → time log ≤ t.minute
      by (yes h) = h
      by (no n) =
          let agrees = yes_agreeing b minute log l in
          let one = some_bit t.jobs tells.some in
          let left = (tells.exactly (yes_set log) agrees one.0).0 one.1 in
          let early = time_up log t.minute (omega arith) in
          absurd (left.0.2 t.minute ((before (yes_set log) agrees one.0 t.minute).1 ((left.0.0, left.0.1, left.1), early)))

  -- one telling more
  module _ (log : List Event) (before : Exact log) (t : Telling) (tells : Tells b minute log t) (after : time log ≤ t.minute)
      (s : ℕ) (a : Agreeing b log s) (j v : ℕ) where
    there : (Has t.jobs j × (t.minute ≡ v)) ⊎ ToldAt log j v → Comes b minute s j v × (v ≤ t.minute)
    there (inl p) = let x = (tells.exactly s a j).0 p.0 in ((x.0.0, x.0.1, x.1 ∙ p.1), omega (arith, p.1))
    there (inr p) = let x = (before s a j v).0 p in (x.0, let u = up_time log v x.1 in omega arith)

    back : Comes b minute s j v → v ≤ t.minute → Dec (v < time log) → (Has t.jobs j × (t.minute ≡ v)) ⊎ ToldAt log j v
    back c h (yes u) = inr ((before s a j v).1 (c, time_up log v u))
    back c h (no n) =
        let not_told : (w : ℕ) → ToldAt log j w → ⊥ =
        λ w p. let x = (before s a j w).0 p in let u = up_time log w x.1 in let e = x.0.2 in let f = c.2 in n (omega arith) in
        let left : Left b log s j = (c.0, c.1, not_told) in
        let least = tells.next s a j left in
        let e : t.minute ≡ v = let f = c.2 in omega arith in
        inl ((tells.exactly s a j).1 (left, c.2 ∙ sym e), e)

  pub exact : (log : List Event) → Lawful b minute log → Exact log
  exact [] l s a j v = (λ h. absurd h, λ h. absurd h.1)
  exact (Reported r ∷ log) l s a j v = exact log l.0 s (a.0, a.1.1) j v
  exact (Told t ∷ log) l s a j v =
      let before = exact log l.0 in
      let after = past log l.0 before t l.1.1 in
      (there log before t l.1.1 after s a j v, λ p. back log before t l.1.1 after s a j v p.0 p.1 (dec_lt v (time log)))

  -- a right telling after a lawful log is past all that was told
  pub past_all : (log : List Event) → Lawful b minute log → (t : Telling) → Tells b minute log t → time log ≤ t.minute
  past_all log l t tells = past log l (exact log l) t tells
