-- Marked places whose rules lead to marked places alone: no table keeps these rules.
use Rattle.std.proofs.Common.{ℕ, zero, suc, ◌+◌, ◌<◌, ◌≤◌, Bool, List, pos, ◌+ℤ◌, ◌≤ℤ◌, subst, ⊎_elim, arith}
use Rattle.std.proofs.lemmas.Bool.{cases_lt}
use Rattle.rules.specs.Rules.{System, Kept, at, rule, alternative}
use Rattle.rules.specs.Search.{Recorded, In, Closed, Barred}
use Rattle.rules.proofs.Asked.{leads_kept}

module _ (m : System) (table by : List ℕ) (rec : Recorded m table by) (inside : List Bool) (marked : (p : ℕ) → In inside p → 0 < at table p)
    (closed : Closed m by inside) (b : ℕ) (low : (p : ℕ) → at table p ≤ b) where
  module _ (other : List ℕ) (kept : (p : ℕ) → In inside p → Kept other (rule m (at by p))) where
    -- from each marked place a marked place at which the other table is no farther above, or nearer, if that place was raised since
    next : (p : ℕ) → In inside p →
        (q : ℕ) × In inside q × (at other q + at table p ≤ at other p + at table q)
        × (at rec.stamps p ≤ at rec.stamps q → at other q + suc (at table p) ≤ at other p + at table q)
    next p h =
        let (a, within, keeps) = kept p h in
        let q = (alternative (rule m (at by p)) a).place in
        let w = (alternative (rule m (at by p)) a).minutes in
        let t = rec.each p (marked p h) in
        let (weak, strict) = t.each a within in
        let here : (pos (at other q) +ℤ w) ≤ℤ pos (at other p) = subst (λ k. (pos (at other q) +ℤ w) ≤ℤ pos (at other k)) t.held keeps in (
          q,
          closed p h a within,
          leads_kept (at table p) (at table q) w (at other p) (at other q) weak here,
          λ s.
              leads_kept (suc (at table p)) (at table q) w (at other p) (at other q) (strict s) here,
        )

    inner : (d : ℕ) → ((p : ℕ) → In inside p → at other p + b < at table p + d → ⊥) → (s p : ℕ) → In inside p → at other p + b < at table p + suc d →
        at rec.stamps p < s → ⊥
    inner d nearer zero p h far old = omega arith
    inner d nearer (suc s) p h far old =
        let (q, inq, weak, strict) = next p h in
        ⊎_elim
        (λ (down : at rec.stamps q < at rec.stamps p). inner d nearer s q inq (omega arith) (omega arith))
        (λ (up : at rec.stamps p ≤ at rec.stamps q). nearer q inq (omega (arith, strict up)))
        (cases_lt (at rec.stamps q) (at rec.stamps p))

    outer : (d p : ℕ) → In inside p → at other p + b < at table p + d → ⊥
    outer zero p h far = omega (arith, low p)
    outer (suc d) p h far = inner d (outer d) (suc rec.clock) p h far (omega (arith, rec.high p))

    none : (p : ℕ) → In inside p → ⊥
    none p h = outer (suc (at other p + b)) p h (omega arith)

  pub barred : Barred m by inside
  barred = record {
    heights = table;
    stamps = rec.stamps;
    traced = λ p h. rec.each p (marked p h);
    closed = closed;
    none = λ p h other kept. none other kept p h;
  }
