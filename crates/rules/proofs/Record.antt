-- The record of a raise: the rule that last raised each place.
use Rattle.std.proofs.Common.{◌≡◌, ℕ, suc, ◌<◌, ◌≤◌, ◌≢◌, ◌⊎◌, List, length, set, sym, refl, ap, ◌∙◌, subst, inl, inr, ⊎_elim, arith}
use Rattle.std.proofs.lemmas.List.{get_or-set_same, get_or-set_other, length-set}
use Rattle.std.proofs.lemmas.Bool.{cases_eq}
use Rattle.rules.specs.Rules.{System, at, rule, alternative}
use Rattle.rules.specs.Search.{LeastAsked, Follows, Traced, Recorded}
use Rattle.rules.proofs.Asked.{asked_leads, follows_new, follows_old}

-- a list after a write: at the place written, and at the others
pub at_set : (l : List ℕ) (p x : ℕ) → p < length l → (P : ℕ → Type 0) (q : ℕ) → P (at l q) → (q ≡ p → P x) → P (at (set l p x) q)
at_set l p x within P q old new =
    ⊎_elim
    (λ e. subst P (sym (ap (at (set l p x)) e ∙ get_or-set_same l p x 0 within)) (new e))
    (λ ne. subst P (sym (get_or-set_other l p q x 0 ne)) old)
    (cases_eq q p)

module _ (m : System) (table by : List ℕ) (r x : ℕ) (h : r < length m.rules) (l : LeastAsked table (rule m r) x) (rec : Recorded m table by)
    (within : (rule m r).held < length table) (within_by : (rule m r).held < length by) (more : at table (rule m r).held < x) where
  within_stamps : (rule m r).held < length rec.stamps
  within_stamps = omega (arith, rec.long)

  here : at (set table (rule m r).held x) (rule m r).held ≡ x
  here = get_or-set_same table (rule m r).held x 0 within

  stamped : at (set rec.stamps (rule m r).held (suc rec.clock)) (rule m r).held ≡ suc rec.clock
  stamped = get_or-set_same rec.stamps (rule m r).held (suc rec.clock) 0 within_stamps

  up : (q : ℕ) → at table q ≤ at (set table (rule m r).held x) q
  up q = at_set table (rule m r).held x within (λ v. at table q ≤ v) q (omega arith) (λ e. subst (λ k. at table k ≤ x) (sym e) (omega arith))

  new : Traced m (set table (rule m r).held x) (set rec.stamps (rule m r).held (suc rec.clock)) r (rule m r).held
  new = record {
    within = h;
    held = refl;
    each = λ a i.
        let q = (alternative (rule m r) a).place in
        let w = (alternative (rule m r) a).minutes in
        let T = set table (rule m r).held x in
        let Z = set rec.stamps (rule m r).held (suc rec.clock) in
        let side : (at table q < at T q) ⊎ (at Z q < suc rec.clock) =
        ⊎_elim
        (λ e. inl (subst (λ k. at table k < at T k) (sym e) (omega (arith, here))))
        (λ ne. inr (omega (arith, get_or-set_other rec.stamps (rule m r).held q (suc rec.clock) 0 ne, rec.high q)))
        (cases_eq q (rule m r).held) in
        let f : Follows x (at T q) (suc rec.clock) (at Z q) w =
        follows_new x (at table q) (suc rec.clock) (at T q) (at Z q) w (asked_leads x (at table q) w (omega arith) (l.least a i)) (up q) side in
        subst (λ v. Follows v (at T q) (at Z (rule m r).held) (at Z q) w) (sym here) (subst (λ s. Follows x (at T q) s (at Z q) w) (sym stamped) f);
  }

  old : (k p : ℕ) → p ≢ (rule m r).held → Traced m table rec.stamps k p →
      Traced m (set table (rule m r).held x) (set rec.stamps (rule m r).held (suc rec.clock)) k p
  old k p ne t = record {
    within = t.within;
    held = t.held;
    each = λ a i.
        let q = (alternative (rule m k) a).place in
        let w = (alternative (rule m k) a).minutes in
        let T = set table (rule m r).held x in
        let Z = set rec.stamps (rule m r).held (suc rec.clock) in
        let side : ((at T q ≡ at table q) × (at Z q ≡ at rec.stamps q)) ⊎ (at table q < at T q) =
        ⊎_elim
        (λ e. inr (subst (λ k. at table k < at T k) (sym e) (omega (arith, here))))
        (λ no. inl (get_or-set_other table (rule m r).held q x 0 no, get_or-set_other rec.stamps (rule m r).held q (suc rec.clock) 0 no))
        (cases_eq q (rule m r).held) in
        let f : Follows (at table p) (at T q) (at rec.stamps p) (at Z q) w =
        follows_old (at table p) (at table q) (at rec.stamps p) (at rec.stamps q) (at T q) (at Z q) w (t.each a i) side in
        subst (λ v. Follows v (at T q) (at Z p) (at Z q) w) (sym (get_or-set_other table (rule m r).held p x 0 ne))
        (subst (λ s. Follows (at table p) (at T q) s (at Z q) w) (sym (get_or-set_other rec.stamps (rule m r).held p (suc rec.clock) 0 ne)) f);
  }

  pub recorded_more : Recorded m (set table (rule m r).held x) (set by (rule m r).held r)
  recorded_more = record {
    stamps = set rec.stamps (rule m r).held (suc rec.clock);
    clock = suc rec.clock;
    long = length-set rec.stamps (rule m r).held (suc rec.clock) ∙ rec.long ∙ sym (length-set table (rule m r).held x);
    high = λ p. at_set rec.stamps (rule m r).held (suc rec.clock) within_stamps (λ v. v ≤ suc rec.clock) p (omega (arith, rec.high p))
        (λ _. omega arith);
    each = λ p up_p.
        let T = set table (rule m r).held x in
        let Z = set rec.stamps (rule m r).held (suc rec.clock) in
        let B = set by (rule m r).held r in
        ⊎_elim
        (λ (e : p ≡ (rule m r).held).
        subst (λ q. Traced m T Z (at B q) q) (sym e)
        (subst (λ k. Traced m T Z k (rule m r).held) (sym (get_or-set_same by (rule m r).held r 0 within_by)) new))
        (λ (ne : p ≢ (rule m r).held).
        let was : 0 < at table p = subst (λ v. 0 < v) (get_or-set_other table (rule m r).held p x 0 ne) up_p in
        subst (λ k. Traced m T Z k p) (sym (get_or-set_other by (rule m r).held p r 0 ne)) (old (at by p) p ne (rec.each p was)))
        (cases_eq p (rule m r).held);
  }
