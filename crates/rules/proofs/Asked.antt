-- An alternative's demand as a natural number: where it would be below 0 it asks nothing.
use Rattle.std.proofs.Common.{◌≡◌, ℕ, suc, ◌+◌, ◌<◌, ◌≤◌, ◌⊎◌, ℤ, pos, negsuc, ◌+ℤ◌, ◌≤ℤ◌, inl, inr, arith}
use Rattle.std.proofs.lemmas.Int.{ints}
use Rattle.rules.specs.Search.{asked, Leads, Follows}

pub asked_le : (v h : ℕ) (w : ℤ) → (pos v +ℤ w) ≤ℤ pos h → asked v w ≤ h
asked_le v h (pos k) e = omega (arith, ints)
asked_le v h (negsuc k) e = omega (arith, ints)

pub le_asked : (v h : ℕ) (w : ℤ) → asked v w ≤ h → (pos v +ℤ w) ≤ℤ pos h
le_asked v h (pos k) e = omega (arith, ints)
le_asked v h (negsuc k) e = omega (arith, ints)

pub asked_mono : (v u : ℕ) (w : ℤ) → v ≤ u → asked v w ≤ asked u w
asked_mono v u (pos k) e = omega arith
asked_mono v u (negsuc k) e = omega arith

pub asked_leads : (x v : ℕ) (w : ℤ) → 0 < x → x ≤ asked v w → Leads x v w
asked_leads x v (pos k) h e = omega arith
asked_leads x v (negsuc k) h e = omega arith

pub asked_high : (v : ℕ) (w : ℤ) → w ≤ℤ pos 4320 → asked v w ≤ v + 4320
asked_high v (pos k) h = omega (arith, ints)
asked_high v (negsuc k) h = omega arith

pub leads_more : (v u u' : ℕ) (w : ℤ) → Leads v u w → u ≤ u' → Leads v u' w
leads_more v u u' (pos k) l h = omega arith
leads_more v u u' (negsuc k) l h = omega arith

pub leads_past : (v u u' : ℕ) (w : ℤ) → Leads v u w → u < u' → Leads (suc v) u' w
leads_past v u u' (pos k) l h = omega arith
leads_past v u u' (negsuc k) l h = omega arith

pub leads_high : (v u : ℕ) (w : ℤ) → Leads v u w → w ≤ℤ pos 4320 → v ≤ u + 4320
leads_high v u (pos k) l h = omega (arith, ints)
leads_high v u (negsuc k) l h = omega arith

-- a table that keeps the alternative is no closer to this one at the place held back than at the other
pub leads_kept : (v u : ℕ) (w : ℤ) (x y : ℕ) → Leads v u w → (pos y +ℤ w) ≤ℤ pos x → y + v ≤ x + u
leads_kept v u (pos k) x y l h = omega (arith, ints)
leads_kept v u (negsuc k) x y l h = omega (arith, ints)

-- the ways of the place raised: u is what the other place was, u' what it is now
pub follows_new : (v u s u' z' : ℕ) (w : ℤ) → Leads v u w → u ≤ u' → ((u < u') ⊎ (z' < s)) → Follows v u' s z' w
follows_new v u s u' z' w l h (inl up) = (leads_more v u u' w l h, λ _. leads_past v u u' w l up)
follows_new v u s u' z' w l h (inr old) = (leads_more v u u' w l h, λ e. absurd (omega arith))

-- and of a place that stays: the other place stays too, or rises
pub follows_old : (v u s z u' z' : ℕ) (w : ℤ) → Follows v u s z w → (((u' ≡ u) × (z' ≡ z)) ⊎ (u < u')) → Follows v u' s z' w
follows_old v u s z u' z' w (weak, strict) (inl (eu, ez)) =
    (leads_more v u u' w weak (omega arith), λ e. leads_more (suc v) u u' w (strict (omega arith)) (omega arith))
follows_old v u s z u' z' w (weak, strict) (inr up) = (leads_more v u u' w weak (omega arith), λ e. leads_past v u u' w weak up)
