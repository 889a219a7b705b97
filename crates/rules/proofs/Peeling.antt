-- Where all marks come off, every number is low.
use Rattle.std.proofs.Common.{◌≡◌, ℕ, ◌+◌, ◌*◌, ◌<◌, ◌≤◌, Bool, true, false, cond, ltb, ◌≢◌, List, length, get_or, set, sym, ap, ◌∙◌, subst}
use Rattle.std.proofs.Common.{⊎_elim, arith, below_more}
use Rattle.std.proofs.lemmas.List.{get_or-set_same, get_or-set_other, get_or_past}
use Rattle.std.proofs.lemmas.List.Sums.{sum_by-set, count_by-le-length}
use Rattle.std.proofs.lemmas.Bool.{cases_eq, cases_lt, lt-ltb, le-ltb}
use Rattle.rules.specs.Rules.{System, Sound, at, rule, alternative}
use Rattle.rules.specs.Search.{Recorded, In, Out, LeadsOut, Marked, marks, Peels, same, drops}
use Rattle.rules.proofs.Asked.{leads_high}

pub not_both : {P : Type 0} (b : Bool) → b ≡ true → b ≡ false → P
not_both b yes_b no_b = let z : ◌≡◌ {A = Bool} true false = sym yes_b ∙ no_b in let n : ◌≡◌ {A = ℕ} 0 1 = cc in absurd (omega arith)

pub in_within : (inside : List Bool) (p : ℕ) → In inside p → p < length inside
in_within inside p h = ⊎_elim (λ lt. lt) (λ past. not_both (get_or inside p false) h (get_or_past inside p false past)) (cases_lt p (length inside))

-- one mark fewer
pub fewer : (inside : List Bool) (p : ℕ) → In inside p → marks (set inside p false) + 1 ≡ marks inside
fewer inside p h =
    let e = sum_by-set (λ b. cond b 1 0) inside p false false (in_within inside p h) in
    let f : Bool → ℕ = λ b. cond b 1 0 in
    let one : f (get_or inside p false) ≡ f true = ap f h in
    omega (arith, e, one)

pub in_set : (inside : List Bool) (p q : ℕ) → In inside p → In (set inside p false) q → In inside q
in_set inside p q h i =
    ⊎_elim
    (λ e. not_both (get_or (set inside p false) q false) i
    (ap (λ k. get_or (set inside p false) k false) e ∙ get_or-set_same inside p false false (in_within inside p h)))
    (λ ne. sym (get_or-set_other inside p q false false ne) ∙ i)
    (cases_eq q p)

pub peels_in : (m : System) (by : List ℕ) (x y : List Bool) → Peels m by x y → (p : ℕ) → In y p → In x p
peels_in m by x y same p h = h
peels_in m by x y (drops {y = z} q d i out) p h = peels_in m by x z d p (in_set z q p i h)

module _ (m : System) (sound : Sound m) (table by : List ℕ) (rec : Recorded m table by) where
  pub record Bounded (inside : List Bool) : Type 0 where
    pub marked : (p : ℕ) → In inside p → 0 < at table p
    pub bound : (p : ℕ) → Out inside p → at table p + 4320 * marks inside ≤ 1382400

  bounded_drop : (z : List Bool) (q : ℕ) → Bounded z → In z q → LeadsOut (rule m (at by q)) z true → Bounded (set z q false)
  bounded_drop z q b i (a, within, out) =
      let place = (alternative (rule m (at by q)) a).place in
      let w = (alternative (rule m (at by q)) a).minutes in
      let t = rec.each q (b.marked q i) in
      let near : at table q ≤ at table place + 4320 =
      leads_high (at table q) (at table place) w (t.each a within).0 ((sound.each (at by q) t.within).each a within).high in
      let less = fewer z q i in
      record {
        marked = λ p h. b.marked p (in_set z q p i h);
        bound = λ p h.
            ⊎_elim
            (λ (e : p ≡ q). subst (λ k. at table k + 4320 * marks (set z q false) ≤ 1382400) (sym e) (omega (arith, near, less, b.bound place out)))
            (λ (ne : p ≢ q). omega (arith, less, b.bound p (sym (get_or-set_other z q p false false ne) ∙ h)))
            (cases_eq p q);
      }

  bounded_peels : (x y : List Bool) → Peels m by x y → Bounded x → Bounded y
  bounded_peels x y same b = b
  bounded_peels x y (drops {y = z} q d i out) b = bounded_drop z q (bounded_peels x z d b) i out

  bounded_start : (x : List Bool) → length x ≡ 320 → ((p : ℕ) → Marked (get_or x p false) (at table p)) → Bounded x
  bounded_start x long mk = record {
    marked = λ p h. subst (λ b. Marked b (at table p)) h (mk p);
    bound = λ p h. let e : at table p ≡ 0 = subst (λ b. Marked b (at table p)) h (mk p) in omega (arith, e, count_by-le-length (λ b. b) x);
  }

  pub peeled_in : (x y : List Bool) → ((p : ℕ) → Marked (get_or x p false) (at table p)) → Peels m by x y → (p : ℕ) → In y p → 0 < at table p
  peeled_in x y mk d p h = subst (λ b. Marked b (at table p)) (peels_in m by x y d p h) (mk p)

  pub peeled_low : (x y : List Bool) → length x ≡ 320 → ((p : ℕ) → Marked (get_or x p false) (at table p)) → Peels m by x y → (p : ℕ) → Out y p →
      at table p ≤ 1382400
  peeled_low x y long mk d p out = omega (arith, (bounded_peels x y d (bounded_start x long mk)).bound p out)

pub peels_on : (m : System) (by : List ℕ) (x y z : List Bool) → Peels m by x y → Peels m by y z → Peels m by x z
peels_on m by x y z d same = d
peels_on m by x y z d (drops {y = v} q e i out) = drops q (peels_on m by x y v d e) i out

-- in a sweep, before the place p
abbrev pub Sweeping : System → List ℕ → ℕ → List Bool → List Bool → Bool → Type 0
Sweeping m by p before after true = marks after < marks before
Sweeping m by p before after false = (after ≡ before) × ((k : ℕ) → k < p → In before k → LeadsOut (rule m (at by k)) before false)

module _ (m : System) (by : List ℕ) (p : ℕ) (before now : List Bool) where
  pub sweeping_drops : (dropped : Bool) → Sweeping m by p before now dropped → In now p → Sweeping m by (p + 1) before (set now p false) true
  sweeping_drops true less i = omega (arith, fewer now p i)
  sweeping_drops false (e, _) i = let less : marks now ≡ marks before = ap marks e in omega (arith, fewer now p i, less)

  pub sweeping_stays : (dropped : Bool) → Sweeping m by p before now dropped → (In now p → LeadsOut (rule m (at by p)) now false) →
      Sweeping m by (p + 1) before now dropped
  sweeping_stays true less here = less
  sweeping_stays false (e, kept) here =
      (e, below_more (λ k. In before k → LeadsOut (rule m (at by k)) before false) p kept (subst (λ x. In x p → LeadsOut (rule m (at by p)) x false) e here))

-- marks for the numbers above 0
marked_at : (v : ℕ) → Marked (ltb 0 v) v
marked_at v =
    ⊎_elim
    (λ (some : 0 < v). subst (λ b. Marked b v) (sym (lt-ltb 0 v some)) some)
    (λ (none : v ≤ 0). subst (λ b. Marked b v) (sym (le-ltb 0 v none)) (omega arith))
    (cases_lt 0 v)

pub marked_more : (table : List ℕ) (inside : List Bool) (p : ℕ) → p < length inside → ((k : ℕ) → k < p → Marked (get_or inside k false) (at table k)) →
    (k : ℕ) → k < p + 1 → Marked (get_or (set inside p (ltb 0 (at table p))) k false) (at table k)
marked_more table inside p lt so_far =
    below_more (λ k. Marked (get_or (set inside p (ltb 0 (at table p))) k false) (at table k)) p
    (λ k h. let ne : k ≢ p = omega arith in subst (λ b. Marked b (at table k)) (sym (get_or-set_other inside p k (ltb 0 (at table p)) false ne)) (so_far k h))
    (subst (λ b. Marked b (at table p)) (sym (get_or-set_same inside p (ltb 0 (at table p)) false lt)) (marked_at (at table p)))

pub marked_all : (table : List ℕ) (inside : List Bool) → length table ≡ length inside →
    ((k : ℕ) → k < length inside → Marked (get_or inside k false) (at table k)) →
    (k : ℕ) → Marked (get_or inside k false) (at table k)
marked_all table inside alike so_far k =
    ⊎_elim
    (λ (lt : k < length inside). so_far k lt)
    (λ (past : length inside ≤ k). subst (λ b. Marked b (at table k)) (sym (get_or_past inside k false past)) (get_or_past table k 0 (omega arith)))
    (cases_lt k (length inside))
