-- Chains of rules, and the walk that ends in a loop.
use Rattle.std.proofs.Common.{◌≡◌, ℕ, zero, suc, ◌+◌, ◌-◌, ◌*◌, ◌<◌, ◌≤◌, min, ◌≢◌, ◌⊎◌, List, [], ◌∷◌, ◌++◌, length, get_or, take, drop}
use Rattle.std.proofs.Common.{set, replicate, ℤ, pos, negsuc, ◌+ℤ◌, ◌≤ℤ◌, sum_by, sym, refl, ap, ◌∙◌, subst, inl, inr, ⊎_elim, arith}
use Rattle.std.proofs.lemmas.Int.{ints}
use Rattle.std.proofs.lemmas.List.{get_or-set_same, get_or-set_other, get_or-take, get_or-drop, length-take-le, length-drop, length-set}
use Rattle.std.proofs.lemmas.List.{take_more_set, take-append-drop, drop-take}
use Rattle.std.proofs.ByRecursion.{All-from_get_or, sum_by_le}
use Rattle.std.proofs.lemmas.List.Sums.{sum_by-set, sum_by-append}
use Rattle.std.proofs.lemmas.Bool.{cases_eq, cases_lt}
use Rattle.rules.specs.Rules.{System, Sound, Keeps, at, rule, alternative}
use Rattle.rules.specs.Search.{Leads, Traced}
use Rattle.rules.proofs.Steps.{zero_at}
use Rattle.rules.specs.Loops.{OneWay, way, Chain, total, Loop, Stuck, LoopBars}

leads_int : (v u : ℕ) (w : ℤ) → Leads v u w → pos v ≤ℤ (pos u +ℤ w)
leads_int v u (pos k) l = omega (arith, ints)
leads_int v u (negsuc k) l = omega (arith, ints)

-- sums of signed numbers
joins : (v u x : ℕ) (w t : ℤ) → pos v ≤ℤ (pos u +ℤ w) → pos u ≤ℤ (pos x +ℤ t) → pos v ≤ℤ (pos x +ℤ (w +ℤ t))
joins v u x w t a b = omega (arith, ints)

joins_past : (v u x : ℕ) (w t : ℤ) → pos v ≤ℤ (pos u +ℤ w) → pos (suc u) ≤ℤ (pos x +ℤ t) → pos (suc v) ≤ℤ (pos x +ℤ (w +ℤ t))
joins_past v u x w t a b = omega (arith, ints)

above_none : (v : ℕ) (t : ℤ) → pos (suc v) ≤ℤ (pos v +ℤ t) → pos 1 ≤ℤ t
above_none v t h = omega (arith, ints)

at_once : (v : ℕ) → pos v ≤ℤ (pos v +ℤ pos 0)
at_once v = omega (arith, ints)

kept_joins : (v u x : ℕ) (w t : ℤ) → (pos u +ℤ w) ≤ℤ pos v → (pos x +ℤ t) ≤ℤ pos u → (pos x +ℤ (w +ℤ t)) ≤ℤ pos v
kept_joins v u x w t a b = omega (arith, ints)

kept_none : (v : ℕ) → (pos v +ℤ pos 0) ≤ℤ pos v
kept_none v = omega (arith, ints)

no_loop : (v : ℕ) (t : ℤ) → (pos v +ℤ t) ≤ℤ pos v → pos 1 ≤ℤ t → ⊥
no_loop v t a b = omega (arith, ints)

-- a table that keeps the rules is so much higher where a chain begins
chain_kept : (m : System) (one : OneWay m) (other : List ℕ) → Keeps m other → (rs : List ℕ) (p q : ℕ) → Chain m p rs q →
    (pos (at other q) +ℤ total m rs) ≤ℤ pos (at other p)
chain_kept m one other k [] p q e = subst (λ x. (pos (at other x) +ℤ pos 0) ≤ℤ pos (at other p)) e (kept_none (at other p))
chain_kept m one other k (r ∷ rs) p q (h, held, rest) =
    let (a, within, by) = k.each r h in
    let e : a ≡ 0 = omega (arith, within, one.each r h) in
    let w = (way m r).minutes in
    let u = (way m r).place in
    let here : (pos (at other u) +ℤ w) ≤ℤ pos (at other (rule m r).held) =
    subst (λ b. (pos (at other (alternative (rule m r) b).place) +ℤ (alternative (rule m r) b).minutes) ≤ℤ pos (at other (rule m r).held)) e by in
    let there : (pos (at other u) +ℤ w) ≤ℤ pos (at other p) = subst (λ x. (pos (at other u) +ℤ w) ≤ℤ pos (at other x)) held here in
    kept_joins (at other p) (at other u) (at other q) w (total m rs) there (chain_kept m one other k rs u q rest)

pub loop_bars : LoopBars
loop_bars m rs one l other k = no_loop (at other l.from) (total m rs) (chain_kept m one other k rs l.from l.from l.closes) l.above

-- the rules of a chain are rules of the system
pub chain_known : (m : System) (rs : List ℕ) (p q : ℕ) → Chain m p rs q → (i : ℕ) → i < length rs → get_or rs i 0 < length m.rules
chain_known m [] p q e i h = absurd (omega arith)
chain_known m (r ∷ rs) p q (known, _, rest) zero h = known
chain_known m (r ∷ rs) p q (known, _, rest) (suc i) h = chain_known m rs (way m r).place q rest i (omega arith)

-- a chain of rules that raised the places they hold back
abbrev pub Path : System → List ℕ → List ℕ → ℕ → List ℕ → ℕ → Type 0
Path m heights stamps p [] q = p ≡ q
Path m heights stamps p (r ∷ rs) q = Traced m heights stamps r p × Path m heights stamps (way m r).place rs q

module _ (m : System) (heights stamps : List ℕ) where
  path_chain : (rs : List ℕ) (p q : ℕ) → Path m heights stamps p rs q → Chain m p rs q
  path_chain [] p q e = e
  path_chain (r ∷ rs) p q (t, rest) = (t.within, t.held, path_chain rs (way m r).place q rest)

  path_push : (rs : List ℕ) (p q r : ℕ) → Path m heights stamps p rs q → Traced m heights stamps r q → Path m heights stamps p (rs ++ (r ∷ [])) (way m r).place
  path_push [] p q r e t = (subst (Traced m heights stamps r) (sym e) t, refl)
  path_push (s ∷ rs) p q r (u, rest) t = (u, path_push rs (way m s).place q r rest t)

  path_drop : (rs : List ℕ) (p q i : ℕ) → Path m heights stamps p rs q → i < length rs → Path m heights stamps (rule m (get_or rs i 0)).held (drop i rs) q
  path_drop [] p q i e h = absurd (omega arith)
  path_drop (r ∷ rs) p q zero (t, rest) h = (subst (Traced m heights stamps r) (sym t.held) t, rest)
  path_drop (r ∷ rs) p q (suc i) (t, rest) h = path_drop rs (way m r).place q i rest (omega arith)

  module _ (sound : Sound m) where
    first : (r p : ℕ) → (t : Traced m heights stamps r p) → 0 < length (rule m r).alternatives
    first r p t = omega (arith, (sound.each r t.within).some)

    path_sum : (rs : List ℕ) (p q : ℕ) → Path m heights stamps p rs q →
        (pos (at heights p) ≤ℤ (pos (at heights q) +ℤ total m rs))
        × (0 < length rs → at stamps p ≤ at stamps q → pos (suc (at heights p)) ≤ℤ (pos (at heights q) +ℤ total m rs))
    path_sum [] p q e = (subst (λ x. pos (at heights p) ≤ℤ (pos (at heights x) +ℤ pos 0)) e (at_once (at heights p)), λ h. absurd (omega arith))
    path_sum (r ∷ []) p q (t, e) =
        let u = (way m r).place in
        let w = (way m r).minutes in
        let (weak, strict) = t.each 0 (first r p t) in
        let there : pos (at heights u) ≤ℤ (pos (at heights q) +ℤ pos 0) =
        subst (λ x. pos (at heights u) ≤ℤ (pos (at heights x) +ℤ pos 0)) e (at_once (at heights u)) in (
          joins (at heights p) (at heights u) (at heights q) w (pos 0) (leads_int (at heights p) (at heights u) w weak) there,
          λ _ le. joins (suc (at heights p)) (at heights u) (at heights q) w (pos 0)
              (leads_int (suc (at heights p)) (at heights u) w (strict (subst (λ x. at stamps p ≤ at stamps x) (sym e) le))) there,
        )
    path_sum (r ∷ (s ∷ rs)) p q (t, rest) =
        let u = (way m r).place in
        let w = (way m r).minutes in
        let W = total m (s ∷ rs) in
        let (weak, strict) = t.each 0 (first r p t) in
        let (on, past) = path_sum (s ∷ rs) u q rest in (
          joins (at heights p) (at heights u) (at heights q) w W (leads_int (at heights p) (at heights u) w weak) on,
          λ _ le.
              ⊎_elim
              (λ (down : at stamps u < at stamps p).
              joins_past (at heights p) (at heights u) (at heights q) w W (leads_int (at heights p) (at heights u) w weak)
              (past (omega arith) (omega arith)))
              (λ (up : at stamps p ≤ at stamps u).
              joins (suc (at heights p)) (at heights u) (at heights q) w W (leads_int (suc (at heights p)) (at heights u) w (strict up)) on)
              (cases_lt (at stamps u) (at stamps p)),
        )

    path_above : (rs : List ℕ) (p : ℕ) → Path m heights stamps p rs p → 0 < length rs → pos 1 ≤ℤ total m rs
    path_above rs p path some = above_none (at heights p) (total m rs) ((path_sum rs p p path).1 some (omega arith))

-- so many of the numbers are above 0
abbrev pub seen_count : List ℕ → ℕ
seen_count seen = sum_by (λ v. min v 1) seen

count_le : (seen : List ℕ) (n : ℕ) → n ≤ length seen → ((p : ℕ) → n ≤ p → at seen p ≡ 0) → seen_count seen ≤ n
count_le seen n le past =
    let f : ℕ → ℕ = λ v. min v 1 in
    let front : sum_by f (take n seen) ≤ length (take n seen) * 1 =
    sum_by_le f 1 (take n seen) (All-from_get_or (λ v. f v ≤ 1) (take n seen) 0 (λ p _. omega arith)) in
    let back : sum_by f (drop n seen) ≤ length (drop n seen) * 0 =
    sum_by_le f 0 (drop n seen)
    (All-from_get_or (λ v. f v ≤ 0) (drop n seen) 0 (λ p _. let z : get_or (drop n seen) p 0 ≡ 0 = get_or-drop n seen p 0 ∙ past (n + p) (omega arith) in
    omega (arith, z))) in
    let all : sum_by f seen ≡ sum_by f (take n seen) + sum_by f (drop n seen) =
    ap (sum_by f) (sym (take-append-drop n seen)) ∙ sum_by-append f (take n seen) (drop n seen) in
    omega (arith, front, back, all, length-take-le n seen le)

-- on the walk: the rules so far lead to the place p, and each place that they hold back has its number, from 1 on
pub record Walking (m : System) (by seen out : List ℕ) (n p : ℕ) : Type 0 where
  pub stuck : Stuck m by p
  pub place : p < m.places
  pub from : ℕ
  pub path : Path m stuck.barred.heights stuck.barred.stamps from (take n out) p
  pub numbered : (i : ℕ) → i < n → at seen (rule m (get_or out i 0)).held ≡ i + 1
  pub back : (q : ℕ) → 0 < at seen q → (at seen q ≤ n) × ((rule m (get_or out (at seen q - 1) 0)).held ≡ q)
  pub low : (q : ℕ) → 0 < at seen q → q < m.places
  pub count : seen_count seen ≡ n
  pub wide : length seen ≡ 320
  pub room : n ≤ m.places

module _ (m : System) (sound : Sound m) (by seen out : List ℕ) (n p : ℕ) (w : Walking m by seen out n p) where
  pub rule_low : at by p < length m.rules
  rule_low = (w.stuck.barred.traced p w.stuck.here).within

  -- it goes on to a place not seen yet
  module _ (wide : m.places ≤ length out) (new : at seen p ≡ 0) where
    low_on : (q : ℕ) → 0 < at (set seen p (n + 1)) q → q < m.places
    low_on q h =
        ⊎_elim
        (λ (e : q ≡ p). subst (λ x. x < m.places) (sym e) w.place)
        (λ (ne : q ≢ p). w.low q (subst (λ v. 0 < v) (get_or-set_other seen p q (n + 1) 0 ne) h))
        (cases_eq q p)

    within_seen : p < length seen
    within_seen = omega (arith, w.place, sound.few, w.wide)

    count_on : seen_count (set seen p (n + 1)) ≡ n + 1
    count_on = let e = sum_by-set (λ v. min v 1) seen p (n + 1) 0 within_seen in omega (arith, e, new, w.count)

    pub room_on : n + 1 ≤ m.places
    room_on =
        let c = count_le (set seen p (n + 1)) m.places (omega (arith, length-set seen p (n + 1), sound.few, w.wide))
        (λ q past. ⊎_elim (λ (z : at (set seen p (n + 1)) q ≤ 0). omega arith) (λ (h : 0 < at (set seen p (n + 1)) q). absurd (omega (arith, low_on q h)))
        (swap (cases_lt 0 (at (set seen p (n + 1)) q)))) in
        omega (arith, c, count_on)
      where
        swap : {A B : Type 0} → A ⊎ B → B ⊎ A
        swap (inl a) = inr a
        swap (inr b) = inl b

    pub walks_on : Walking m by (set seen p (n + 1)) (set out n (at by p)) (n + 1) (way m (at by p)).place
    walks_on = record {
      stuck = record {
        inside = w.stuck.inside;
        barred = w.stuck.barred;
        here =
            w.stuck.barred.closed p w.stuck.here 0 (omega (arith, (sound.each (at by p) rule_low).some));
      };
      place = ((sound.each (at by p) rule_low).each 0 (omega (arith, (sound.each (at by p) rule_low).some))).within;
      from = w.from;
      path = subst (λ rs. Path m w.stuck.barred.heights w.stuck.barred.stamps w.from rs (way m (at by p)).place)
          (sym (take_more_set out n (at by p) (omega (arith, room_on))))
          (path_push m w.stuck.barred.heights w.stuck.barred.stamps (take n out) w.from p (at by p) w.path
          (w.stuck.barred.traced p w.stuck.here));
      numbered = numbered_on;
      back = back_on;
      low = low_on;
      count = count_on;
      wide = length-set seen p (n + 1) ∙ w.wide;
      room = room_on;
    }
      where
        here_now : get_or (set out n (at by p)) n 0 ≡ at by p
        here_now = get_or-set_same out n (at by p) 0 (omega (arith, room_on))

        held_now : (rule m (at by p)).held ≡ p
        held_now = (w.stuck.barred.traced p w.stuck.here).held

        seen_now : at (set seen p (n + 1)) p ≡ n + 1
        seen_now = get_or-set_same seen p (n + 1) 0 within_seen

        numbered_on : (i : ℕ) → i < n + 1 → at (set seen p (n + 1)) (rule m (get_or (set out n (at by p)) i 0)).held ≡ i + 1
        numbered_on i h =
            ⊎_elim
            (λ (lt : i < n).
            let ne : i ≢ n = omega arith in
            let was = w.numbered i lt in
            let k = (rule m (get_or out i 0)).held in
            let nk : k ≢ p = λ e. let z : at seen k ≡ 0 = subst (λ x. at seen x ≡ 0) (sym e) new in omega (arith, z, was) in
            subst (λ r. at (set seen p (n + 1)) (rule m r).held ≡ i + 1) (sym (get_or-set_other out n i (at by p) 0 ne))
            (get_or-set_other seen p k (n + 1) 0 nk ∙ was))
            (λ (ge : n ≤ i).
            let e : n ≡ i = omega arith in
            subst (λ j. at (set seen p (n + 1)) (rule m (get_or (set out n (at by p)) j 0)).held ≡ j + 1) e
            (subst (λ r. at (set seen p (n + 1)) (rule m r).held ≡ n + 1) (sym here_now)
            (subst (λ x. at (set seen p (n + 1)) x ≡ n + 1) (sym held_now) seen_now)))
            (cases_lt i n)

        back_on : (q : ℕ) → 0 < at (set seen p (n + 1)) q →
            (at (set seen p (n + 1)) q ≤ n + 1) × ((rule m (get_or (set out n (at by p)) (at (set seen p (n + 1)) q - 1) 0)).held ≡ q)
        back_on q h =
            ⊎_elim
            (λ (e : q ≡ p).
            let v : at (set seen p (n + 1)) q ≡ n + 1 = ap (at (set seen p (n + 1))) e ∙ seen_now in
            let i : at (set seen p (n + 1)) q - 1 ≡ n = omega (arith, v) in (
              omega (arith, v),
              subst (λ j. (rule m (get_or (set out n (at by p)) j 0)).held ≡ q) (sym i)
                  (subst (λ r. (rule m r).held ≡ q) (sym here_now) (held_now ∙ sym e)),
            ))
            (λ (ne : q ≢ p).
            let v : at (set seen p (n + 1)) q ≡ at seen q = get_or-set_other seen p q (n + 1) 0 ne in
            let was = w.back q (subst (λ x. 0 < x) v h) in
            let no : at seen q - 1 ≢ n = omega (arith, was.0, v, h) in (
              omega (arith, v, was.0),
              subst (λ s. (rule m (get_or (set out n (at by p)) (s - 1) 0)).held ≡ q) (sym v)
                  (subst (λ r. (rule m r).held ≡ q) (sym (get_or-set_other out n (at seen q - 1) (at by p) 0 no)) was.1),
            ))
            (cases_eq q p)

  -- it comes to a place seen before
  pub walks_round : m.places ≤ length out → 0 < at seen p → Loop m (drop (at seen p - 1) (take n out))
  walks_round wide old =
      let i = at seen p - 1 in
      let (le, is) = w.back p old in
      let long : length (take n out) ≡ n = length-take-le n out (omega (arith, w.room)) in
      let short : length (drop i (take n out)) ≡ n - i = length-drop i (take n out) ∙ ap (λ k. k - i) long in
      let within : i < length (take n out) = omega (arith, le, old, long) in
      let named : (rule m (get_or (take n out) i 0)).held ≡ p = ap (λ r. (rule m r).held) (get_or-take n out i 0 (omega (arith, le, old))) ∙ is in
      let H = w.stuck.barred.heights in
      let Z = w.stuck.barred.stamps in
      let round : Path m H Z p (drop i (take n out)) p =
      subst (λ x. Path m H Z x (drop i (take n out)) p) named (path_drop m H Z (take n out) w.from p i w.path within) in
      let some : 0 < length (drop i (take n out)) = omega (arith, short, le, old) in
      record {
        from = p;
        closes = path_chain m H Z (drop i (take n out)) p p round;
        once = λ a b ha hb e.
            let na = number i a (omega (arith, short, ha, le)) in
            let nb = number i b (omega (arith, short, hb, le)) in
            let same = ap (at seen) e in
            omega (arith, na, nb, same);
        short = omega (arith, short, w.room);
        above = path_above m H Z sound (drop i (take n out)) p round some;
      }
    where
      number : (i a : ℕ) → i + a < n → at seen (rule m (get_or (drop i (take n out)) a 0)).held ≡ (i + a) + 1
      number i a h = subst (λ r. at seen (rule m r).held ≡ (i + a) + 1) (sym (get_or-drop i (take n out) a 0 ∙ get_or-take n out (i + a) 0 h))
          (w.numbered (i + a) h)

-- the same part of the list, as code cuts it out
pub walks_cut : (m : System) (out : List ℕ) (n i : ℕ) → i ≤ n → Loop m (drop i (take n out)) → Loop m (take (n - i) (drop i out))
walks_cut m out n i le l =
    let on : i + (n - i) ≡ n = omega arith in
    subst (Loop m) (sym (ap (λ k. drop i (take k out)) on) ∙ drop-take i (n - i) out) l

-- the walk begins at a place that is barred
pub walks_from : (m : System) (sound : Sound m) (by out : List ℕ) (p : ℕ) → Stuck m by p → Walking m by (replicate 320 0) out 0 p
walks_from m sound by out p stuck = record {
  stuck = stuck;
  place =
      let t = stuck.barred.traced p stuck.here in
      let e : (rule m (at by p)).held ≡ p = t.held in
      omega (arith, e, (sound.each (at by p) t.within).within);
  from = p;
  path = refl;
  numbered = λ i h. absurd (omega arith);
  back = λ q h. absurd (omega (arith, zero_at 320 q));
  low = λ q h. absurd (omega (arith, zero_at 320 q));
  count = refl;
  wide = refl;
  room = omega arith;
}
