-- Where a walk saw each place: as numbers from 1 on, with 0 for a place that it has not seen.
use Rattle.std.proofs.Common.{◌≡◌, ℕ, ◌+◌, ◌-◌, ◌<◌, ◌≤◌, List, length, map, take, drop, get_or, set, Option, Some, None, sym, ap, ◌∙◌, subst, arith}
use Rattle.std.proofs.Math.ListN.{get_or-map}
use Rattle.std.proofs.lemmas.List.{map-set}
use Rattle.rules.specs.Rules.{System, Sound, at, rule, alternative}
use Rattle.rules.specs.Loops.{way, Loop}
use Rattle.rules.proofs.Walks.{Walking, walks_on, walks_round, walks_cut, room_on}
use Rattle.find.specs.declared.tables.Place.{Place}
use Rattle.find.specs.Tables.{TableView, table_of}
use Rattle.find.proofs.Places.{no_place, rule_at}

abbrev pub number_of : Option ℕ → ℕ
number_of None = 0
number_of (Some n) = n + 1

abbrev pub numbers : List (Option ℕ) → List ℕ
numbers seen = map number_of seen

pub seen_at : (seen : List (Option ℕ)) (p : ℕ) (o : Option ℕ) → get_or seen p None ≡ o → at (numbers seen) p ≡ number_of o
seen_at seen p o e = get_or-map number_of seen p None ∙ ap number_of e

pub seen_on : (seen : List (Option ℕ)) (p n : ℕ) → numbers (set seen p (Some n)) ≡ set (numbers seen) p (n + 1)
seen_on seen p n = map-set number_of seen p (Some n)

-- a place that was seen has its number among the rules so far
pub seen_low : (m : System) (by : List ℕ) (seen : List (Option ℕ)) (out : List ℕ) (n p from : ℕ) → Walking m by (numbers seen) out n p →
    get_or seen p None ≡ Some from → from + 1 ≤ n
seen_low m by seen out n p from w e = let is = seen_at seen p (Some from) e in omega (arith, is, (w.back p (omega (arith, is))).0)

-- at a place that was seen, the rules from its number on are a loop
pub loop_found : (m : System) (sound : Sound m) (by : List ℕ) (seen : List (Option ℕ)) (out : List ℕ) (n p from : ℕ) →
    Walking m by (numbers seen) out n p → m.places ≤ length out → get_or seen p None ≡ Some from → Loop m (take (n - from) (drop from out))
loop_found m sound by seen out n p from w wide e =
    let is = seen_at seen p (Some from) e in
    let old : 0 < at (numbers seen) p = omega (arith, is) in
    let back : at (numbers seen) p - 1 ≡ from = omega (arith, is) in
    let low = seen_low m by seen out n p from w e in
    walks_cut m out n from (omega (arith, low)) (subst (λ k. Loop m (drop k (take n out))) back (walks_round m sound by (numbers seen) out n p w wide old))

-- at one that was not, there is room for another rule
pub room_left : (m : System) (sound : Sound m) (by : List ℕ) (seen : List (Option ℕ)) (out : List ℕ) (n p : ℕ) → Walking m by (numbers seen) out n p →
    m.places ≤ length out → get_or seen p None ≡ None → n + 1 ≤ m.places
room_left m sound by seen out n p w wide new = room_on m sound by (numbers seen) out n p w wide (seen_at seen p None new)

-- the walk goes on to a place that it has not seen
pub walks_more : (m : System) (sound : Sound m) (places : List Place) (t : TableView) → table_of places ≡ t → (seen : List (Option ℕ)) (out : List ℕ)
    (n p q : ℕ) → Walking m t.by (numbers seen) out n p → m.places ≤ length out → get_or seen p None ≡ None →
    q ≡ (alternative (rule m (get_or places p no_place).by) 0).place →
    Walking m t.by (numbers (set seen p (Some n))) (set out n (get_or places p no_place).by) (n + 1) q
walks_more m sound places t view seen out n p q w wide new is =
    let e = rule_at places t view p in
    let on = walks_on m sound t.by (numbers seen) out n p w wide (seen_at seen p None new) in
    let there : (way m (at t.by p)).place ≡ q = ap (λ r. (way m r).place) e ∙ sym is in
    subst (λ s. Walking m t.by s (set out n (get_or places p no_place).by) (n + 1) q) (sym (seen_on seen p n))
    (subst (λ r. Walking m t.by (set (numbers seen) p (n + 1)) (set out n r) (n + 1) q) e
    (subst (Walking m t.by (set (numbers seen) p (n + 1)) (set out n (at t.by p)) (n + 1)) there on))
