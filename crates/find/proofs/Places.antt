-- Reading and raising the places of a table.
use Rattle.std.proofs.Common.{◌≡◌, ℕ, ◌+◌, ◌<◌, ◌≤◌, List, length, get_or, set, sum, take, sym, ap, ◌∙◌, subst, arith}
use Rattle.std.proofs.Math.ListN.{get_or-map}
use Rattle.std.proofs.lemmas.List.{map-set, get_or-take, length-take}
use Rattle.rules.specs.Rules.{System, Rule, Sound, Kept, at, rule}
use Rattle.rules.specs.Search.{Good, LeastAsked}
use Rattle.rules.proofs.Steps.{stays, rises, grows}
use Rattle.find.specs.declared.tables.Place.{Place}
use Rattle.find.specs.Tables.{TableView, IsTable, table_of}

abbrev pub no_place : Place
no_place = record { minute = 0; by = 0 }

pub minute_at : (places : List Place) (t : TableView) → table_of places ≡ t → (p : ℕ) → at t.minutes p ≡ (get_or places p no_place).minute
minute_at places t view p = ap (λ (u : TableView). at u.minutes p) (sym view) ∙ get_or-map (λ (y : Place). y.minute) places p no_place

pub rule_at : (places : List Place) (t : TableView) → table_of places ≡ t → (p : ℕ) → at t.by p ≡ (get_or places p no_place).by
rule_at places t view p = ap (λ (u : TableView). at u.by p) (sym view) ∙ get_or-map (λ (y : Place). y.by) places p no_place

-- the same at a turn over the first n places
taken : (n p : ℕ) (places : List Place) → p < length (take n places) → get_or (take n places) p no_place ≡ get_or places p no_place
taken n p places h = get_or-take n places p no_place (omega (arith, length-take n places, h))

pub minute_in : (places : List Place) (t : TableView) → table_of places ≡ t → (n p : ℕ) → p < length (take n places) →
    at t.minutes p ≡ (get_or (take n places) p no_place).minute
minute_in places t view n p h = minute_at places t view p ∙ ap (λ (y : Place). y.minute) (sym (taken n p places h))

pub rule_in : (places : List Place) (t : TableView) → table_of places ≡ t → (n p : ℕ) → p < length (take n places) →
    at t.by p ≡ (get_or (take n places) p no_place).by
rule_in places t view n p h = rule_at places t view p ∙ ap (λ (y : Place). y.by) (sym (taken n p places h))

pub is_table : (places : List Place) (t : TableView) → table_of places ≡ t → IsTable (table_of places) → IsTable t
is_table places t view = subst IsTable view

-- a place is raised to the least that its rule asks
module _ (m : System) (sound : Sound m) (places : List Place) (t : TableView) (view : table_of places ≡ t) (r x p : ℕ) (known : r < length m.rules)
    (k : Rule) (is : k ≡ rule m r) (asks : LeastAsked t.minutes k x) (good : Good m r t.minutes t.by) (e : p ≡ k.held)
    (more : (get_or places p no_place).minute < x) (y : Place) where
  held : p ≡ (rule m r).held
  held = e ∙ ap (λ (z : Rule). z.held) is

  asked : LeastAsked t.minutes (rule m r) x
  asked = subst (λ z. LeastAsked t.minutes z x) is asks

  low : at t.minutes (rule m r).held < x
  low = subst (λ q. at t.minutes q < x) held (omega (arith, minute_at places t view p, more))

  minutes_on : y.minute ≡ x → (table_of (set places p y)).minutes ≡ set t.minutes (rule m r).held x
  minutes_on a =
      map-set (λ (z : Place). z.minute) places p y ∙ ap (λ (u : TableView). set u.minutes p y.minute) view ∙ ap (set t.minutes p) a
      ∙ ap (λ q. set t.minutes q x) held

  by_on : y.by ≡ r → (table_of (set places p y)).by ≡ set t.by (rule m r).held r
  by_on b =
      map-set (λ (z : Place). z.by) places p y ∙ ap (λ (u : TableView). set u.by p y.by) view ∙ ap (set t.by p) b ∙ ap (λ q. set t.by q r) held

  -- what is left is a table
  pub raised_table : y.minute ≡ x → IsTable (table_of (set places p y))
  raised_table a =
      let after = rises m sound t.minutes t.by r x asked good known low in
      let on = minutes_on a in
      record {
        sized = ap length on ∙ after.wide;
        low = λ q. subst (λ l. at l q ≤ 36771840) (sym on) (omega (arith, after.low q, sound.few_rules, known));
      }

  -- it keeps to what the search keeps to
  pub raised_good : y.minute ≡ x → y.by ≡ r → Good m (r + 1) (table_of (set places p y)).minutes (table_of (set places p y)).by
  raised_good a b =
      subst (λ l. Good m (r + 1) l (table_of (set places p y)).by) (sym (minutes_on a))
      (subst (Good m (r + 1) (set t.minutes (rule m r).held x)) (sym (by_on b)) (rises m sound t.minutes t.by r x asked good known low))

  -- and has grown
  pub raised_grown : y.minute ≡ x → sum t.minutes < sum (table_of (set places p y)).minutes
  raised_grown a = subst (λ l. sum t.minutes < sum l) (sym (minutes_on a)) (grows m sound t.minutes t.by r x asked good known low)

-- a place that is as high as its rule asks stays
pub stays_kept : (m : System) (places : List Place) (t : TableView) → table_of places ≡ t → (r x p : ℕ) (k : Rule) → k ≡ rule m r →
    LeastAsked t.minutes k x → p ≡ k.held → x ≤ (get_or places p no_place).minute → Kept t.minutes (rule m r)
stays_kept m places t view r x p k is asks e low =
    let here : x ≤ at t.minutes p = omega (arith, minute_at places t view p, low) in
    subst (Kept t.minutes) is (stays t.minutes k x asks (subst (λ q. x ≤ at t.minutes q) e here))
