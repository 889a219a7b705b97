-- What a step of the search is, apart from the code.
use Rattle.std.proofs.Common.{◌≡◌, ℕ, zero, suc, ◌+◌, ◌*◌, ◌<◌, ◌≤◌, Bool, true, false, List, [], ◌∷◌, ◌++◌, map, length, get_or, take}
use Rattle.std.proofs.Common.{drop, set, replicate, sum, sym, refl, ap, ◌∙◌, subst, ⊎_elim, arith, below_more}
use Rattle.std.proofs.lemmas.List.{get_or-take, get_or_past, length-take-le, length-map, length-set, drop_more, set_at, append_assoc, map_more}
use Rattle.std.proofs.ByRecursion.{All-from_get_or, sum_by_le}
use Rattle.std.proofs.lemmas.Bool.{cases_lt}
use Rattle.std.proofs.lemmas.List.Sums.{sum_by-set}
use Rattle.rules.specs.Rules.{Rule, System, Sound, Kept, Keeps, Least, at, rule, alternative}
use Rattle.rules.specs.Search.{asked_by, LeastAsked, Good, AllKept}
use Rattle.rules.proofs.Asked.{asked_le, le_asked, asked_mono, asked_high}
use Rattle.rules.proofs.Record.{at_set, recorded_more}

-- a place that is as high as the least that is asked of it keeps its rule
pub stays : (table : List ℕ) (k : Rule) (x : ℕ) → LeastAsked table k x → x ≤ at table k.held → Kept table k
stays table k x l h =
    let (a, within, e) = l.reached in
    let alt = alternative k a in
    let asks : asked_by table alt ≤ at table k.held = omega (arith, e) in
    (a, within, le_asked (at table alt.place) (at table k.held) alt.minutes asks)

-- a table that keeps the rule, and that this one does not pass, has the held place at least as high as is asked here
pub asked_under : (table other : List ℕ) (k : Rule) (x : ℕ) → LeastAsked table k x → ((p : ℕ) → at table p ≤ at other p) → Kept other k →
    x ≤ at other k.held
asked_under table other k x l under kept =
    let (a, within, by) = kept in
    let alt = alternative k a in
    let here = asked_le (at other alt.place) (at other k.held) alt.minutes by in
    let more = asked_mono (at table alt.place) (at other alt.place) alt.minutes (under alt.place) in
    omega (arith, l.least a within, here, more)

module _ (m : System) (sound : Sound m) (table by : List ℕ) (r x : ℕ) (l : LeastAsked table (rule m r) x) (g : Good m r table by)
    (h : r < length m.rules) where
  -- raised to the least that is asked, a place passes no table that keeps the rules
  pub rises : at table (rule m r).held < x → Good m (r + 1) (set table (rule m r).held x) (set by (rule m r).held r)
  rises more =
      let within : (rule m r).held < length table = omega (arith, (sound.each r h).within, sound.few, g.wide) in
      let within_by : (rule m r).held < length by = omega (arith, (sound.each r h).within, sound.few, g.wide_by) in
      let (a, is, e) = l.reached in
      let alt = alternative (rule m r) a in
      let bound : x ≤ 1382400 + 4320 * (r + 1) =
      omega (arith, e, asked_high (at table alt.place) alt.minutes ((sound.each r h).each a is).high, g.low alt.place) in
      record {
        wide = length-set table (rule m r).held x ∙ g.wide;
        wide_by = length-set by (rule m r).held r ∙ g.wide_by;
        low = λ p. at_set table (rule m r).held x within (λ v. v ≤ 1382400 + 4320 * (r + 1)) p (omega (arith, g.low p)) (λ _. bound);
        under = λ other k p.
            at_set table (rule m r).held x within (λ v. v ≤ at other p) p (g.under other k p)
            (λ e. subst (λ q. x ≤ at other q) (sym e) (asked_under table other (rule m r) x l (g.under other k) (k.each r h)));
        recorded = recorded_more m table by r x h l g.recorded within within_by more;
      }

  pub grows : at table (rule m r).held < x → sum table < sum (set table (rule m r).held x)
  grows more =
      let within : (rule m r).held < length table = omega (arith, (sound.each r h).within, sound.few, g.wide) in
      omega (arith, sum_by-set (λ v. v) table (rule m r).held x 0 within)

-- with more rules done the bound is no lower
pub good_on : (m : System) (d k : ℕ) (table by : List ℕ) → d ≤ k → Good m d table by → Good m k table by
good_on m d k table by h g = record { wide = g.wide; wide_by = g.wide_by; low = λ p. omega (arith, g.low p); under = g.under; recorded = g.recorded }

-- a table that has come low again is as at the start of a round
pub good_again : (m : System) (d : ℕ) (table by : List ℕ) → ((p : ℕ) → at table p ≤ 1382400) → Good m d table by → Good m 0 table by
good_again m d table by low g = record { wide = g.wide; wide_by = g.wide_by; low = λ p. omega (arith, low p); under = g.under; recorded = g.recorded }

-- in a round, before the rule r: the table is still what it was and keeps the rules so far, or it has grown
abbrev pub Going : System → ℕ → List ℕ → List ℕ → Bool → Type 0
Going m r before after true = sum before < sum after
Going m r before after false = (after ≡ before) × ((k : ℕ) → k < r → Kept before (rule m k))

module _ (m : System) (r : ℕ) (before now after : List ℕ) where
  pub going_stays : (rose : Bool) → Going m r before now rose → (after ≡ now) × Kept now (rule m r) → Going m (r + 1) before after rose
  going_stays true more (e, _) = subst (λ t. sum before < sum t) (sym e) more
  going_stays false (same, kept) (e, here) = (e ∙ same, below_more (λ k. Kept before (rule m k)) r kept (subst (λ t. Kept t (rule m r)) same here))

  pub going_rises : (rose : Bool) → Going m r before now rose → sum now < sum after → Going m (r + 1) before after true
  going_rises true more h = omega arith
  going_rises false (same, _) h = subst (λ t. sum t < sum after) same h

pub sum_bound : (b : ℕ) (table : List ℕ) → ((p : ℕ) → at table p ≤ b) → sum table ≤ length table * b
sum_bound b table low = sum_by_le (λ v. v) b table (All-from_get_or (λ v. v ≤ b) table 0 (λ p _. low p))

-- a table of zeros
pub zero_at : (k p : ℕ) → at (replicate k 0) p ≡ 0
zero_at zero p = refl
zero_at (suc k) zero = refl
zero_at (suc k) (suc p) = zero_at k p

-- the search begins below every table, and with no place raised
pub starts : (m : System) (by : List ℕ) → length by ≡ 320 → Good m 0 (replicate 320 0) by
starts m by long = record {
  wide = refl;
  wide_by = long;
  low = λ p. omega (arith, zero_at 320 p);
  under = λ other h p. omega (arith, zero_at 320 p);
  recorded = record {
    stamps = replicate 320 0;
    clock = 0;
    long = refl;
    high = λ p. omega (arith, zero_at 320 p);
    each = λ p h. absurd (omega (arith, zero_at 320 p));
  };
}

-- where the search stops at a table that keeps the rules, its first numbers are the least such table
module _ (m : System) (sound : Sound m) (table : List ℕ) (wide : m.places ≤ length table) where
  cut : (p : ℕ) → p < m.places → at (take m.places table) p ≡ at table p
  cut p h = get_or-take m.places table p 0 h

  cut_kept : AllKept m table → AllKept m (take m.places table)
  cut_kept kept r h =
      let (a, within, by) = kept r h in
      let held = cut (rule m r).held (sound.each r h).within in
      let place = cut (alternative (rule m r) a).place ((sound.each r h).each a within).within in
      (a, within, rw (held, place) by)

  cut_under : ((other : List ℕ) → Keeps m other → (p : ℕ) → at table p ≤ at other p) → (other : List ℕ) → Keeps m other → (p : ℕ) →
      at (take m.places table) p ≤ at other p
  cut_under u other k p =
      ⊎_elim
      (λ h. rw (cut p h) (u other k p))
      (λ (h : m.places ≤ p). let past : length (take m.places table) ≤ p = omega (arith, length-take-le m.places table wide) in
      rw (get_or_past (take m.places table) p 0 past) (omega arith))
      (cases_lt p m.places)

  pub ends : ((other : List ℕ) → Keeps m other → (p : ℕ) → at table p ≤ at other p) → AllKept m table → Least m (take m.places table)
  ends u kept = record {
    keeps = record { sized = length-take-le m.places table wide; each = cut_kept kept };
    least = cut_under u;
  }

-- one item more is written over the front of a list
pub written_more : {X Y : Type 0} (f : X → Y) (xs : List X) (d : X) (entry here : List Y) (e : Y) (i : ℕ) → i < length xs → i < length entry →
    here ≡ map f (take i xs) ++ drop i entry → set here i (f (get_or xs i d)) ≡ map f (take (i + 1) xs) ++ drop (i + 1) entry
written_more f xs d entry here e i h k is =
    let front = map f (take i xs) in
    let rest = drop (i + 1) entry in
    let v = f (get_or xs i d) in
    let sized : length front ≡ i = length-map (take i xs) f ∙ length-take-le i xs (omega arith) in
    let opened : here ≡ front ++ (get_or entry i e ∷ rest) = is ∙ ap (λ ys. front ++ ys) (drop_more entry i e k) in
    let put : set here i v ≡ front ++ (v ∷ rest) = ap (λ ys. set ys i v) opened ∙ set_at front (get_or entry i e) rest v i sized in
    let joined : front ++ (v ∷ rest) ≡ map f (take (i + 1) xs) ++ rest =
    sym (append_assoc front (v ∷ []) rest) ∙ ap (λ ys. ys ++ rest) (sym (map_more f xs i d h)) in
    put ∙ joined
