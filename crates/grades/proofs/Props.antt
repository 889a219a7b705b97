-- The rules as properties of minutes: what it is to keep the list of rules.
use Rattle.std.proofs.Common.{◌≡◌, ℕ, ◌+◌, ◌<◌, ◌≤◌, not, eqb, List, [], ◌∷◌, ◌++◌, length, ℤ, pos, ◌+ℤ◌, ◌≤ℤ◌, inl, inr, ⊎_elim, arith}
use native.Mathlib.Decide.{ℕ_discrete}
use Rattle.std.proofs.lemmas.Int.{ints}
use Rattle.book.specs.declared.parts.Kind.{Kind}
use Rattle.book.specs.declared.parts.Kind.TheVariants.{Least, Most}
use Rattle.book.specs.Labels.{bit, names, Names}
use Rattle.book.specs.Plain.{Plain, job, bound, checks, cases, asking, Done}
use Rattle.rules.specs.declared.parts.Alternative.{Alternative}
use Rattle.rules.specs.declared.parts.Origin.{Origin}
use Rattle.rules.specs.declared.parts.Origin.TheVariants.{Bound}
use Rattle.rules.specs.Rules.{Rule, Kept, KeptBy, Keeps, at, no_alternative, no_rule}
use Rattle.grades.specs.Grades.{Minutes, Within, KeepsBound, Counts, delay}
use Rattle.grades.specs.declared.holds.Hold.{Hold}
use Rattle.grades.specs.Systems.{each_below, when, due, hold_of, bound_hold, start_hold, check_hold}
use Rattle.grades.specs.Systems.{bound_holds, start_holds, check_holds_of, check_holds}
use Rattle.grades.specs.Systems.{holds, holds_in, rule_of, weak_rules, case_rules, place, telling, tells_apart, both_do}
use Rattle.grades.specs.Systems.{unknown_rule, unknown_between, unknown_from, unknown_rules, dynamic_rules, dynamic_system, reads}
use Rattle.grades.proofs.Core.{Waits}
use Rattle.grades.proofs.Lists.{Every, SomeOf, every_at, at_every, some_at, at_some, every_append, every_left, every_right, every_below, below_every}
use Rattle.grades.proofs.Lists.{some_below, below_some, every_when, when_every, some_when, when_some, every_map, map_every, every_like}
use Rattle.book.proofs.Tests.{names_decides}
use Rattle.grades.proofs.Tests.{Due, due_decides, apart_decides, both_do_decides, tells_apart_decides}

-- an outcome is never known in the minute of its check
pub delay_some : (b : Plain) (c : ℕ) → 1 ≤ delay b c
delay_some b c = omega arith

-- the minutes m keep a hold
abbrev pub Held : (ℕ → ℕ) → Hold → Type 0
Held m h = (pos (m h.by) +ℤ h.minutes) ≤ℤ pos (m h.held)

-- the minutes m keep all bounds of C, and all other holds between jobs of D
pub record Holding (b : Plain) (C D : ℕ → Type 0) (m : ℕ → ℕ) : Type 0 where
  pub bounds : (i : ℕ) → i < length b.bounds → C i → KeepsBound (bound b i) m
  pub start : (j : ℕ) → j < length b.jobs → D j → D 0 → m 0 ≤ m j
  pub label : (j : ℕ) → j < length b.jobs → (c : ℕ) → c < checks b → Names (job b j).label c → D j → D (asking b c) →
      m (asking b c) + delay b c ≤ m j

module _ (b : Plain) (C D : ℕ → Type 0) (m : ℕ → ℕ) where
  abbrev pub Here : Hold → Type 0
  Here h = Due b C D h.origin → Held m h

  hold_within : (k : Kind) (f s : ℕ) (w : ℤ) (o : Origin) → Here (hold_of k f s w o) → Due b C D o → Within k w (m f) (m s)
  hold_within Least f s w o h d = h d
  hold_within Most f s w o h d = let l = h d in omega (arith, ints)

  within_hold : (k : Kind) (f s : ℕ) (w : ℤ) (o : Origin) → (Due b C D o → Within k w (m f) (m s)) → Here (hold_of k f s w o)
  within_hold Least f s w o h d = h d
  within_hold Most f s w o h d = let l = h d in omega (arith, ints)

  from_start : Every Here (start_holds b) → (j : ℕ) → j < length b.jobs → D j → D 0 → Dec (j ≡ 0) → m 0 ≤ m j
  from_start ss j h p q (yes z) = rw z (omega arith)
  from_start ss j h p q (no z) =
      let x = below_every Here (length b.jobs) (λ i. when (not (eqb i 0)) (start_hold i ∷ [])) ss j h in
      let y = when_every Here (not (eqb j 0)) (start_hold j) x ((apart_decides j 0).1 z) (p, q) in
      omega (arith, ints)

  pub holding : Every Here (holds b) → Holding b C D m
  holding e =
      let bs = every_left Here (bound_holds b) (start_holds b ++ check_holds b) e in
      let rest = every_right Here (bound_holds b) (start_holds b ++ check_holds b) e in
      let ss = every_left Here (start_holds b) (check_holds b) rest in
      let cs = every_right Here (start_holds b) (check_holds b) rest in
      record {
        bounds = λ i h.
            let l = bound b i in
            hold_within l.kind l.first l.second l.minutes (Bound i)
            (below_every Here (length b.bounds) (λ n. bound_hold b n ∷ []) bs i h).0;
        start = λ j h p q. from_start ss j h p q (ℕ_discrete j 0);
        label = λ j h c l n p q.
            let f : ℕ → List Hold = λ d. when (names (job b j).label d) (check_hold b j d ∷ []) in
            let x = below_every Here (checks b) f (below_every Here (length b.jobs) (check_holds_of b) cs j h) c l in
            let y = when_every Here (names (job b j).label c) (check_hold b j c) x ((names_decides (job b j).label c).1 n) (p, q) in
            omega (arith, ints);
      }

  pub held_all : Holding b C D m → Every Here (holds b)
  held_all k =
      every_append Here (bound_holds b) (start_holds b ++ check_holds b)
      (every_below Here (length b.bounds) (λ n. bound_hold b n ∷ [])
      (λ i h. (within_hold (bound b i).kind (bound b i).first (bound b i).second (bound b i).minutes (Bound i) (k.bounds i h), tt)))
      (every_append Here (start_holds b) (check_holds b)
      (every_below Here (length b.jobs) (λ i. when (not (eqb i 0)) (start_hold i ∷ []))
      (λ j h. every_when Here (not (eqb j 0)) (start_hold j) (λ t d. let x = k.start j h d.0 d.1 in omega (arith, ints))))
      (every_below Here (length b.jobs) (check_holds_of b)
      (λ j h. every_below Here (checks b) (λ d. when (names (job b j).label d) (check_hold b j d ∷ []))
      (λ c l. every_when Here (names (job b j).label c) (check_hold b j c)
      (λ t d. let x = k.label j h c l ((names_decides (job b j).label c).0 t) d.0 d.1 in omega (arith, ints))))))

-- the holds of a case
module _ (b : Plain) (s : ℕ) (P : Hold → Type 0) where
  abbrev IfDue : Hold → Type 0
  IfDue h = Due b (Counts b s) (Done b s) h.origin → P h

  in_every : (hs : List Hold) → Every P (holds_in b s hs) → Every IfDue hs
  in_every [] e = tt
  in_every (h ∷ hs) e = (
    λ d. when_every P (due b s h) h (every_left P (when (due b s h) (h ∷ [])) (holds_in b s hs) e) ((due_decides b s h.origin).1 d),
    in_every hs (every_right P (when (due b s h) (h ∷ [])) (holds_in b s hs) e),
  )

  every_in : (hs : List Hold) → Every IfDue hs → Every P (holds_in b s hs)
  every_in [] e = tt
  every_in (h ∷ hs) e =
      every_append P (when (due b s h) (h ∷ [])) (holds_in b s hs)
      (every_when P (due b s h) h (λ t. e.0 ((due_decides b s h.origin).0 t))) (every_in hs e.1)

-- a rule with its alternatives as a list
pub kept_some : (table : List ℕ) (r : Rule) → Kept table r → SomeOf (KeptBy table r.held) r.alternatives
kept_some table r (a, h, k) = at_some (KeptBy table r.held) r.alternatives no_alternative a h k

pub some_kept : (table : List ℕ) (r : Rule) → SomeOf (KeptBy table r.held) r.alternatives → Kept table r
some_kept table r s = some_at (KeptBy table r.held) r.alternatives no_alternative s

pub kept_hold : (table : List ℕ) (p : ℕ → ℕ) (h : Hold) → Kept table (rule_of p h) → Held (λ j. at table (p j)) h
kept_hold table p h k = ⊎_elim (λ (x : Held (λ j. at table (p j)) h). x) (λ (x : ⊥). absurd x) (kept_some table (rule_of p h) k)

pub hold_kept : (table : List ℕ) (p : ℕ → ℕ) (h : Hold) → Held (λ j. at table (p j)) h → Kept table (rule_of p h)
hold_kept table p h k = some_kept table (rule_of p h) (inl k)

-- the rules of a case
module _ (b : Plain) (s : ℕ) (p : ℕ → ℕ) (table : List ℕ) where
  pub weak_holding : Every (Kept table) (weak_rules b s p) → Holding b (Counts b s) (Done b s) (λ j. at table (p j))
  weak_holding e =
      holding b (Counts b s) (Done b s) (λ j. at table (p j))
      (in_every b s (Held (λ j. at table (p j))) (holds b)
      (every_like (λ h. Kept table (rule_of p h)) (Held (λ j. at table (p j))) (kept_hold table p) (holds_in b s (holds b))
      (map_every (Kept table) (rule_of p) (holds_in b s (holds b)) e)))

  pub holding_weak : Holding b (Counts b s) (Done b s) (λ j. at table (p j)) → Every (Kept table) (weak_rules b s p)
  holding_weak k =
      every_map (Kept table) (rule_of p) (holds_in b s (holds b))
      (every_like (Held (λ j. at table (p j))) (λ h. Kept table (rule_of p h)) (hold_kept table p) (holds_in b s (holds b))
      (every_in b s (Held (λ j. at table (p j))) (holds b)
      (held_all b (Counts b s) (Done b s) (λ j. at table (p j)) k)))

-- the rule between two cases
abbrev pub Waiting : Plain → Minutes → ℕ → ℕ → ℕ → Type 0
Waiting b M s t j = Waits (checks b) bit (asking b) (delay b) (delay_some b) (Done b) M s t j

-- what a check that tells s from t adds to it
abbrev told : Plain → ℕ → ℕ → Alternative
told b s c = record { place = place b s (asking b c); minutes = pos (delay b c) }

abbrev told_if : Plain → ℕ → ℕ → ℕ → List Alternative
told_if b s t c = when (tells_apart b s t c) (told b s c ∷ [])

pub waits_of : (b : Plain) (table : List ℕ) (s t j : ℕ) → Kept table (unknown_rule b s t j) → Waiting b (reads b table) s t j
waits_of b table s t j k =
    ⊎_elim (λ (x : KeptBy table (place b s j) (record { place = place b t j; minutes = pos 0 })). inl (omega (arith, ints))) later
    (kept_some table (unknown_rule b s t j) k)
  where
    later : SomeOf (KeptBy table (place b s j)) (telling b s t) → Waiting b (reads b table) s t j
    later e =
        let P = KeptBy table (place b s j) in
        let (c, h, x) = below_some P (checks b) (told_if b s t) e in
        let (test, l) = when_some P (tells_apart b s t c) (told b s c) x in
        let d = (tells_apart_decides b s t c).0 test in
        inr (c, record { is = h; apart = d.1; does = d.0 }, omega (arith, ints))

pub of_waits : (b : Plain) (table : List ℕ) (s t j : ℕ) → Waiting b (reads b table) s t j → Kept table (unknown_rule b s t j)
of_waits b table s t j (inl l) = some_kept table (unknown_rule b s t j) (inl (omega (arith, ints)))
of_waits b table s t j (inr (c, w, l)) =
    let P = KeptBy table (place b s j) in
    let test = (tells_apart_decides b s t c).1 (w.does, w.apart) in
    let one : P (told b s c) = omega (arith, ints) in
    some_kept table (unknown_rule b s t j)
    (inr (some_below P (checks b) (told_if b s t) c w.is (some_when P (tells_apart b s t c) (told b s c) test one)))

-- all dynamic rules, as properties
pub record Dynamically (b : Plain) (M : Minutes) : Type 0 where
  pub inside : (s : ℕ) → s < cases b → Holding b (Counts b s) (Done b s) (M s)
  pub across : (s t : ℕ) → s < cases b → t < cases b → (s ≡ t → ⊥) → (j : ℕ) → j < length b.jobs → Done b s j → Done b t j → Waiting b M s t j

abbrev unknown_if : Plain → ℕ → ℕ → ℕ → List Rule
unknown_if b s t j = when (both_do b s t j) (unknown_rule b s t j ∷ [])

pub keeps_dynamically : (b : Plain) (table : List ℕ) → Keeps (dynamic_system b) table → Dynamically b (reads b table)
keeps_dynamically b table keeps =
    let P = Kept table in
    let e = at_every P (dynamic_rules b) no_rule keeps.each in
    let l = every_left P (each_below (cases b) (case_rules b)) (unknown_rules b) e in
    let r = every_right P (each_below (cases b) (case_rules b)) (unknown_rules b) e in
    record {
      inside = λ s h. weak_holding b s (place b s) table (below_every P (cases b) (case_rules b) l s h);
      across = λ s t h k ne j i p q.
          let from = below_every P (cases b) (unknown_from b) r s h in
          let between = below_every P (cases b) (unknown_between b s) from t k in
          let one = below_every P (length b.jobs) (unknown_if b s t) between j i in
          waits_of b table s t j (when_every P (both_do b s t j) (unknown_rule b s t j) one ((both_do_decides b s t j).1 (ne, (p, q))));
    }

pub dynamically_keeps : (b : Plain) (table : List ℕ) → length table ≡ (dynamic_system b).places → Dynamically b (reads b table) → Keeps (dynamic_system b) table
dynamically_keeps b table sized k =
    let P = Kept table in
    record {
      sized = sized;
      each = every_at P (dynamic_rules b) no_rule
          (every_append P (each_below (cases b) (case_rules b)) (unknown_rules b)
          (every_below P (cases b) (case_rules b) (λ s h. holding_weak b s (place b s) table (k.inside s h)))
          (every_below P (cases b) (unknown_from b) (λ s h.
          every_below P (cases b) (unknown_between b s) (λ t g.
          every_below P (length b.jobs) (unknown_if b s t) (λ j i.
          every_when P (both_do b s t j) (unknown_rule b s t j) (λ q.
          let d = (both_do_decides b s t j).0 q in of_waits b table s t j (k.across s t h g d.0 j i d.1.0 d.1.1)))))));
    }
