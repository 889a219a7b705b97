-- The three systems are rule systems: few places, rules and alternatives, and no more minutes than a bound may have.
use Rattle.std.proofs.Common.{ℕ, zero, suc, ◌*◌, ◌<◌, ◌≤◌, Bool, true, false, not, eqb, List, [], ◌∷◌, ◌++◌, map, length, ℤ, pos, neg_ℤ}
use Rattle.std.proofs.Common.{◌≤ℤ◌, mul-le-mul_right, suc-mul, arith, length-append, pow_mono}
use lib.Arith.{digits_lt}
use lib.ListN.{length-map}
use Rattle.std.proofs.lemmas.Nat.{pow_pos}
use Rattle.std.proofs.lemmas.Int.{ints}
use Rattle.book.specs.declared.parts.Kind.{Kind}
use Rattle.book.specs.declared.parts.Kind.TheVariants.{Least, Most}
use Rattle.book.specs.Labels.{names}
use Rattle.book.specs.Plain.{Plain, job, bound, checks, cases, asking}
use Rattle.book.specs.Sound.{Sound}
use Rattle.rules.specs.declared.parts.Alternative.{Alternative}
use Rattle.rules.specs.declared.parts.Origin.{Origin}
use Rattle.rules.specs.declared.parts.Origin.TheVariants.{Bound}
use Rattle.rules.specs.Rules.{Rule, SoundAlternative, SoundRule, no_alternative, no_rule}
use Rattle.rules.specs.Rules as rules
use Rattle.grades.specs.Grades.{delay}
use Rattle.grades.specs.declared.holds.Hold.{Hold}
use Rattle.grades.specs.Systems.{each_below, when, due, hold_of, bound_hold, start_hold, check_hold}
use Rattle.grades.specs.Systems.{bound_holds, start_holds, check_holds_of, check_holds}
use Rattle.grades.specs.Systems.{holds, holds_in, rule_of, weak_rules, case_rules, place, telling, tells_apart, both_do}
use Rattle.grades.specs.Systems.{unknown_rule, unknown_between, unknown_from, unknown_rules, dynamic_rules, strong_system, weak_system}
use Rattle.grades.specs.Systems.{dynamic_system}
use Rattle.grades.specs.Theorems.{SystemsSound}
use Rattle.grades.proofs.Lists.{Every, every_at, every_append, every_below, every_when}

-- the length of a list made number by number
below_length : {A : Type 0} (n k : ℕ) (f : ℕ → List A) → ((i : ℕ) → i < n → length (f i) ≤ k) → length (each_below n f) ≤ n * k
below_length zero k f h = omega arith
below_length (suc n) k f h =
    omega (arith, length-append (each_below n f) (f n), below_length n k f (λ i l. h i (omega arith)), h n (omega arith), suc-mul n k)

pub few_below : {A : Type 0} (n most k : ℕ) (f : ℕ → List A) → n ≤ most → ((i : ℕ) → i < n → length (f i) ≤ k) → length (each_below n f) ≤ most * k
few_below n most k f l h = omega (arith, below_length n k f h, mul-le-mul_right k l)

pub when_length : {A : Type 0} (t : Bool) (x : A) → length (when t (x ∷ [])) ≤ 1
when_length true x = omega arith
when_length false x = omega arith

-- a hold between jobs of the book, within three days
pub record Fits (b : Plain) (h : Hold) : Type 0 where
  pub held_in : h.held < length b.jobs
  pub by_in : h.by < length b.jobs
  pub low : neg_ℤ (pos 4320) ≤ℤ h.minutes
  pub high : h.minutes ≤ℤ pos 4320

module _ (b : Plain) (sound : Sound b) where
  abbrev if_start : ℕ → List Hold
  if_start j = when (not (eqb j 0)) (start_hold j ∷ [])

  abbrev if_named : ℕ → ℕ → List Hold
  if_named j c = when (names (job b j).label c) (check_hold b j c ∷ [])

  abbrev told : ℕ → ℕ → Alternative
  told s c = record { place = place b s (asking b c); minutes = pos (delay b c) }

  abbrev if_told : ℕ → ℕ → ℕ → List Alternative
  if_told s t c = when (tells_apart b s t c) (told s c ∷ [])

  abbrev if_unknown : ℕ → ℕ → ℕ → List Rule
  if_unknown s t j = when (both_do b s t j) (unknown_rule b s t j ∷ [])

  pub few_cases : cases b ≤ 16
  few_cases = pow_mono {i = checks b} {j = 4} sound.few_checks

  -- how many there are
  pub holds_few : length (holds b) ≤ 164
  holds_few =
      let x = few_below {A = Hold} (length b.bounds) 64 1 (λ i. bound_hold b i ∷ []) sound.few_bounds (λ i h. omega arith) in
      let y = few_below {A = Hold} (length b.jobs) 20 1 if_start sound.few_jobs (λ j h. when_length (not (eqb j 0)) (start_hold j)) in
      let z = few_below {A = Hold} (length b.jobs) 20 4 (check_holds_of b) sound.few_jobs (λ j h.
      few_below {A = Hold} (checks b) 4 1 (if_named j) sound.few_checks (λ c l. when_length (names (job b j).label c) (check_hold b j c))) in
      omega (arith, x, y, z, length-append (bound_holds b) (start_holds b ++ check_holds b), length-append (start_holds b) (check_holds b))

  pub in_few : (s : ℕ) (hs : List Hold) → length (holds_in b s hs) ≤ length hs
  in_few s [] = omega arith
  in_few s (h ∷ hs) = omega (arith, length-append (when (due b s h) (h ∷ [])) (holds_in b s hs), when_length (due b s h) h, in_few s hs)

  pub weak_few : (s : ℕ) (p : ℕ → ℕ) → length (weak_rules b s p) ≤ 164
  weak_few s p = omega (arith, length-map (holds_in b s (holds b)) (rule_of p), in_few s (holds b), holds_few)

  pub telling_few : (s t : ℕ) → length (telling b s t) ≤ 4
  telling_few s t = few_below {A = Alternative} (checks b) 4 1 (if_told s t) sound.few_checks (λ c l. when_length (tells_apart b s t c) (told s c))

  pub dynamic_few : length (dynamic_rules b) ≤ 8192
  dynamic_few =
      let x = few_below (cases b) 16 164 (case_rules b) few_cases (λ s h. weak_few s (place b s)) in
      let y = few_below (cases b) 16 320 (unknown_from b) few_cases (λ s h.
      few_below (cases b) 16 20 (unknown_between b s) few_cases (λ t g.
      few_below (length b.jobs) 20 1 (if_unknown s t) sound.few_jobs (λ j i. when_length (both_do b s t j) (unknown_rule b s t j)))) in
      omega (arith, x, y, length-append (each_below (cases b) (case_rules b)) (unknown_rules b))

  -- that they fit
  bound_fits : (k : Kind) (f s : ℕ) (w : ℤ) (o : Origin) → f < length b.jobs → s < length b.jobs
      → neg_ℤ (pos 4320) ≤ℤ w → w ≤ℤ pos 4320 → Fits b (hold_of k f s w o)
  bound_fits Least f s w o p q l h = record { held_in = q; by_in = p; low = l; high = h }
  bound_fits Most f s w o p q l h = record { held_in = p; by_in = q; low = omega (arith, ints); high = omega (arith, ints) }

  pub holds_fit : Every (Fits b) (holds b)
  holds_fit =
      every_append (Fits b) (bound_holds b) (start_holds b ++ check_holds b)
      (every_below (Fits b) (length b.bounds) (λ n. bound_hold b n ∷ []) (λ i h.
      let x = sound.each_bound i h in
      let l = bound b i in
      (bound_fits l.kind l.first l.second l.minutes (Bound i) x.first_in x.second_in x.low x.high, tt)))
      (every_append (Fits b) (start_holds b) (check_holds b)
      (every_below (Fits b) (length b.jobs) if_start (λ j h. every_when (Fits b) (not (eqb j 0)) (start_hold j)
      (λ t. record { held_in = h; by_in = sound.some; low = omega (arith, ints); high = omega (arith, ints) })))
      (every_below (Fits b) (length b.jobs) (check_holds_of b) (λ j h.
      every_below (Fits b) (checks b) (if_named j) (λ c l. every_when (Fits b) (names (job b j).label c) (check_hold b j c)
      (λ t. record { held_in = h; by_in = (sound.asked c l).0; low = omega (arith, ints); high = omega (arith, ints) })))))

  in_fits : (s : ℕ) (hs : List Hold) → Every (Fits b) hs → Every (Fits b) (holds_in b s hs)
  in_fits s [] e = tt
  in_fits s (h ∷ hs) e =
      every_append (Fits b) (when (due b s h) (h ∷ [])) (holds_in b s hs) (every_when (Fits b) (due b s h) h (λ t. e.0)) (in_fits s hs e.1)

  rule_fits : (n : ℕ) (p : ℕ → ℕ) → ((j : ℕ) → j < length b.jobs → p j < n) → (h : Hold) → Fits b h → SoundRule n (rule_of p h)
  rule_fits n p inn h f = record {
    within = inn h.held f.held_in;
    some = omega arith;
    few = omega arith;
    each = every_at (SoundAlternative n) (rule_of p h).alternatives no_alternative
        (record { within = inn h.by f.by_in; low = f.low; high = f.high }, tt);
  }

  rules_fit : (n : ℕ) (p : ℕ → ℕ) → ((j : ℕ) → j < length b.jobs → p j < n) → (hs : List Hold) → Every (Fits b) hs
      → Every (SoundRule n) (map (rule_of p) hs)
  rules_fit n p inn [] e = tt
  rules_fit n p inn (h ∷ hs) e = (rule_fits n p inn h e.0, rules_fit n p inn hs e.1)

  pub place_in : (s j : ℕ) → s < cases b → j < length b.jobs → place b s j < cases b * length b.jobs
  place_in s j h i = digits_lt h i

  unknown_fits : (s t j : ℕ) → s < cases b → t < cases b → j < length b.jobs → SoundRule (cases b * length b.jobs) (unknown_rule b s t j)
  unknown_fits s t j h g i =
      let P = SoundAlternative (cases b * length b.jobs) in
      record {
        within = place_in s j h i;
        some = omega arith;
        few = omega (arith, telling_few s t);
        each = every_at P (unknown_rule b s t j).alternatives no_alternative (
          record { within = place_in t j g i; low = omega (arith, ints); high = omega (arith, ints) },
          every_below P (checks b) (if_told s t) (λ c l. every_when P (tells_apart b s t c) (told s c)
              (λ _. record { within = place_in s (asking b c) h (sound.asked c l).0; low = omega (arith, ints); high = omega (arith, ints) })),
        );
      }

  dynamic_fits : Every (SoundRule (cases b * length b.jobs)) (dynamic_rules b)
  dynamic_fits =
      let n = cases b * length b.jobs in
      let P = SoundRule n in
      every_append P (each_below (cases b) (case_rules b)) (unknown_rules b)
      (every_below P (cases b) (case_rules b) (λ s h.
      rules_fit n (place b s) (λ j i. place_in s j h i) (holds_in b s (holds b)) (in_fits s (holds b) holds_fit)))
      (every_below P (cases b) (unknown_from b) (λ s h.
      every_below P (cases b) (unknown_between b s) (λ t g.
      every_below P (length b.jobs) (if_unknown s t) (λ j i.
      every_when P (both_do b s t j) (unknown_rule b s t j) (λ _. unknown_fits s t j h g i)))))

  pub few_places : cases b * length b.jobs ≤ 320
  few_places = omega (arith, mul-le-mul_right (length b.jobs) few_cases, sound.few_jobs)

  some_places : 1 ≤ cases b * length b.jobs
  some_places = omega (arith, mul-le-mul_right (length b.jobs) (pow_pos (checks b)), sound.some)

  strong_sound : rules.Sound (strong_system b)
  strong_sound = record {
    some = sound.some;
    few = omega (arith, sound.few_jobs);
    few_rules = omega (arith, length-map (holds b) (rule_of (λ j. j)), holds_few);
    each = every_at (SoundRule (length b.jobs)) (map (rule_of (λ j. j)) (holds b)) no_rule
        (rules_fit (length b.jobs) (λ j. j) (λ j h. h) (holds b) holds_fit);
  }

  weak_sound : (s : ℕ) → rules.Sound (weak_system b s)
  weak_sound s = record {
    some = sound.some;
    few = omega (arith, sound.few_jobs);
    few_rules = omega (arith, weak_few s (λ j. j));
    each = every_at (SoundRule (length b.jobs)) (weak_rules b s (λ j. j)) no_rule
        (rules_fit (length b.jobs) (λ j. j) (λ j h. h) (holds_in b s (holds b)) (in_fits s (holds b) holds_fit));
  }

  dynamic_sound : rules.Sound (dynamic_system b)
  dynamic_sound = record {
    some = some_places;
    few = few_places;
    few_rules = dynamic_few;
    each = every_at (SoundRule (cases b * length b.jobs)) (dynamic_rules b) no_rule dynamic_fits;
  }

pub systems_sound : SystemsSound
systems_sound b sound = (strong_sound b sound, weak_sound b sound, dynamic_sound b sound)
