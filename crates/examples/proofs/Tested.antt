-- Strategies and their grades shown by tests that are computed.
use Rattle.std.proofs.Common.{◌≡◌, ℕ, zero, suc, ◌^◌, ◌<◌, ◌≤◌, Bool, true, false, cond, not, ◌&&◌, ◌||◌, eqb, ltb, leb, ◌⊎◌, List, length}
use Rattle.std.proofs.Common.{ℤ, pos, ◌+ℤ◌, Decides, sym, refl, inl, inr, arith}
use lib.Signed.{lt_z}
use Rattle.std.proofs.lemmas.Int.{ints}
use Rattle.std.proofs.lemmas.Bool.Decides.{nat_tests, Decides-below_and, Decides-below_or, Decides-and, Decides-eqb, Decides-ltb}
use Rattle.book.specs.declared.parts.Kind.{Kind}
use Rattle.book.specs.declared.parts.Kind.TheVariants.{Least, Most}
use Rattle.book.specs.Labels.{bit, names, all_below, any_below, Names}
use Rattle.book.specs.Plain.{Plain, job, bound, checks, cases, asking, Done}
use Rattle.book.specs.Done.{done}
use Rattle.book.proofs.Bits.{bit_below}
use Rattle.book.proofs.Tests.{names_decides, done_decides}
use Rattle.rules.specs.Rules.{Rule, System, Kept, KeptBy, Keeps, at, rule, alternative}
use Rattle.grades.specs.Grades.{Minutes, known_at, Within, Strategy, Strong, Dynamic, Agrees}
use Rattle.grades.specs.Systems.{counts, tells_apart}
use Rattle.grades.proofs.Tests.{counts_decides, both_decides, tells_apart_decides}

pub and_left : (x y : Bool) → (x && y) ≡ true → x ≡ true
and_left true y e = refl
and_left false y e = e

pub and_right : (x y : Bool) → (x && y) ≡ true → y ≡ true
and_right true y e = e
and_right false y e = absurd (cc)

pub if_true : (x y : Bool) → cond x y true ≡ true → x ≡ true → y ≡ true
if_true true y e h = e
if_true false y e h = absurd (cc)

pub all_true : (n : ℕ) (p : ℕ → Bool) → all_below n p ≡ true → (k : ℕ) → k < n → p k ≡ true
all_true n p e = (Decides-below_and p (λ k. p k ≡ true) (λ m. all_below m p) (λ k. (λ h. h, λ h. h)) refl (λ _. refl) n).0 e

pub at_most_decides : (x y : ℕ) → Decides (leb x y) (x ≤ y)
at_most_decides x y = (λ h. grind (arith, nat_tests), λ h. grind (arith, nat_tests))

-- a bound that counts is kept
abbrev pub within : Kind → ℤ → ℕ → ℕ → Bool
within Least minutes first second = not (lt_z (pos second) (pos first +ℤ minutes))
within Most minutes first second = not (lt_z (pos first +ℤ minutes) (pos second))

within_is : (k : Kind) (minutes : ℤ) (first second : ℕ) → within k minutes first second ≡ true → Within k minutes first second
within_is Least minutes first second e = grind (arith, ints)
within_is Most minutes first second e = grind (arith, ints)

abbrev pub bound_kept : Plain → Minutes → ℕ → ℕ → Bool
bound_kept b minute s i =
    cond (counts b s i) (within (bound b i).kind (bound b i).minutes (minute s (bound b i).first) (minute s (bound b i).second)) true

-- a job done waits for the checks of its label, and its label names checks of the book only
abbrev pub waits_for : Plain → Minutes → ℕ → ℕ → ℕ → Bool
waits_for b minute s j c = cond (names (job b j).label c) (leb (known_at b minute s c) (minute s j)) true

abbrev pub waits : Plain → Minutes → ℕ → ℕ → Bool
waits b minute s j = cond (done b s j) (all_below (checks b) (waits_for b minute s j)) true

abbrev pub label_known : Plain → ℕ → Bool
label_known b j = ltb (job b j).label.yes (2 ^ checks b) && ltb (job b j).label.no (2 ^ checks b)

abbrev pub bounds_kept : Plain → Minutes → ℕ → Bool
bounds_kept b minute s = all_below (length b.bounds) (bound_kept b minute s)

abbrev pub jobs_wait : Plain → Minutes → ℕ → Bool
jobs_wait b minute s = all_below (length b.jobs) (waits b minute s)

abbrev pub case_kept : Plain → Minutes → ℕ → Bool
case_kept b minute s = eqb (minute s 0) 0 && (bounds_kept b minute s && jobs_wait b minute s)

abbrev pub labels_known : Plain → Bool
labels_known b = all_below (length b.jobs) (label_known b)

abbrev pub cases_kept : Plain → Minutes → Bool
cases_kept b minute = all_below (cases b) (case_kept b minute)

abbrev pub kept : Plain → Minutes → Bool
kept b minute = labels_known b && cases_kept b minute

named_in : (b : Plain) → labels_known b ≡ true → (j : ℕ) → j < length b.jobs → (c : ℕ) → Names (job b j).label c → c < checks b
named_in b e j h c n = by n
  where
    yes_low : Bool
    yes_low = ltb (job b j).label.yes (2 ^ checks b)

    no_low : Bool
    no_low = ltb (job b j).label.no (2 ^ checks b)

    both : label_known b j ≡ true
    both = all_true (length b.jobs) (label_known b) e j h

    by : Names (job b j).label c → c < checks b
    by (inl y) = bit_below (job b j).label.yes (checks b) c ((Decides-ltb (job b j).label.yes (2 ^ checks b)).0 (and_left yes_low no_low both)) y
    by (inr y) = bit_below (job b j).label.no (checks b) c ((Decides-ltb (job b j).label.no (2 ^ checks b)).0 (and_right yes_low no_low both)) y

-- minutes that pass the test are a strategy
pub strategy_by_test : (b : Plain) (minute : Minutes) → kept b minute ≡ true → Strategy b minute
strategy_by_test b minute e = record {
  start = zero_at;
  bounds = λ s h i l d.
      within_is (bound b i).kind (bound b i).minutes (minute s (bound b i).first) (minute s (bound b i).second)
      (if_true (counts b s i) (within (bound b i).kind (bound b i).minutes (minute s (bound b i).first) (minute s (bound b i).second))
      (all_true (length b.bounds) (bound_kept b minute s) (and_left (bounds_kept b minute s) (jobs_wait b minute s) (rest s h)) i l)
      ((counts_decides b s i).1 d));
  not_before = λ s h j l d. let z = zero_at s h in omega arith;
  after_checks = λ s h j l d c n.
      (at_most_decides (known_at b minute s c) (minute s j)).0
      (if_true (names (job b j).label c) (leb (known_at b minute s c) (minute s j))
      (all_true (checks b) (waits_for b minute s j) (waiting s h j l d) c (named_in b (and_left (labels_known b) (cases_kept b minute) e) j l c n))
      ((names_decides (job b j).label c).1 n));
}
  where
    in_case : (s : ℕ) → s < cases b → case_kept b minute s ≡ true
    in_case = all_true (cases b) (case_kept b minute) (and_right (labels_known b) (cases_kept b minute) e)

    zero_at : (s : ℕ) → s < cases b → minute s 0 ≡ 0
    zero_at s h = (Decides-eqb (minute s 0) 0).0 (and_left (eqb (minute s 0) 0) (bounds_kept b minute s && jobs_wait b minute s) (in_case s h))

    rest : (s : ℕ) → s < cases b → (bounds_kept b minute s && jobs_wait b minute s) ≡ true
    rest s h = and_right (eqb (minute s 0) 0) (bounds_kept b minute s && jobs_wait b minute s) (in_case s h)

    waiting : (s : ℕ) → s < cases b → (j : ℕ) → j < length b.jobs → Done b s j → all_below (checks b) (waits_for b minute s j) ≡ true
    waiting s h j l d =
        if_true (done b s j) (all_below (checks b) (waits_for b minute s j))
        (all_true (length b.jobs) (waits b minute s) (and_right (bounds_kept b minute s) (jobs_wait b minute s) (rest s h)) j l)
        ((done_decides b s j).1 d)

-- a test of every two cases and each job that both do
abbrev pub in_both : Plain → (ℕ → ℕ → ℕ → Bool) → ℕ → ℕ → ℕ → Bool
in_both b p s t j = cond (done b s j && done b t j) (p s t j) true

abbrev pub every_two : Plain → (ℕ → ℕ → ℕ → Bool) → Bool
every_two b p = all_below (cases b) (λ s. all_below (cases b) (λ t. all_below (length b.jobs) (in_both b p s t)))

every_two_is : (b : Plain) (p : ℕ → ℕ → ℕ → Bool) → every_two b p ≡ true →
    (s t : ℕ) → s < cases b → t < cases b → (j : ℕ) → j < length b.jobs → Done b s j → Done b t j → p s t j ≡ true
every_two_is b p e s t h k j l d f =
    let q = all_true (cases b) (λ x. all_below (cases b) (λ y. all_below (length b.jobs) (in_both b p x y))) e s h in
    let r = all_true (cases b) (λ y. all_below (length b.jobs) (in_both b p s y)) q t k in
    if_true (done b s j && done b t j) (p s t j) (all_true (length b.jobs) (in_both b p s t) r j l) ((both_decides b s j t j).1 (d, f))

-- strong: one minute in both
abbrev pub level : Minutes → ℕ → ℕ → ℕ → Bool
level minute s t j = eqb (minute s j) (minute t j)

pub strong_by_test : (b : Plain) (minute : Minutes) → kept b minute ≡ true → every_two b (level minute) ≡ true → Strong b minute
strong_by_test b minute e f = record {
  strategy = strategy_by_test b minute e;
  same = λ s t h k j l d g. (Decides-eqb (minute s j) (minute t j)).0 (every_two_is b (level minute) f s t h k j l d g);
}

-- dynamic: one minute in both, or each case has a check, known before the job, that tells it from the other
abbrev pub parted_by : Plain → Minutes → ℕ → ℕ → ℕ → ℕ → Bool
parted_by b minute s t j c = tells_apart b s t c && leb (known_at b minute s c) (minute s j)

abbrev pub parted : Plain → Minutes → ℕ → ℕ → ℕ → Bool
parted b minute s t j = any_below (checks b) (parted_by b minute s t j)

abbrev pub level_or_parted : Plain → Minutes → ℕ → ℕ → ℕ → Bool
level_or_parted b minute s t j = level minute s t j || (parted b minute s t j && parted b minute t s j)

parted_never : (b : Plain) (minute : Minutes) (s t j : ℕ) → parted b minute s t j ≡ true → Agrees b minute t s j → ⊥
parted_never b minute s t j e a =
    let all = Decides-below_or (parted_by b minute s t j) Parts (λ n. any_below n (parted_by b minute s t j)) each refl (λ _. refl) (checks b) in
    let (c, l, ((d, n), m)) = all.0 e in
    n (sym (a c (record { is = l; done = d; before = m })))
  where
    Parts : ℕ → Type 0
    Parts c = (Done b s (asking b c) × (bit s c ≡ bit t c → ⊥)) × (known_at b minute s c ≤ minute s j)

    each : (c : ℕ) → Decides (parted_by b minute s t j c) (Parts c)
    each c =
        Decides-and (tells_apart b s t c) (leb (known_at b minute s c) (minute s j)) (tells_apart_decides b s t c)
        (at_most_decides (known_at b minute s c) (minute s j))

pub dynamic_by_test : (b : Plain) (minute : Minutes) → kept b minute ≡ true → every_two b (level_or_parted b minute) ≡ true → Dynamic b minute
dynamic_by_test b minute e f = record {
  strategy = strategy_by_test b minute e;
  same = λ s t h k j l d g a. by s t j (level minute s t j) refl (every_two_is b (level_or_parted b minute) f s t h k j l d g) a;
}
  where
    by : (s t j : ℕ) (r : Bool) → level minute s t j ≡ r → (r || (parted b minute s t j && parted b minute t s j)) ≡ true →
        (Agrees b minute t s j ⊎ Agrees b minute s t j) → minute s j ≡ minute t j
    by s t j true q p a = (Decides-eqb (minute s j) (minute t j)).0 q
    by s t j false q p (inl a) = absurd (parted_never b minute s t j (and_left (parted b minute s t j) (parted b minute t s j) p) a)
    by s t j false q p (inr a) = absurd (parted_never b minute t s j (and_right (parted b minute s t j) (parted b minute t s j) p) a)

-- a table that keeps the rules of a system, each by some alternative
abbrev pub kept_by : List ℕ → Rule → ℕ → Bool
kept_by table x a = not (lt_z (pos (at table x.held)) (pos (at table (alternative x a).place) +ℤ (alternative x a).minutes))

abbrev pub rule_kept : System → List ℕ → ℕ → Bool
rule_kept m table r = any_below (length (rule m r).alternatives) (kept_by table (rule m r))

kept_by_decides : (table : List ℕ) (x : Rule) (a : ℕ) → Decides (kept_by table x a) (KeptBy table x.held (alternative x a))
kept_by_decides table x a = (λ e. grind (arith, ints), λ k. grind (arith, ints))

pub keeps_by_test : (m : System) (table : List ℕ) → length table ≡ m.places → all_below (length m.rules) (rule_kept m table) ≡ true → Keeps m table
keeps_by_test m table sized e = record {
  sized = sized;
  each = λ r h.
      (Decides-below_or (kept_by table (rule m r)) (λ a. KeptBy table (rule m r).held (alternative (rule m r) a))
      (λ n. any_below n (kept_by table (rule m r))) (kept_by_decides table (rule m r)) refl (λ _. refl) (length (rule m r).alternatives)).0
      (all_true (length m.rules) (rule_kept m table) e r h);
}

-- a rule with one alternative is kept by that one
pub only : (table : List ℕ) (x : Rule) → length x.alternatives ≡ 1 → Kept table x → KeptBy table x.held (alternative x 0)
only table x e (zero, l, k) = k
only table x e (suc a, l, k) = absurd (omega arith)
