-- Strategies as minutes that keep the holds of each case, and minutes lowered by one number.
use Rattle.std.proofs.Common.{◌≡◌, ℕ, ◌+◌, ◌-◌, ◌<◌, List, map, length, get_or, ℤ, ap, subst, arith}
use lib.ListN.{get_or-map}
use Rattle.std.proofs.lemmas.Int.{ints}
use Rattle.book.specs.declared.parts.Kind.{Kind}
use Rattle.book.specs.declared.parts.Kind.TheVariants.{Least, Most}
use Rattle.book.specs.Labels.{bit, Names}
use Rattle.book.specs.Plain.{Plain, job, bound, asking, Case, Done}
use Rattle.book.specs.Sound.{Sound}
use Rattle.rules.specs.Rules.{at}
use Rattle.grades.specs.Grades.{Minutes, Within, Counts, Strategy}
use Rattle.book.proofs.Bits.{bit_none}
use Rattle.grades.proofs.Props.{Holding}

-- `start` is done in every case
pub start_done : (b : Plain) → Sound b → (s : ℕ) → Done b s 0
start_done b sound s c h = (
  λ w. absurd (omega (arith, ap (λ l. bit l.yes c) sound.start_free, bit_none c)),
  λ w. absurd (omega (arith, ap (λ l. bit l.no c) sound.start_free, bit_none c)),
)

-- a case that does a job does the checks that its label names
pub check_done : (b : Plain) → Sound b → (s j : ℕ) → j < length b.jobs → Done b s j → (c : ℕ) → Names (job b j).label c → Done b s (asking b c)
check_done b sound s j h d c n e l = let w = (sound.each_job j h).whole c n e in (λ y. (d e l).0 (w.0 y), λ z. (d e l).1 (w.1 z))

-- what a strategy is, case by case
pub strategy_of : (b : Plain) → Sound b → (M : Minutes)
    → ((s : ℕ) → Case b s → Holding b (Counts b s) (Done b s) (M s)) → ((s : ℕ) → Case b s → M s 0 ≡ 0) → Strategy b M
strategy_of b sound M k from = record {
  start = from;
  bounds = λ s h. (k s h).bounds;
  not_before = λ s h j i d. (k s h).start j i d (start_done b sound s);
  after_checks = λ s h j i d c n. (k s h).label j i c ((sound.each_job j i).known c n).0 n d (check_done b sound s j i d c n);
}

pub holding_of : (b : Plain) (M : Minutes) → Strategy b M → (s : ℕ) → Case b s → Holding b (Counts b s) (Done b s) (M s)
holding_of b M d s h = record {
  bounds = d.bounds s h;
  start = λ j i p q. d.not_before s h j i p;
  label = λ j i c l n p q. d.after_checks s h j i p c n;
}

within_lower : (k : Kind) (w : ℤ) (x y x' y' low : ℕ) → x + low ≡ x' → y + low ≡ y' → Within k w x' y' → Within k w x y
within_lower Least w x y x' y' low e f h = omega (arith, ints)
within_lower Most w x y x' y' low e f h = omega (arith, ints)

-- minutes that lie lower by one number at each job of D keep the holds still, where the bounds of C join jobs of D
pub lower_holding : (b : Plain) → Sound b → (C D : ℕ → Type 0) → ((i : ℕ) → C i → D (bound b i).first × D (bound b i).second) → (m n : ℕ → ℕ) (low : ℕ)
    → ((j : ℕ) → j < length b.jobs → D j → n j + low ≡ m j) → Holding b C D m → Holding b C D n
lower_holding b sound C D joins m n low e k = record {
  bounds = λ i l p.
      let x = sound.each_bound i l in
      let f = (bound b i).first in
      let g = (bound b i).second in
      within_lower (bound b i).kind (bound b i).minutes (n f) (n g) (m f) (m g) low
      (e f x.first_in (joins i p).0) (e g x.second_in (joins i p).1) (k.bounds i l p);
  start = λ j i p q. omega (arith, e j i p, e 0 sound.some q, k.start j i p q);
  label = λ j i c l w p q. omega (arith, e j i p, e (asking b c) (sound.asked c l).0 q, k.label j i c l w p q);
}

pub at_lowered : (table : List ℕ) (low p : ℕ) → at (map (λ v. v - low) table) p ≡ at table p - low
at_lowered table low p =
    let e : 0 - low ≡ 0 = omega arith in
    subst (λ d. get_or (map (λ v. v - low) table) p d ≡ get_or table p 0 - low) e (get_or-map (λ v. v - low) table p 0)
