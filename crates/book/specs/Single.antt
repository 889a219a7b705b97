-- To be sound is a proposition, so a ghost field can hold it.
use Rattle.std.specs.Prelude.{◌≡◌, ℕ, pos, neg_ℤ, ◌≤ℤ◌, Option}
use Rattle.std.proofs.Common.{ap}
use mathlib.Core.HLevel.{hedberg}
use Rattle.std.proofs.Math.Bridge.{le_prop}
use Rattle.std.proofs.Math.Decide.{ℕ_discrete}
use Rattle.std.proofs.Math.Nat.{ℕ_set}
use Rattle.std.proofs.Props.{props}
use Rattle.book.specs.declared.parts.Label.{Label}
use Rattle.book.specs.declared.parts.Bound.{Bound}
use Rattle.book.specs.Plain.{Plain, bound}
use Rattle.book.specs.Sound.{Sound, SoundJob, SoundBound}

never : ⊥ → {A : Type 0} → A
never e = absurd e

option_single : (x y : Option ℕ) → IsProp (x ≡ y)
option_single x y = hlevel props

label_discrete : (x y : Label) → Dec (x ≡ y)
label_discrete x y =
    elim (ℕ_discrete x.yes y.yes) [
      | yes e ↦ elim (ℕ_discrete x.no y.no) [ yes f ↦ yes (λ i. record { yes = e i; no = f i }) | no n ↦ no (λ g. n (ap (λ l. l.no) g)) ]
      | no n ↦ no (λ g. n (ap (λ l. l.yes) g))
    ]

job_single : (b : Plain) (j : ℕ) → IsProp (SoundJob b j)
job_single b j x y = λ i. record {
  counted = λ c e. (le_prop (x.counted c e).0 (y.counted c e).0 i, ℕ_set _ _ (x.counted c e).1 (y.counted c e).1 i);
  known = λ c n. (le_prop (x.known c n).0 (y.known c n).0 i, le_prop (x.known c n).1 (y.known c n).1 i);
  one_way = λ c v w. never (x.one_way c v w) {A = x.one_way c v w ≡ y.one_way c v w} i;
  whole = λ c n k. (λ w. ℕ_set _ _ ((x.whole c n k).0 w) ((y.whole c n k).0 w) i, λ w. ℕ_set _ _ ((x.whole c n k).1 w) ((y.whole c n k).1 w) i);
}

low_single : (l : Bound) → IsProp (neg_ℤ (pos 4320) ≤ℤ l.minutes)
low_single l = hlevel props

high_single : (l : Bound) → IsProp (l.minutes ≤ℤ pos 4320)
high_single l = hlevel props

bound_single : (b : Plain) (l : Bound) → IsProp (SoundBound b l)
bound_single b l x y = λ i. record {
  first_in = le_prop x.first_in y.first_in i;
  second_in = le_prop x.second_in y.second_in i;
  low = low_single l x.low y.low i;
  high = high_single l x.high y.high i;
  two = λ e. never (x.two e) {A = x.two e ≡ y.two e} i;
  together = λ e. never (x.together e) {A = x.together e ≡ y.together e} i;
}

pub sound_single : (b : Plain) → IsProp (Sound b)
sound_single b x y = λ i. record {
  some = le_prop x.some y.some i;
  few_jobs = le_prop x.few_jobs y.few_jobs i;
  few_checks = le_prop x.few_checks y.few_checks i;
  few_bounds = le_prop x.few_bounds y.few_bounds i;
  start_free = hedberg label_discrete _ _ x.start_free y.start_free i;
  start_asks_nothing = option_single _ _ x.start_asks_nothing y.start_asks_nothing i;
  asked = λ c h. (le_prop (x.asked c h).0 (y.asked c h).0 i, option_single _ _ (x.asked c h).1 (y.asked c h).1 i);
  in_order = λ c d h l. le_prop (x.in_order c d h l) (y.in_order c d h l) i;
  each_job = λ j h. job_single b j (x.each_job j h) (y.each_job j h) i;
  each_bound = λ j h. bound_single b (bound b j) (x.each_bound j h) (y.each_bound j h) i;
}
