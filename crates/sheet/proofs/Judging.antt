-- The three verdicts together.
use Rattle.std.proofs.Common.{◌≡◌, ℕ, zero, suc, ◌*◌, ◌≤◌, true, List, [], ◌∷◌, map, length, take, drop, ℤ, Ok, Err, is_ok, Result}
use Rattle.std.proofs.Common.{refl, ap, ◌∙◌, suc-mul, mul-le-mul, arith, length-append}
use lib.ListN.{length-map}
use Rattle.std.proofs.lemmas.List.{take_at}
use Rattle.book.specs.Plain.{Plain, cases}
use Rattle.book.specs.declared.parts.Job.{Job}
use Rattle.book.specs.Sound.{Sound}
use Rattle.rules.specs.declared.parts.Origin.{Origin}
use Rattle.find.specs.Answers.{origin_of, Looped}
use Rattle.find.specs.declared.answers.Refusal.{Refusal}
use Rattle.find.specs.declared.answers.Refusal.TheVariants.{MinutesShort, LoopShort}
use Rattle.grades.specs.Grades.{Minutes}
use Rattle.grades.specs.Systems.{each_below, shown, listed, weak_origins, weak_system}
use Rattle.grades.proofs.Limits.{few_cases}
use Rattle.verdicts.specs.declared.answers.StrongAnswer.{StrongAnswer}
use Rattle.verdicts.specs.declared.answers.WeakAnswer.{WeakAnswer}
use Rattle.verdicts.specs.declared.answers.WeakAnswer.TheVariants as weak
use Rattle.verdicts.specs.declared.answers.StrongAnswer.TheVariants as strong
use Rattle.verdicts.specs.declared.answers.DynamicAnswer.TheVariants as dynamic
use Rattle.verdicts.specs.declared.answers.DynamicAnswer.{DynamicAnswer}
use Rattle.verdicts.specs.Verdicts.{size, ListsEarliest, LowestFailing, StrongSays, StrongAnswered, WeakSays, WeakAnswered, DynamicSays, DynamicAnswered}
use Rattle.sheet.specs.declared.grade.Grade.{Grade}
use Rattle.sheet.specs.declared.grade.Grade.TheVariants.{Strong, Dynamic, Weak}
use Rattle.sheet.specs.declared.verdict.Verdicts.{Verdicts}
use Rattle.sheet.specs.Sheet.{is_strong, is_dynamic, is_weak}
use Rattle.sheet.specs.Printed.{good, Verdict}
use Rattle.sheet.specs.Judged.{Holds, Looping, Shown, Judged}

-- the minutes of a plan fit a list of 320
pub size_fits : (b : Plain) → Sound b → size b ≤ 320
size_fits b sound = mul-le-mul {m₂ = 20} (few_cases b sound) sound.few_jobs

pub counted_fits : (b : Plain) (n : ℕ) (jobs : List Job) → Sound b → n ≡ cases b → jobs ≡ b.jobs → n * length jobs ≤ 320
counted_fits b n jobs sound p q = rw (p, q) (size_fits b sound)

-- with lists that are long enough no verdict is refused
pub strong_answers : (b : Plain) → Sound b → (before after : List ℤ) (loops loops_after : List Origin) (r : Result StrongAnswer Refusal) →
    length before ≡ 320 → length loops ≡ 20 → StrongAnswered b before after loops loops_after r → is_ok r ≡ true
strong_answers b s before after loops loops_after (Ok a) m l h = refl
strong_answers b s before after loops loops_after (Err MinutesShort) m l h = absurd (omega (arith, size_fits b s, h.0))
strong_answers b s before after loops loops_after (Err LoopShort) m l h = absurd (omega (arith, h.0.1))

pub weak_answers : (b : Plain) → Sound b → (before after : List ℤ) (loops loops_after : List Origin) (r : Result WeakAnswer Refusal) →
    length before ≡ 320 → length loops ≡ 20 → WeakAnswered b before after loops loops_after r → is_ok r ≡ true
weak_answers b s before after loops loops_after (Ok a) m l h = refl
weak_answers b s before after loops loops_after (Err MinutesShort) m l h = absurd (omega (arith, size_fits b s, h.0))
weak_answers b s before after loops loops_after (Err LoopShort) m l h = absurd (omega (arith, h.0.1))

pub dynamic_answers : (b : Plain) → Sound b → (before after : List ℤ) (r : Result DynamicAnswer Refusal) →
    length before ≡ 320 → DynamicAnswered b before after r → is_ok r ≡ true
dynamic_answers b s before after (Ok a) m h = refl
dynamic_answers b s before after (Err e) m h = absurd (omega (arith, size_fits b s, h.1))

-- a yes fills one number for each case and job
each_length : {X : Type 0} (n k : ℕ) (f : ℕ → List X) → ((i : ℕ) → length (f i) ≡ k) → length (each_below n f) ≡ n * k
each_length zero k f h = omega arith
each_length (suc n) k f h = omega (arith, length-append (each_below n f) (f n), each_length n k f h, h n, suc-mul n k)

each_one : {X : Type 0} (n : ℕ) (f : ℕ → X) → length (each_below n (λ i. f i ∷ [])) ≡ n
each_one zero f = refl
each_one (suc n) f = omega (arith, length-append (each_below n (λ i. f i ∷ [])) (f n ∷ []), each_one n f)

listed_length : (b : Plain) (minute : Minutes) → length (listed b minute) ≡ size b
listed_length b minute = each_length (cases b) (length b.jobs) (λ s. each_below (length b.jobs) (λ j. shown b minute s j ∷ []))
    (λ s. each_one (length b.jobs) (shown b minute s))

pub filled : (b : Plain) (g : Grade) (before after : List ℤ) → ListsEarliest b (good b g) before after → Holds b g after
filled b g before after h =
    (h.0, h.1, ap (take (size b)) h.2 ∙ take_at (listed b h.0) (drop (size b) before) (size b) (listed_length b h.0))

strong_verdict : (b : Plain) (before after : List ℤ) (loops loops_after : List Origin) (s : StrongAnswer) → StrongSays b before after loops loops_after s
    → Verdict b Strong (is_strong s)
strong_verdict b before after loops loops_after strong.Yes h = (h.0.0, h.0.1.good)
strong_verdict b before after loops loops_after (strong.No n) h = h.0

dynamic_verdict : (b : Plain) (before after : List ℤ) (d : DynamicAnswer) → DynamicSays b before after d → Verdict b Dynamic (is_dynamic d)
dynamic_verdict b before after dynamic.Yes h = (h.0, h.1.good)
dynamic_verdict b before after dynamic.No h = h.0

weak_verdict : (b : Plain) (before after : List ℤ) (loops loops_after : List Origin) (w : WeakAnswer) → WeakSays b before after loops loops_after w
    → Verdict b Weak (is_weak w)
weak_verdict b before after loops loops_after weak.Yes h = (h.0.0, h.0.1.good)
weak_verdict b before after loops loops_after (weak.No s n) h = h.0

-- the origins that a loop writes
looping : (b : Plain) (s n : ℕ) (before after : List Origin) → LowestFailing b s → Looped (weak_system b s) (weak_origins b s) before after n
    → Looping b after s n
looping b s n before after low h =
    let long = length-map h.0 (origin_of (weak_origins b s)) ∙ h.2 in
    (low, h.0, h.1, h.2, ap (take n) h.3 ∙ take_at (map (origin_of (weak_origins b s)) h.0) (drop n before) n long)

-- what the minutes and the origins are in the end
shown_of : (b : Plain) (loops origins spare spare_after : List Origin) (s : StrongAnswer) (d : DynamicAnswer) (w : WeakAnswer) (m₀ m₁ m₂ m₃ : List ℤ)
    → WeakSays b m₀ m₁ loops origins w → DynamicSays b m₁ m₂ d → StrongSays b m₂ m₃ spare spare_after s → Shown b m₃ origins (is_strong s) (is_dynamic d) w
shown_of b loops origins spare spare_after strong.Yes d w m₀ m₁ m₂ m₃ p q r = filled b Strong m₂ m₃ r.0
shown_of b loops origins spare spare_after (strong.No n) dynamic.Yes w m₀ m₁ m₂ m₃ p q r =
    let h = filled b Dynamic m₁ m₂ q in
    (h.0, h.1, ap (take (size b)) r.2 ∙ h.2)
shown_of b loops origins spare spare_after (strong.No n) dynamic.No weak.Yes m₀ m₁ m₂ m₃ p q r =
    let h = filled b Weak m₀ m₁ p.0 in
    (h.0, h.1, ap (take (size b)) (r.2 ∙ q.1) ∙ h.2)
shown_of b loops origins spare spare_after (strong.No n) dynamic.No (weak.No case length) m₀ m₁ m₂ m₃ p q r = looping b case length loops origins p.1 p.2

-- the three answers, one after another
pub judged : (b : Plain) (loops origins spare spare_after : List Origin) (v : Verdicts) (m₀ m₁ m₂ m₃ : List ℤ) →
    WeakSays b m₀ m₁ loops origins v.weak → DynamicSays b m₁ m₂ v.dynamic → StrongSays b m₂ m₃ spare spare_after v.strong → Judged b m₃ origins v
judged b loops origins spare spare_after v m₀ m₁ m₂ m₃ p q r = record {
  strong_is = strong_verdict b m₂ m₃ spare spare_after v.strong r;
  dynamic_is = dynamic_verdict b m₁ m₂ v.dynamic q;
  weak_is = weak_verdict b m₀ m₁ loops origins v.weak p;
  shown = shown_of b loops origins spare spare_after v.strong v.dynamic v.weak m₀ m₁ m₂ m₃ p q r;
}
