-- Each answer of a verdict comes exactly when it is said to.
use Rattle.std.proofs.Common.{◌≡◌, ℕ, List, ℤ, Some, None, Ok, Err, Option, Result, refl, arith}
use mathlib.Core.HLevel.{⊥_prop}
use mathlib.Core.Logic.{∥∥₁_elim}
use Rattle.book.specs.Plain.{Plain}
use Rattle.rules.specs.declared.parts.Origin.{Origin}
use Rattle.find.specs.declared.answers.Refusal.{Refusal}
use Rattle.find.specs.declared.answers.Refusal.TheVariants.{MinutesShort, LoopShort}
use Rattle.grades.specs.Grades.{Minutes}
use Rattle.verdicts.specs.declared.answers.StrongAnswer.{StrongAnswer}
use Rattle.verdicts.specs.declared.answers.StrongAnswer.TheVariants.{Yes as StrongYes, No as StrongNo}
use Rattle.verdicts.specs.declared.answers.WeakAnswer.{WeakAnswer}
use Rattle.verdicts.specs.declared.answers.WeakAnswer.TheVariants.{Yes as WeakYes, No as WeakNo}
use Rattle.verdicts.specs.declared.answers.DynamicAnswer.TheVariants.{Yes as DynamicYes, No as DynamicNo}
use Rattle.verdicts.specs.Verdicts.{Room, Short, NoStrategy}
use Rattle.verdicts.specs.Exact.{SomeStrategy, RefusedExactly, StrongExact, WeakExact, DynamicExact}

none_some : {n : ℕ} {P : Type 0} → ◌≡◌ {A = Option ℕ} None (Some n) → P
none_some e = let z : ◌≡◌ {A = ℕ} 0 1 = cc in absurd (omega arith)

ok_err : {A P : Type 0} {a : A} {e : Refusal} → ◌≡◌ {A = Result A Refusal} (Err e) (Ok a) → P
ok_err q = let z : ◌≡◌ {A = ℕ} 0 1 = cc in absurd (omega arith)

other : {P : Type 0} → ◌≡◌ {A = Option ℕ} (Some 12) (Some 13) → P
other e = let z : ◌≡◌ {A = ℕ} 12 13 = cc in absurd (omega arith)

other_way : {P : Type 0} → ◌≡◌ {A = Option ℕ} (Some 13) (Some 12) → P
other_way e = let z : ◌≡◌ {A = ℕ} 13 12 = cc in absurd (omega arith)

answered : {A : Type 0} (b : Plain) (minutes : List ℤ) (loops : List Origin) (a : A) → Room b minutes loops → RefusedExactly b minutes loops (Ok a)
answered b minutes loops a (wide, long) =
    ((λ h. absurd (omega arith), none_some), (λ h. absurd (omega (arith, h.1)), none_some))

short : (A : Type 0) (b : Plain) (minutes : List ℤ) (loops : List Origin) (e : Refusal) → Short b minutes loops e →
    RefusedExactly {A = A} b minutes loops (Err e)
short A b minutes loops MinutesShort h = ((λ _. refl, λ _. h), (λ k. absurd (omega (arith, k.0)), other))
short A b minutes loops LoopShort (wide, few) = ((λ k. absurd (omega arith), other_way), (λ _. refl, λ _. (wide, few)))

no_room : {P : Type 0} (b : Plain) (minutes : List ℤ) (loops : List Origin) (e : Refusal) → Short b minutes loops e → Room b minutes loops → P
no_room b minutes loops MinutesShort h (wide, long) = absurd (omega arith)
no_room b minutes loops LoopShort (_, few) (wide, long) = absurd (omega arith)

none_there : {P : Type 0} (Grade : Minutes → Type 0) → NoStrategy Grade → SomeStrategy Grade → P
none_there Grade none some = absurd (∥∥₁_elim some ⊥_prop (λ t. none t.0 t.1))

pub strong_exactly : StrongExact
strong_exactly b before after loops loops_after (Ok StrongYes) (room, ((minute, earliest, _), _)) = (
  answered b before loops StrongYes room,
  (λ _. refl, λ _. (room, ∣ (minute, earliest.good) ∣₁)),
  (λ h. absurd (h.1 minute earliest.good), λ (n, q). let z : ◌≡◌ {A = ℕ} 0 1 = cc in absurd (omega arith)),
)
strong_exactly b before after loops loops_after (Ok (StrongNo n)) (room, (none, _, _)) = (
  answered b before loops (StrongNo n) room,
  (λ h. none_there _ none h.1, λ q. let z : ◌≡◌ {A = ℕ} 0 1 = cc in absurd (omega arith)),
  (λ _. (n, refl), λ _. (room, none)),
)
strong_exactly b before after loops loops_after (Err e) (lacks, _, _) = (
  short StrongAnswer b before loops e lacks,
  (λ h. no_room b before loops e lacks h.0, ok_err),
  (λ h. no_room b before loops e lacks h.0, λ (n, q). ok_err q),
)

pub weak_exactly : WeakExact
weak_exactly b before after loops loops_after (Ok WeakYes) (room, ((minute, earliest, _), _)) = (
  answered b before loops WeakYes room,
  (λ _. refl, λ _. (room, ∣ (minute, earliest.good) ∣₁)),
  (λ h. absurd (h.1 minute earliest.good), λ (s, n, _, q). let z : ◌≡◌ {A = ℕ} 0 1 = cc in absurd (omega arith)),
)
weak_exactly b before after loops loops_after (Ok (WeakNo s n)) (room, (none, lowest, _, _)) = (
  answered b before loops (WeakNo s n) room,
  (λ h. none_there _ none h.1, λ q. let z : ◌≡◌ {A = ℕ} 0 1 = cc in absurd (omega arith)),
  (λ _. (s, n, lowest, refl), λ _. (room, none)),
)
weak_exactly b before after loops loops_after (Err e) (lacks, _, _) = (
  short WeakAnswer b before loops e lacks,
  (λ h. no_room b before loops e lacks h.0, ok_err),
  (λ h. no_room b before loops e lacks h.0, λ (s, n, _, q). ok_err q),
)

pub dynamic_exactly : DynamicExact
dynamic_exactly b before after (Ok DynamicYes) (wide, (minute, earliest, _)) = (
  (λ h. absurd (omega arith), none_some),
  (λ _. refl, λ _. (wide, ∣ (minute, earliest.good) ∣₁)),
  (λ h. absurd (h.1 minute earliest.good), λ q. let z : ◌≡◌ {A = ℕ} 0 1 = cc in absurd (omega arith)),
)
dynamic_exactly b before after (Ok DynamicNo) (wide, (none, _)) = (
  (λ h. absurd (omega arith), none_some),
  (λ h. none_there _ none h.1, λ q. let z : ◌≡◌ {A = ℕ} 0 1 = cc in absurd (omega arith)),
  (λ _. refl, λ _. (wide, none)),
)
dynamic_exactly b before after (Err MinutesShort) (_, few, _) =
    ((λ _. refl, λ _. few), (λ h. absurd (omega (arith, h.0)), ok_err), (λ h. absurd (omega (arith, h.0)), ok_err))
dynamic_exactly b before after (Err LoopShort) (e, few, _) = let z : ◌≡◌ {A = ℕ} 0 1 = cc in absurd (omega arith)
