-- Each answer comes exactly when its case holds.
use Rattle.std.proofs.Common.{Ok, Err, refl, ap, arith}
use mathlib.Core.HLevel.{⊥_prop}
use mathlib.Core.Logic.{∥∥₁_elim}
use Rattle.rules.specs.Rules.{System, NoneKeeps}
use Rattle.find.specs.declared.answers.Found.TheVariants.{Table, NoTable}
use Rattle.find.specs.declared.answers.Explained.TheVariants as explained
use Rattle.find.specs.declared.answers.Refusal.TheVariants.{MinutesShort, LoopShort}
use Rattle.find.specs.Answers.{SomeKeeps, FindExact, LoopExact}

not_some : {P : Type 0} (m : System) → NoneKeeps m → SomeKeeps m → P
not_some m none some = absurd (∥∥₁_elim some ⊥_prop (λ t. none t.0 t.1))

pub exactly : FindExact
exactly m before after (Ok Table) (room, (table, least, _)) = (
  (λ h. absurd (omega arith), λ e. absurd (cc)),
  (λ _. refl, λ _. (room, ∣ (table, least.keeps) ∣₁)),
  (λ h. absurd (h.1 table least.keeps), λ e. absurd (cc)),
)
exactly m before after (Ok NoTable) (room, none, _) = (
  (λ h. absurd (omega arith), λ e. absurd (cc)),
  (λ h. not_some m none h.1, λ e. absurd (cc)),
  (λ _. refl, λ _. (room, none)),
)
exactly m before after (Err e) (is, short, _) = (
  (λ _. ap Err is, λ _. short),
  (λ h. absurd (omega (arith, h.0)), λ e. absurd (cc)),
  (λ h. absurd (omega (arith, h.0)), λ e. absurd (cc)),
)

pub loop_exactly : LoopExact
loop_exactly m origins before after list list' (Ok explained.Table) (room, space, (table, least, _), _) = (
  (λ h. absurd (omega arith), λ e. absurd (cc)),
  (λ h. absurd (omega (arith, h.1)), λ e. absurd (cc)),
  (λ _. refl, λ _. (room, space, ∣ (table, least.keeps) ∣₁)),
  (λ h. absurd (h.2 table least.keeps), λ h. let e = h.1 in absurd (cc)),
)
loop_exactly m origins before after list list' (Ok (explained.Loop n)) (room, space, none, _, _) = (
  (λ h. absurd (omega arith), λ e. absurd (cc)),
  (λ h. absurd (omega (arith, h.1)), λ e. absurd (cc)),
  (λ h. not_some m none h.2, λ e. absurd (cc)),
  (λ _. (n, refl), λ _. (room, space, none)),
)
loop_exactly m origins before after list list' (Err MinutesShort) (short, _, _) = (
  (λ _. refl, λ _. short),
  (λ h. absurd (omega (arith, h.0)), λ e. absurd (cc)),
  (λ h. absurd (omega (arith, h.0)), λ e. absurd (cc)),
  (λ h. absurd (omega (arith, h.0)), λ h. let e = h.1 in absurd (cc)),
)
loop_exactly m origins before after list list' (Err LoopShort) ((room, short), _, _) = (
  (λ h. absurd (omega arith), λ e. absurd (cc)),
  (λ _. refl, λ _. (room, short)),
  (λ h. absurd (omega (arith, h.1)), λ e. absurd (cc)),
  (λ h. absurd (omega (arith, h.1)), λ h. let e = h.1 in absurd (cc)),
)
