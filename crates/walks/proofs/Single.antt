-- To be lawful is a proposition, and so are the other things that a run keeps in its type.
use Rattle.std.proofs.Common.{ℕ, List, [], ◌∷◌}
use mathlib.Core.HLevel.{⊥_prop}
use native.Mathlib.Bridge.{le_prop}
use native.Mathlib.Nat.{ℕ_set}
use Rattle.book.specs.Plain.{Plain}
use Rattle.grades.specs.Grades.{Minutes}
use Rattle.walks.specs.declared.parts.Telling.{Telling}
use Rattle.walks.specs.declared.parts.Event.{Event}
use Rattle.walks.specs.declared.parts.Event.TheVariants.{Told, Reported}
use Rattle.walks.specs.Logs.{Asked, NoneAwaited, Left, Right, Lawful, Tells, Ended}

module _ (b : Plain) where
  left_single : (log : List Event) (s j : ℕ) → IsProp (Left b log s j)
  left_single log s j x y = λ i. (
    le_prop x.0 y.0 i,
    λ k h. (λ w. ℕ_set _ _ ((x.1 k h).0 w) ((y.1 k h).0 w) i, λ w. ℕ_set _ _ ((x.1 k h).1 w) ((y.1 k h).1 w) i),
    λ v t. ⊥_prop (x.2 v t) (y.2 v t) i,
  )

  pub idle_single : (log : List Event) → IsProp (NoneAwaited b log)
  idle_single log x y = λ i c a. ⊥_prop (x c a) (y c a) i

  pub asked_single : (log : List Event) (c : ℕ) → IsProp (Asked b log c)
  asked_single log c x y = λ i. (
    (le_prop x.0.0 y.0.0 i, ℕ_set _ _ x.0.1 y.0.1 i, λ h. ⊥_prop (x.0.2 h) (y.0.2 h) i),
    λ d h a. ⊥_prop (x.1 d h a) (y.1 d h a) i,
  )

  pub ended_single : (log : List Event) → IsProp (Ended b log)
  ended_single log x y = λ i. record {
    none_awaited = idle_single log x.none_awaited y.none_awaited i;
    none_left = λ s a j h. ⊥_prop (x.none_left s a j h) (y.none_left s a j h) i;
  }

  module _ (minute : Minutes) where
    tells_single : (log : List Event) (t : Telling) → IsProp (Tells b minute log t)
    tells_single log t x y = λ i. record {
      some = λ e. ⊥_prop (x.some e) (y.some e) i;
      exactly = λ s a j. (
        λ h. (left_single log s j ((x.exactly s a j).0 h).0 ((y.exactly s a j).0 h).0 i, ℕ_set _ _ ((x.exactly s a j).0 h).1 ((y.exactly s a j).0 h).1 i),
        λ h. ℕ_set _ _ ((x.exactly s a j).1 h) ((y.exactly s a j).1 h) i,
      );
      next = λ s a j h. le_prop (x.next s a j h) (y.next s a j h) i;
    }

    right_single : (log : List Event) (e : Event) → IsProp (Right b minute log e)
    right_single log (Told t) x y = λ i. (idle_single log x.0 y.0 i, tells_single log t x.1 y.1 i)
    right_single log (Reported r) x y = asked_single log r.check x y

    pub lawful_single : (log : List Event) → IsProp (Lawful b minute log)
    lawful_single [] x y = λ i. tt
    lawful_single (e ∷ log) x y = λ i. (lawful_single log x.0 y.0 i, right_single log e x.1 y.1 i)
