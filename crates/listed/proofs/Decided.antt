-- What a test of every item of a list decides.
use Rattle.std.proofs.Common.{ℕ, ◌<◌, Bool, true, false, List, length, Decides, MatchBool, refl, arith}
use Rattle.std.specs.List.{HoldsAt, AllWithin}
use Rattle.std.proofs.lemmas.Bool.{false≢true}

module _ {X : Type 0} (P : X → Type 0) (d : X) (xs : List X) where
  abbrev Fails : Type 0
  Fails = (k : ℕ) × (k < length xs) × HoldsAt (λ x. P x → ⊥) xs k

  fails : Fails → AllWithin P xs 0 (length xs) → ⊥
  fails (k, h, n) a = n d (a k d (omega arith) h)

  pub all_decides : (r : Bool) → MatchBool r (AllWithin P xs 0 (length xs)) Fails → Decides r (AllWithin P xs 0 (length xs))
  all_decides true h = (λ _. h, λ _. refl)
  all_decides false h = (λ e. absurd (false≢true e), λ a. absurd (fails h a))

-- what is decided by one fact is decided by another that is as strong
pub decides_as : {P Q : Type 0} {r : Bool} → Decides r P → (P → Q) → (Q → P) → Decides r Q
decides_as (f, g) there back = (λ e. there (f e), λ q. g (back q))
