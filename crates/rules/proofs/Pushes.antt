-- A table that is filled one by one.
use Rattle.std.proofs.Common.{◌≡◌, ℕ, zero, suc, List, [], ◌∷◌, ◌++◌, take, refl, ap}

-- a list that is put into a table one by one is cut at n and no sooner
pub take_push : {X : Type 0} (n : ℕ) (xs : List X) (y : X) → take n (take n xs ++ y ∷ []) ≡ take n (xs ++ y ∷ [])
take_push zero xs y = refl
take_push (suc n) [] y = refl
take_push (suc n) (x ∷ xs) y = ap (λ l. x ∷ l) (take_push n xs y)
