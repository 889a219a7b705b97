use Rattle.std.proofs.Common.{◌≡◌, ℕ, zero, suc, false, get_or, replicate, refl}
use Rattle.find.proofs.marks.Marks.none.Goals as goal

none_in : (n p : ℕ) → get_or (replicate n false) p false ≡ false
none_in zero p = refl
none_in (suc n) zero = refl
none_in (suc n) (suc p) = none_in n p

pub returns : goal.returns
returns c = λ p. none_in 320 p
