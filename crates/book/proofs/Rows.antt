-- A table of rows of which none applies.
use Rattle.std.proofs.Common.{◌≡◌, ℕ, Bool, true, false, cond, Some, None, Option, refl, arith}
use Rattle.book.specs.declared.parts.Refusal.{Refusal}

-- where no row applies, the first does not, nor any of the others
pub none_applies : (t : Bool) (r : Refusal) (rest : Option Refusal) → cond t (Some r) rest ≡ None → (t ≡ false) × (rest ≡ None)
none_applies true r rest e = let z : ◌≡◌ {A = ℕ} 0 1 = cc in absurd (omega arith)
none_applies false r rest e = (refl, e)
