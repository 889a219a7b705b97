-- Steps that give no fault.
use Rattle.std.proofs.Common.{◌≡◌, ℕ, Bool, true, false, cond, ◌⊎◌, Some, None, Ok, Err, Option, Result, refl, ap, inl, inr, arith}
use Rattle.book.specs.declared.parts.Refusal.{Refusal}
use Rattle.format.specs.declared.parts.Fault.{Fault}
use Rattle.format.specs.Entered.{Accepts}
use Rattle.format.specs.Faults.{then, given, booked, unless_taken}

pub no_fault : {A : Type 0} {P : Type 0} (e : Fault) (a : A) → ◌≡◌ {A = Result A Fault} (Err e) (Ok a) → P
no_fault e a q = let z : ◌≡◌ {A = ℕ} 0 1 = cc in absurd (omega arith)

pub no_ok : {A : Type 0} {P : Type 0} (a : A) (e : Fault) → ◌≡◌ {A = Result A Fault} (Ok a) (Err e) → P
no_ok a e q = let z : ◌≡◌ {A = ℕ} 0 1 = cc in absurd (omega arith)

pub no_value : {A : Type 0} {P : Type 0} (a : A) → ◌≡◌ {A = Option A} None (Some a) → P
no_value a q = let z : ◌≡◌ {A = ℕ} 0 1 = cc in absurd (omega arith)

pub same_ok : {A : Type 0} (a b : A) → ◌≡◌ {A = Result A Fault} (Ok a) (Ok b) → a ≡ b
same_ok a b q = cc

pub same_err : {A : Type 0} (e f : Fault) → ◌≡◌ {A = Result A Fault} (Err e) (Err f) → e ≡ f
same_err e f q = cc

pub same_some : {A : Type 0} (a b : A) → ◌≡◌ {A = Option A} (Some a) (Some b) → a ≡ b
same_some a b q = cc

pub then_ok : {A B : Type 0} (r : Result A Fault) (f : A → Result B Fault) (b : B) → then r f ≡ Ok b → (a : A) × (r ≡ Ok a) × (f a ≡ Ok b)
then_ok (Ok a) f b q = (a, refl, q)
then_ok (Err e) f b q = no_fault e b q

pub then_err : {A B : Type 0} (r : Result A Fault) (f : A → Result B Fault) (e : Fault) → then r f ≡ Err e
    → (r ≡ Err e) ⊎ ((a : A) × (r ≡ Ok a) × (f a ≡ Err e))
then_err (Ok a) f e q = inr (a, refl, q)
then_err (Err x) f e q = inl (ap Err (same_err x e q))

pub then_is : {A B : Type 0} (r : Result A Fault) (f : A → Result B Fault) (a : A) → r ≡ Ok a → then r f ≡ f a
then_is r f a q = rw q refl

pub then_no : {A B : Type 0} (r : Result A Fault) (f : A → Result B Fault) (e : Fault) → r ≡ Err e → then r f ≡ Err e
then_no r f e q = rw q refl

pub given_ok : {A : Type 0} (o : Option A) (e : Fault) (a : A) → given o e ≡ Ok a → o ≡ Some a
given_ok (Some x) e a q = ap Some (same_ok x a q)
given_ok None e a q = no_fault e a q

pub untaken : {A : Type 0} (o : Option ℕ) (e : Fault) (r : Result A Fault) (a : A) → unless_taken o e r ≡ Ok a → (o ≡ None) × (r ≡ Ok a)
untaken (Some j) e r a q = no_fault e a q
untaken None e r a q = (refl, q)

pub booked_ok : {A B : Type 0} (l b : ℕ) (r : Result A Refusal) (x y : B) → booked l b r x ≡ Ok y → Accepts r × (x ≡ y)
booked_ok l b (Ok a) x y q = (tt, same_ok x y q)
booked_ok l b (Err e) x y q = no_fault _ y q

pub booked_is : {A B : Type 0} (l b : ℕ) (r : Result A Refusal) (x : B) → Accepts r → booked l b r x ≡ Ok x
booked_is l b (Ok a) x h = refl
booked_is l b (Err e) x h = absurd h

pub passed : {A : Type 0} (t : Bool) (r : Result A Fault) (e : Fault) (a : A) → cond t r (Err e) ≡ Ok a → (t ≡ true) × (r ≡ Ok a)
passed true r e a q = (refl, q)
passed false r e a q = no_fault e a q

pub spared : {A : Type 0} (t : Bool) (r : Result A Fault) (e : Fault) (a : A) → cond t (Err e) r ≡ Ok a → (t ≡ false) × (r ≡ Ok a)
spared true r e a q = no_fault e a q
spared false r e a q = (refl, q)

pub some_passed : {A : Type 0} (t : Bool) (x a : A) → cond t (Some x) None ≡ Some a → (t ≡ true) × (x ≡ a)
some_passed true x a q = (refl, same_some x a q)
some_passed false x a q = no_value a q
