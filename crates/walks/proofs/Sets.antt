-- Sets as the bits of a number: one more member, some member, and how many there are.
use Rattle.std.proofs.Common.{◌≡◌, ℕ, zero, suc, ◌+◌, ◌/◌, ◌%◌, ◌^◌, ◌<◌, ◌≤◌, ◌≢◌, sym, refl, ap, ◌∙◌, pow-suc, div-one, one-add, arith}
use native.Mathlib.Decide.{ℕ_discrete}
use native.Mathlib.Nat.{zero-div}
use Rattle.std.proofs.lemmas.Nat.{shr-shr}
use Rattle.book.specs.Labels.{bit}

bit_zero : (x : ℕ) → bit x 0 ≡ x % 2
bit_zero x = ap (λ n. n % 2) (div-one x)

bit_suc : (x k : ℕ) → bit x (suc k) ≡ bit (x / 2) k
bit_suc x k = ap (λ n. n % 2) (ap (λ n. x / 2 ^ n) (sym (one-add k)) ∙ sym (shr-shr x 1 k))

pub bit_of_none : (j : ℕ) → bit 0 j ≡ 0
bit_of_none j = ap (λ n. n % 2) (zero-div (2 ^ j))

-- the bits of a power of two
pub bit_same : (k : ℕ) → bit (2 ^ k) k ≡ 1
bit_same zero = refl
bit_same (suc k) =
    let half : 2 ^ suc k / 2 ≡ 2 ^ k = omega (arith, pow-suc 2 k) in
    bit_suc (2 ^ suc k) k ∙ (ap (λ n. bit n k) half ∙ bit_same k)

pub bit_other : (k j : ℕ) → j ≢ k → bit (2 ^ k) j ≡ 0
bit_other zero zero n = absurd (n refl)
bit_other zero (suc j) n = bit_suc 1 j ∙ bit_of_none j
bit_other (suc k) zero n = let e = bit_zero (2 ^ suc k) in let p = pow-suc 2 k in omega arith
bit_other (suc k) (suc j) n =
    let half : 2 ^ suc k / 2 ≡ 2 ^ k = omega (arith, pow-suc 2 k) in
    bit_suc (2 ^ suc k) j ∙ (ap (λ m. bit m j) half ∙ bit_other k j (λ e. n (ap suc e)))

-- a number that is not 0 has a bit
some_within : (fuel x : ℕ) → x < fuel → x ≢ 0 → (j : ℕ) × (bit x j ≡ 1)
some_within zero x h n = absurd (omega arith)
some_within (suc fuel) x h n = by (ℕ_discrete (x % 2) 1) (λ z. some_within fuel (x / 2) (omega arith) z)
  where
    by : Dec (x % 2 ≡ 1) → (x / 2 ≢ 0 → (j : ℕ) × (bit (x / 2) j ≡ 1)) → (j : ℕ) × (bit x j ≡ 1)
    by (yes e) f = (0, bit_zero x ∙ e)
    by (no e) f = let r = f (λ z. n (omega arith)) in (suc r.0, bit_suc x r.0 ∙ r.1)

pub some_bit : (x : ℕ) → x ≢ 0 → (j : ℕ) × (bit x j ≡ 1)
some_bit x n = some_within (suc x) x (omega arith) n

-- how many numbers below n are in the set
pub size : ℕ → ℕ → ℕ
size zero x = 0
size (suc n) x = bit x n + size n x

pub size_le : (n x : ℕ) → size n x ≤ n
unfolding size
size_le zero x = omega arith
size_le (suc n) x = let h = size_le n x in omega arith

size_more : (n x y : ℕ) → ((k : ℕ) → bit x k ≤ bit y k) → size n x ≤ size n y
unfolding size
size_more zero x y f = omega arith
size_more (suc n) x y f = let h = size_more n x y f in let g = f n in omega arith

-- a set that gains a member grows
pub size_grows : (n x y : ℕ) → ((k : ℕ) → bit x k ≤ bit y k) → (k : ℕ) → k < n → bit x k < bit y k → size n x < size n y
unfolding size
size_grows zero x y f k h l = absurd (omega arith)
size_grows (suc n) x y f k h l = by (ℕ_discrete k n) (λ m. size_grows n x y f k m l)
  where
    by : Dec (k ≡ n) → (k < n → size n x < size n y) → bit x n + size n x < bit y n + size n y
    by (yes e) r = let m = size_more n x y f in let here : bit x n < bit y n = rw e at l in omega arith
    by (no e) r = let m = r (omega arith) in let g = f n in omega arith
