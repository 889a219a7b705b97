-- Laws of the bits of a number.
use Rattle.std.proofs.Common.{◌≡◌, ℕ, zero, suc, ◌+◌, ◌-◌, ◌/◌, ◌%◌, ◌^◌, ◌<◌, ◌≤◌, min, max, true, eqb, Decides, sym, ap, ◌∙◌, pow-suc}
use Rattle.std.proofs.Common.{div-le_self, div-one, one-add, arith, pow_mono}
use native.Mathlib.Nat.{zero-div, div-eq_of_lt}
use native.Mathlib.Decide.{dec_lt}
use lib.Bits.{bit_and, bit_or, and_step, or_step, and_shr, or_shr, and_lt}
use Rattle.std.proofs.lemmas.Nat.{shr-shr, pow_pos}
use Rattle.std.proofs.lemmas.Bool.Decides.{nat_tests}
use Rattle.book.specs.Labels.{bit}

pub bit_lt : (x k : ℕ) → bit x k < 2
bit_lt x k = omega arith

bit_zero : (x : ℕ) → bit x 0 ≡ x % 2
bit_zero x = ap (λ n. n % 2) (div-one x)

bit_suc : (x k : ℕ) → bit x (suc k) ≡ bit (x / 2) k
bit_suc x k = ap (λ n. n % 2) (ap (λ n. x / 2 ^ n) (sym (one-add k)) ∙ sym (shr-shr x 1 k))

and_low : (a b : ℕ) → bit_and a b % 2 ≡ min (a % 2) (b % 2)
and_low a b = omega (arith, and_step a b)

or_low : (a b : ℕ) → bit_or a b % 2 ≡ max (a % 2) (b % 2)
or_low a b = omega (arith, or_step a b)

bit-bit_and : (a b k : ℕ) → bit (bit_and a b) k ≡ min (bit a k) (bit b k)
bit-bit_and a b k = ap (λ n. n % 2) (and_shr a b k) ∙ and_low (a / 2 ^ k) (b / 2 ^ k)

pub bit-bit_or : (a b k : ℕ) → bit (bit_or a b) k ≡ max (bit a k) (bit b k)
bit-bit_or a b k = ap (λ n. n % 2) (or_shr a b k) ∙ or_low (a / 2 ^ k) (b / 2 ^ k)

-- numbers of n bits are equal where their bits are
pub same_bits : (n a b : ℕ) → a < 2 ^ n → b < 2 ^ n → ((k : ℕ) → k < n → bit a k ≡ bit b k) → a ≡ b
same_bits zero a b h k e = omega arith
same_bits (suc n) a b h k e =
    let p = pow-suc 2 n in
    let low : a % 2 ≡ b % 2 = sym (bit_zero a) ∙ (e 0 (omega arith) ∙ bit_zero b) in
    let high = same_bits n (a / 2) (b / 2) (omega arith) (omega arith) (λ j l. sym (bit_suc a j) ∙ (e (suc j) (omega arith) ∙ bit_suc b j)) in
    omega arith

pub bit_none : (j : ℕ) → bit 0 j ≡ 0
bit_none j = ap (λ n. n % 2) (zero-div (2 ^ j))

-- a number below 2 ^ k has no bit at k or above
pub bit_below : (x k c : ℕ) → x < 2 ^ k → bit x c ≡ 1 → c < k
bit_below x k c h e = by (dec_lt c k)
  where
    by : Dec (c < k) → c < k
    by (yes l) = l
    by (no l) =
        let m : k ≤ c = omega arith in
        let p : 2 ^ k ≤ 2 ^ c = pow_mono m in
        let z : x / 2 ^ c ≡ 0 = div-eq_of_lt (omega arith) in
        let w : bit x c ≡ 0 % 2 = ap (λ n. n % 2) z in
        absurd (omega arith)

min_of : (x y : ℕ) → x < 2 → (x ≡ 1 → y ≡ 1) → min x y ≡ x
min_of x y h f = grind arith

none_of : (x y : ℕ) → y < 2 → (y ≡ 1 → x ≡ 0) → min x y ≡ 0
none_of x y h f = grind arith

-- each bit of a is one of b
pub within_is : (n a b : ℕ) → a < 2 ^ n → b < 2 ^ n → Decides (eqb (bit_and a b) a) ((j : ℕ) → j < n → bit a j ≡ 1 → bit b j ≡ 1)
within_is n a b h k = (
  λ t j l e.
      let s : bit_and a b ≡ a = grind (arith, nat_tests) in
      let m : bit a j ≡ min (bit a j) (bit b j) = ap (λ x. bit x j) (sym s) ∙ bit-bit_and a b j in
      omega (arith, bit_lt b j),
  λ f.
      let s : bit_and a b ≡ a =
      same_bits n (bit_and a b) a (and_lt n a b h k) h (λ j l. bit-bit_and a b j ∙ min_of (bit a j) (bit b j) (bit_lt a j) (f j l)) in
      grind (arith, nat_tests),
)

-- no bit of a is one of b
pub apart_is : (n a b : ℕ) → a < 2 ^ n → b < 2 ^ n → Decides (eqb (bit_and a b) 0) ((j : ℕ) → j < n → bit b j ≡ 1 → bit a j ≡ 0)
apart_is n a b h k = (
  λ t j l e.
      let s : bit_and a b ≡ 0 = grind (arith, nat_tests) in
      let m : bit 0 j ≡ min (bit a j) (bit b j) = ap (λ x. bit x j) (sym s) ∙ bit-bit_and a b j in
      omega (arith, bit_lt a j, bit_none j),
  λ f.
      let s : bit_and a b ≡ 0 =
      same_bits n (bit_and a b) 0 (and_lt n a b h k) (pow_pos n)
      (λ j l. bit-bit_and a b j ∙ (none_of (bit a j) (bit b j) (bit_lt b j) (f j l) ∙ sym (bit_none j))) in
      grind (arith, nat_tests),
)

-- the bits of a number that is moved down
bit_shr : (x c j : ℕ) → bit (x / 2 ^ c) j ≡ bit x (c + j)
bit_shr x c j = ap (λ n. n % 2) (shr-shr x c j)

-- no bit of x stands at c or above
pub low_is : (n x c : ℕ) → x < 2 ^ n → Decides (eqb (x / 2 ^ c) 0) ((k : ℕ) → k < n → bit x k ≡ 1 → k < c)
low_is n x c h = (forth, back)
  where
    forth : eqb (x / 2 ^ c) 0 ≡ true → (k : ℕ) → k < n → bit x k ≡ 1 → k < c
    forth t k l e = by (dec_lt k c)
      where
        by : Dec (k < c) → k < c
        by (yes m) = m
        by (no m) =
            let z : x / 2 ^ c ≡ 0 = grind (arith, nat_tests) in
            let s : c + (k - c) ≡ k = omega arith in
            let w : bit x k ≡ 0 = ap (λ i. bit x i) (sym s) ∙ (sym (bit_shr x c (k - c)) ∙ (ap (λ y. bit y (k - c)) z ∙ bit_none (k - c))) in
            absurd (omega arith)

    back : ((k : ℕ) → k < n → bit x k ≡ 1 → k < c) → eqb (x / 2 ^ c) 0 ≡ true
    back f =
        let d : x / 2 ^ c ≤ x = div-le_self x (2 ^ c) in
        let s : x / 2 ^ c ≡ 0 =
        same_bits n (x / 2 ^ c) 0 (omega arith) (pow_pos n)
        (λ j l. bit_shr x c j ∙ (zero_at (c + j) (λ e. let m = f (c + j) (bit_below x n (c + j) h e) e in omega arith) ∙ sym (bit_none j))) in
        grind (arith, nat_tests)
      where
        zero_at : (i : ℕ) → (bit x i ≡ 1 → ⊥) → bit x i ≡ 0
        zero_at i g = let l = bit_lt x i in grind arith
