-- Bits of a number cut to its lowest.
use Rattle.std.proofs.Common.{◌≡◌, ℕ, zero, suc, ◌+◌, ◌*◌, ◌/◌, ◌%◌, ◌^◌, ◌<◌, sym, ap, ◌∙◌, pow-suc, div-one, one-add, arith}
use lib.Arith.{mod-mul}
use Rattle.std.proofs.lemmas.Nat.{shr-shr, pow_pos}
use Rattle.book.specs.Labels.{bit}

bit_zero : (x : ℕ) → bit x 0 ≡ x % 2
bit_zero x = ap (λ n. n % 2) (div-one x)

bit_suc : (x k : ℕ) → bit x (suc k) ≡ bit (x / 2) k
bit_suc x k = ap (λ n. n % 2) (ap (λ n. x / 2 ^ n) (sym (one-add k)) ∙ sym (shr-shr x 1 k))

cut : (x k : ℕ) → x % 2 ^ suc k ≡ (x / 2 % 2 ^ k) * 2 + x % 2
cut x k = ap (λ n. x % n) (pow-suc 2 k) ∙ mod-mul x {m = 2 ^ k} {c = 2} (pow_pos k) (omega arith)

-- the lowest k bits stay
pub bit_cut : (k c x : ℕ) → c < k → bit (x % 2 ^ k) c ≡ bit x c
bit_cut zero c x h = absurd (omega arith)
bit_cut (suc k) zero x h = let e = cut x k in let f = bit_zero x in let g = bit_zero (x % 2 ^ suc k) in omega arith
bit_cut (suc k) (suc c) x h =
    let e : (x % 2 ^ suc k) / 2 ≡ x / 2 % 2 ^ k = omega (arith, cut x k) in
    bit_suc (x % 2 ^ suc k) c ∙ (ap (λ n. bit n c) e ∙ (bit_cut k c (x / 2) (omega arith) ∙ sym (bit_suc x c)))
