-- The tests on labels decide what they say.
use Rattle.std.proofs.Common.{◌≡◌, ℕ, ◌/◌, ◌^◌, ◌<◌, ◌≤◌, max, Bool, true, false, cond, not, ◌&&◌, ◌||◌, eqb, leb, ◌⊎◌, Decides, sym, refl, inl, inr}
use Rattle.std.proofs.Common.{◌∙◌, arith}
use lib.Bits.{bit_and, bit_or, or_lt}
use Rattle.std.proofs.lemmas.Bool.Decides.{nat_tests, Decides-below_and, Decides-below_or, Decides-and, Decides-or, Decides-like, Decides-eqb}
use Rattle.book.specs.declared.parts.Label.{Label}
use Rattle.book.specs.Labels.{bit, Meets, Names, WantsYes, WantsNo, Exclude, wants_yes, wants_no, names, any_below, all_below}
use Rattle.book.specs.Plain.{Plain, Done, job, both_ways, lacks, exclude}
use Rattle.book.specs.Done.{met, met_by, done}
use Rattle.book.proofs.Bits.{bit-bit_or, bit_below, within_is, apart_is, low_is}

pub not-true : (x : Bool) → (x ≡ true → ⊥) → x ≡ false
not-true true h = absurd (h refl)
not-true false h = refl

pub differ : true ≡ false → ⊥
differ e = let z : ◌≡◌ {A = ℕ} 0 1 = cc in omega arith

pub dec_of : {P : Type 0} (r : Bool) → Decides r P → Dec P
dec_of true d = yes (d.0 refl)
dec_of false d = no (λ p. differ (sym (d.1 p)))

-- a test of some number below n, and of each
pub any_decides : (n : ℕ) (p : ℕ → Bool) → Decides (any_below n p) ((k : ℕ) × (k < n) × (p k ≡ true))
any_decides n p = Decides-below_or p (λ k. p k ≡ true) (λ m. any_below m p) (λ k. (λ h. h, λ h. h)) refl (λ _. refl) n

pub none_below : (n : ℕ) (p : ℕ → Bool) → any_below n p ≡ false → (k : ℕ) → k < n → p k ≡ false
none_below n p e k h = not-true (p k) (λ t. differ (sym ((any_decides n p).1 (k, h, t)) ∙ e))

pub any_holds : (n : ℕ) (p : ℕ → Bool) (k : ℕ) → k < n → p k ≡ true → any_below n p ≡ true
any_holds n p k h t = (any_decides n p).1 (k, h, t)

-- what is found by one test on all bits, in place of one test on each
by_all : (n : ℕ) (p : ℕ → Bool) (P : ℕ → Type 0) (t : Bool) → ((k : ℕ) → Decides (not (p k)) (P k)) → Decides t ((k : ℕ) → k < n → P k) → not t ≡ any_below n p
by_all n p P true each d =
    sym (not-true (any_below n p) (λ e. let f = (any_decides n p).0 e in clash (p f.0) f.2 ((each f.0).1 (d.0 refl f.0 f.1))))
  where
    clash : (x : Bool) → x ≡ true → not x ≡ true → ⊥
    clash true e g = differ (sym g)
    clash false e g = differ (sym e)
by_all n p P false each d = by (any_below n p) refl
  where
    turned : (x : Bool) → x ≡ false → not x ≡ true
    turned true e = sym e
    turned false e = refl

    by : (x : Bool) → any_below n p ≡ x → true ≡ x
    by true e = refl
    by false e = sym (d.1 (λ k h. (each k).0 (turned (p k) (none_below n p e k h))))

not_and : (x y : Bool) → (not x || not y) ≡ not (x && y)
not_and true y = refl
not_and false y = refl

both_at : (a b : ℕ) → a < 2 → b < 2 → Decides (not (eqb a 1 && eqb b 1)) (b ≡ 1 → a ≡ 0)
both_at a b h k = (λ t e. grind (arith, nat_tests), λ f. grind (arith, nat_tests))

pub both_is : (l : Label) → l.yes < 2 ^ 8 → l.no < 2 ^ 8 → not (eqb (bit_and l.yes l.no) 0) ≡ both_ways l
both_is l h k =
    by_all 8 (λ i. wants_yes l i && wants_no l i) (λ i. WantsNo l i → bit l.yes i ≡ 0) (eqb (bit_and l.yes l.no) 0)
    (λ i. both_at (bit l.yes i) (bit l.no i) (omega arith) (omega arith)) (apart_is 8 l.yes l.no h k)

lacks_at : (a b c d : ℕ) → Decides (not ((eqb a 1 && not (eqb b 1)) || (eqb c 1 && not (eqb d 1)))) ((a ≡ 1 → b ≡ 1) × (c ≡ 1 → d ≡ 1))
lacks_at a b c d = (λ t. (λ e. grind (arith, nat_tests), λ e. grind (arith, nat_tests)), λ f. grind (arith, nat_tests, f.0, f.1))

pub lacks_is :
    (l m : Label)
    → l.yes < 2 ^ 8
    → l.no < 2 ^ 8
    → m.yes < 2 ^ 8
    → m.no < 2 ^ 8
    → (not (eqb (bit_and m.yes l.yes) m.yes) || not (eqb (bit_and m.no l.no) m.no)) ≡ lacks l m
lacks_is l m h k i j =
    let x = eqb (bit_and m.yes l.yes) m.yes in
    let y = eqb (bit_and m.no l.no) m.no in
    not_and x y
    ∙ by_all 8 (λ n. (wants_yes m n && not (wants_yes l n)) || (wants_no m n && not (wants_no l n)))
    (λ n. (WantsYes m n → WantsYes l n) × (WantsNo m n → WantsNo l n)) (x && y)
    (λ n. lacks_at (bit m.yes n) (bit l.yes n) (bit m.no n) (bit l.no n))
    (Decides-like (x && y) (λ p n q. (p.0 n q, p.1 n q)) (λ p. (λ n q. (p n q).0, λ n q. (p n q).1))
    (Decides-and x y (within_is 8 m.yes l.yes i h) (within_is 8 m.no l.no j k)))

exclude_at : (a b c d : ℕ) → a < 2 → c < 2 → Decides (not ((eqb a 1 && eqb b 1) || (eqb c 1 && eqb d 1))) ((b ≡ 1 → a ≡ 0) × (d ≡ 1 → c ≡ 0))
exclude_at a b c d h k = (λ t. (λ e. grind (arith, nat_tests), λ e. grind (arith, nat_tests)), λ f. grind (arith, nat_tests, f.0, f.1))

pub exclude_is :
    (l m : Label)
    → l.yes < 2 ^ 8
    → l.no < 2 ^ 8
    → m.yes < 2 ^ 8
    → m.no < 2 ^ 8
    → (not (eqb (bit_and l.yes m.no) 0) || not (eqb (bit_and l.no m.yes) 0)) ≡ exclude l m
exclude_is l m h k i j =
    let x = eqb (bit_and l.yes m.no) 0 in
    let y = eqb (bit_and l.no m.yes) 0 in
    not_and x y
    ∙ by_all 8 (λ n. (wants_yes l n && wants_no m n) || (wants_no l n && wants_yes m n))
    (λ n. (WantsNo m n → bit l.yes n ≡ 0) × (WantsYes m n → bit l.no n ≡ 0)) (x && y)
    (λ n. exclude_at (bit l.yes n) (bit m.no n) (bit l.no n) (bit m.yes n) (omega arith) (omega arith))
    (Decides-like (x && y) (λ p n q. (p.0 n q, p.1 n q)) (λ p. (λ n q. (p n q).0, λ n q. (p n q).1))
    (Decides-and x y (apart_is 8 l.yes m.no h j) (apart_is 8 l.no m.yes k i)))

pub names_is : (l : Label) (c : ℕ) → eqb (bit (bit_or l.yes l.no) c) 1 ≡ names l c
names_is l c = at (bit l.yes c) (bit l.no c) (bit (bit_or l.yes l.no) c) (omega arith) (omega arith) (bit-bit_or l.yes l.no c)
  where
    at : (a b m : ℕ) → a < 2 → b < 2 → m ≡ max a b → eqb m 1 ≡ (eqb a 1 || eqb b 1)
    at a b m h k e = grind (arith, nat_tests)

pub names_decides : (l : Label) (c : ℕ) → Decides (names l c) (Names l c)
names_decides l c = Decides-or (wants_yes l c) (wants_no l c) (Decides-eqb (bit l.yes c) 1) (Decides-eqb (bit l.no c) 1)

-- a label, as a byte for each set, names no check past the eighth
pub named_below : (l : Label) → l.yes < 2 ^ 8 → l.no < 2 ^ 8 → (c : ℕ) → Names l c → c < 8
named_below l h k c (inl w) = bit_below l.yes 8 c h w
named_below l h k c (inr w) = bit_below l.no 8 c k w

pub names_none : (l : Label) (c : ℕ) → l.yes < 2 ^ 8 → l.no < 2 ^ 8 → 8 ≤ c → names l c ≡ false
names_none l c h k past = not-true (names l c) (λ e. let m = named_below l h k c ((names_decides l c).0 e) in omega arith)

from_at : (m c k : ℕ) (t : Bool) → eqb m 1 ≡ t → Decides (not (t && leb c k)) (m ≡ 1 → k < c)
from_at m c k true e = (λ t h. grind (arith, nat_tests), λ f. grind (arith, nat_tests, f))
from_at m c k false e = (λ t h. grind (arith, nat_tests), λ f. refl)

pub from_is : (l : Label) (c : ℕ) → l.yes < 2 ^ 8 → l.no < 2 ^ 8 → not (eqb (bit_or l.yes l.no / 2 ^ c) 0) ≡ any_below 8 (λ k. names l k && leb c k)
from_is l c h k =
    by_all 8 (λ n. names l n && leb c n) (λ n. bit (bit_or l.yes l.no) n ≡ 1 → n < c) (eqb (bit_or l.yes l.no / 2 ^ c) 0)
    (λ n. from_at (bit (bit_or l.yes l.no) n) c n (names l n) (names_is l n)) (low_is 8 (bit_or l.yes l.no) c (or_lt 8 l.yes l.no h k))

-- a case meets a label, and a job is done in it
met_decides : (y n a : ℕ) → Decides (met y n a) ((y ≡ 1 → a ≡ 1) × (n ≡ 1 → a ≡ 0))
met_decides y n a =
    Decides-and (cond (eqb y 1) (eqb a 1) true) (cond (eqb n 1) (eqb a 0) true)
    (λ t h. grind (arith, nat_tests), λ f. grind (arith, nat_tests)) (λ t h. grind (arith, nat_tests), λ f. grind (arith, nat_tests))

pub met_by_decides : (l : Label) (s : ℕ) → Decides (met_by l s) (Meets l s)
met_by_decides l s =
    let p : ℕ → Bool = λ k. met (bit l.yes k) (bit l.no k) (bit s k) in
    Decides-below_and p (λ k. (WantsYes l k → bit s k ≡ 1) × (WantsNo l k → bit s k ≡ 0)) (λ n. all_below n p)
    (λ k. met_decides (bit l.yes k) (bit l.no k) (bit s k)) refl (λ _. refl) 8

pub done_decides : (b : Plain) (s j : ℕ) → Decides (done b s j) (Done b s j)
done_decides b s j = met_by_decides (job b j).label s

pub dec_done : (b : Plain) (s j : ℕ) → Dec (Done b s j)
dec_done b s j = dec_of (done b s j) (done_decides b s j)

pub exclude_decides : (l m : Label) → Decides (exclude l m) (Exclude l m)
exclude_decides l m =
    let p : ℕ → Bool = λ k. (wants_yes l k && wants_no m k) || (wants_no l k && wants_yes m k) in
    Decides-below_or p (λ k. (WantsYes l k × WantsNo m k) ⊎ (WantsNo l k × WantsYes m k)) (λ n. any_below n p)
    (λ k.
    Decides-or (wants_yes l k && wants_no m k) (wants_no l k && wants_yes m k)
    (Decides-and (wants_yes l k) (wants_no m k) (Decides-eqb (bit l.yes k) 1) (Decides-eqb (bit m.no k) 1))
    (Decides-and (wants_no l k) (wants_yes m k) (Decides-eqb (bit l.no k) 1) (Decides-eqb (bit m.yes k) 1)))
    refl (λ _. refl) 8
