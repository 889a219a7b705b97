-- The minutes of a row, and one job more of a row.
use Rattle.std.proofs.Common.{◌≡◌, ℕ, zero, suc, ◌+◌, ◌*◌, ◌%◌, ◌^◌, ◌<◌, ◌≤◌, Bool, true, false, cond, List, [], ◌∷◌, length, ℤ}
use Rattle.std.proofs.Common.{Some, None, Option, nat_le, sym, refl, subst, arith, leb-true}
use Rattle.std.proofs.lemmas.Bool.Decides.{nat_tests}
use native.Mathlib.Decide.{ℕ_discrete}
use Rattle.std.specs.List.{All, Contains, filter, filter_map, cons_option}
use Rattle.std.proofs.lemmas.List.Elements.{All-nil, All-cons, All-weaker, All-filter, All-contains, Contains-append_right, filter_passes}
use lib.Bits.{bit_or}
use Rattle.std.proofs.lemmas.Nat.{one_shl}
use Rattle.book.specs.Labels.{bit}
use Rattle.book.proofs.Bits.{bit-bit_or}
use Rattle.walks.specs.Logs.{Has}
use Rattle.walks.proofs.Sets.{bit_same, bit_other}
use Rattle.walks.specs.Rows.{natural, Shows, minutes_from, JobsBelow}

-- what is kept of a list stays where something is put before it
kept : (test : ℕ → Bool) (o : Option ℕ) (vs : List ℕ) (v : ℕ) → Contains (filter test vs) v → Contains (filter test (cons_option o vs)) v
kept test None vs v h = h
kept test (Some w) vs v h = by (test w)
  where
    by : (t : Bool) → Contains (cond t (w ∷ filter test vs) (filter test vs)) v
    by true = Contains-append_right (w ∷ []) (filter test vs) v h
    by false = h

module _ (from : ℕ) where
  -- a minute that a job of the row shows is among its minutes, where it is late enough
  pub shown_in : (row : List ℤ) (j v : ℕ) → j < length row → Shows row j v → from ≤ v → Contains (minutes_from row from) v
  shown_in [] j v l s k = absurd (omega arith)
  shown_in (z ∷ row) zero v l s k =
      let t : nat_le from v ≡ true = grind (arith, nat_tests) in
      subst (λ o. Contains (filter (λ w. nat_le from w) (cons_option o (filter_map natural row))) v) (sym s)
      (subst (λ b. Contains (cond b (v ∷ minutes_from row from) (minutes_from row from)) v) (sym t) (0, omega arith, refl))
  shown_in (z ∷ row) (suc j) v l s k =
      kept (λ w. nat_le from w) (natural z) (filter_map natural row) v (shown_in row j v (omega arith) s k)

-- minute m is shown by some job of the row
abbrev Shown : List ℤ → ℕ → Type 0
Shown row m = (j : ℕ) × (j < length row) × Shows row j m

shown_more : (z : ℤ) (row : List ℤ) (o : Option ℕ) → natural z ≡ o → All (Shown row) (filter_map natural row) →
    All (Shown (z ∷ row)) (cons_option o (filter_map natural row))
shown_more z row o e h = by o e
  where
    rest : All (Shown (z ∷ row)) (filter_map natural row)
    rest = All-weaker (Shown row) (Shown (z ∷ row)) (λ m k. (suc k.0, omega (arith, k.1), k.2)) (filter_map natural row) h

    by : (o : Option ℕ) → natural z ≡ o → All (Shown (z ∷ row)) (cons_option o (filter_map natural row))
    by None e = rest
    by (Some v) e = All-cons (Shown (z ∷ row)) v (filter_map natural row) (0, omega arith, e) rest

each_shown : (row : List ℤ) → All (Shown row) (filter_map natural row)
each_shown [] = All-nil (Shown [])
each_shown (z ∷ row) = shown_more z row (natural z) refl (each_shown row)

-- a minute among those of a row is late enough, and is shown by one of its jobs
pub in_shown : (row : List ℤ) (from m : ℕ) → Contains (minutes_from row from) m →
    (from ≤ m) × ((j : ℕ) × (j < length row) × Shows row j m)
in_shown row from m h =
    let late = All-contains (λ v. nat_le from v ≡ true) (minutes_from row from) m (filter_passes (λ v. nat_le from v) (filter_map natural row)) h in
    let shown = All-filter (λ v. nat_le from v) (Shown row) (filter_map natural row) (each_shown row) in
    (leb-true from m late, All-contains (Shown row) (minutes_from row from) m shown h)

module _ (row : List ℤ) (minute n jobs : ℕ) (h : JobsBelow row minute n jobs) where
  -- job n is due, and joins the set
  pub jobs_more : n < 32 → Shows row n minute → JobsBelow row minute (n + 1) (bit_or jobs ((1 * 2 ^ n) % 2 ^ 32))
  jobs_more l s = rw (one_shl n 32 l) (λ j. (there j (ℕ_discrete j n), back j (ℕ_discrete j n)))
    where
      there : (j : ℕ) → Dec (j ≡ n) → Has (bit_or jobs (2 ^ n)) j → (j < n + 1) × Shows row j minute
      there j (yes e) p = (omega arith, subst (λ k. Shows row k minute) (sym e) s)
      there j (no e) p = let o = bit-bit_or jobs (2 ^ n) j in let z = bit_other n j e in let r = (h j).0 (omega arith) in (omega (arith, r.0), r.1)

      back : (j : ℕ) → Dec (j ≡ n) → (j < n + 1) × Shows row j minute → Has (bit_or jobs (2 ^ n)) j
      back j (yes e) p = let o = bit-bit_or jobs (2 ^ n) j in let z : bit (2 ^ n) j ≡ 1 = subst (λ k. bit (2 ^ n) k ≡ 1) (sym e) (bit_same n) in omega arith
      back j (no e) p = let o = bit-bit_or jobs (2 ^ n) j in let r = (h j).1 (omega (arith, p.0), p.1) in omega arith

  -- job n is not due
  pub jobs_same : (Shows row n minute → ⊥) → JobsBelow row minute (n + 1) jobs
  jobs_same s = λ j. (λ p. let r = (h j).0 p in (omega (arith, r.0), r.1), λ p. (h j).1 (by j (ℕ_discrete j n) p.0 p.1, p.1))
    where
      by : (j : ℕ) → Dec (j ≡ n) → j < n + 1 → Shows row j minute → j < n
      by j (yes e) l p = absurd (s (subst (λ k. Shows row k minute) e p))
      by j (no e) l p = omega arith
