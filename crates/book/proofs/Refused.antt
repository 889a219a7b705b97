-- What is known of a label, or of a bound, that no row refuses.
use Rattle.std.proofs.Common.{◌≡◌, ℕ, ◌^◌, ◌<◌, Bool, true, false, not, ◌&&◌, ◌||◌, eqb, leb, length, None, sym, inl, inr, arith}
use Rattle.std.proofs.lemmas.Bool.Decides.{nat_tests}
use Rattle.book.specs.declared.parts.Label.{Label}
use Rattle.book.specs.Labels.{bit, Names, WantsYes, WantsNo, Contains, names, wants_yes, wants_no}
use Rattle.book.specs.Plain.{Plain, checks, job, asking, names_unknown, both_ways, lacks, part_missing, full_jobs, job_refusal, check_refusal}
use Rattle.book.proofs.Rows.{none_applies}
use Rattle.book.proofs.Tests.{none_below, named_below, names_decides, differ}

pub and_left_false : (x y : Bool) → x ≡ true → (x && y) ≡ false → y ≡ false
and_left_false true y h e = e
and_left_false false y h e = absurd (differ (sym h))

module _ (b : Plain) (l : Label) (small_yes : l.yes < 2 ^ 8) (small_no : l.no < 2 ^ 8) where
  pub label_known : names_unknown b l ≡ false → (c : ℕ) → Names l c → c < checks b
  label_known e c n =
      let f = none_below 8 (λ k. names l k && leb (checks b) k) e c (named_below l small_yes small_no c n) in
      let g : leb (checks b) c ≡ false = and_left_false (names l c) (leb (checks b) c) ((names_decides l c).1 n) f in
      grind (arith, nat_tests)

  pub label_one_way : both_ways l ≡ false → (c : ℕ) → WantsYes l c → WantsNo l c → ⊥
  label_one_way e c y n =
      let f = none_below 8 (λ k. wants_yes l k && wants_no l k) e c (named_below l small_yes small_no c (inl y)) in
      at (bit l.yes c) (bit l.no c) f y n
    where
      at : (v w : ℕ) → (eqb v 1 && eqb w 1) ≡ false → v ≡ 1 → w ≡ 1 → ⊥
      at v w f y n = grind (arith, nat_tests)

  pub label_parts : part_missing b l ≡ false → (c : ℕ) → Names l c → lacks l (job b (asking b c)).label ≡ false
  unfolding part_missing
  label_parts e c n =
      and_left_false (names l c) (lacks l (job b (asking b c)).label) ((names_decides l c).1 n)
      (none_below 8 (λ k. names l k && lacks l (job b (asking b k)).label) e c (named_below l small_yes small_no c n))

part_at : (v w x y : ℕ) → ((eqb v 1 && not (eqb w 1)) || (eqb x 1 && not (eqb y 1))) ≡ false → (v ≡ 1 → w ≡ 1) × (x ≡ 1 → y ≡ 1)
part_at v w x y e = (λ h. grind (arith, nat_tests), λ h. grind (arith, nat_tests))

-- a label that lacks nothing of another contains it
pub label_contains : (l m : Label) → ((k : ℕ) → Names m k → k < 8) → lacks l m ≡ false → Contains l m
label_contains l m small e k = (λ w. (at (small k (inl w))).0 w, λ w. (at (small k (inr w))).1 w)
  where
    at : k < 8 → (WantsYes m k → WantsYes l k) × (WantsNo m k → WantsNo l k)
    at h =
        part_at (bit m.yes k) (bit l.yes k) (bit m.no k) (bit l.no k)
        (none_below 8 (λ i. (wants_yes m i && not (wants_yes l i)) || (wants_no m i && not (wants_no l i))) e k h)

-- a job, or a check, that is taken
pub record Taken (b : Plain) (l : Label) : Type 0 where
  pub room : length b.jobs < 20
  pub known : names_unknown b l ≡ false
  pub one_way : both_ways l ≡ false
  pub whole : part_missing b l ≡ false

pub job_taken : (b : Plain) (l : Label) → job_refusal b l ≡ None → Taken b l
job_taken b l e =
    let p = none_applies (full_jobs b) _ _ e in
    let q = none_applies (names_unknown b l) _ _ p.1 in
    let r = none_applies (both_ways l) _ _ q.1 in
    let s = none_applies (part_missing b l) _ _ r.1 in
    let f = p.0 in
    record { room = grind (arith, nat_tests); known = q.0; one_way = r.0; whole = s.0 }

pub check_taken : (b : Plain) (l : Label) → check_refusal b l ≡ None → Taken b l × (checks b < 4)
check_taken b l e =
    let p = none_applies (full_jobs b) _ _ e in
    let o = none_applies (leb 4 (checks b)) _ _ p.1 in
    let q = none_applies (names_unknown b l) _ _ o.1 in
    let r = none_applies (both_ways l) _ _ q.1 in
    let s = none_applies (part_missing b l) _ _ r.1 in
    let f = p.0 in
    let g = o.0 in
    (record { room = grind (arith, nat_tests); known = q.0; one_way = r.0; whole = s.0 }, grind (arith, nat_tests))
