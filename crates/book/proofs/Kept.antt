-- The plain book stays sound, call by call.
use Rattle.std.proofs.Common.{◌≡◌, ℕ, ◌+◌, ◌^◌, ◌<◌, ◌≤◌, Bool, true, false, ◌||◌, eqb, leb, List, [], ◌∷◌, ◌++◌, length, get_or, ℤ, pos}
use Rattle.std.proofs.Common.{neg_ℤ, nat_abs, ◌≤ℤ◌, Some, None, Option, sym, refl, ◌∙◌, subst, inl, inr, arith}
use native.Mathlib.Decide.{dec_lt}
use Rattle.std.specs.List.{remove}
use Rattle.std.proofs.lemmas.List.{get_or_append_left, get_or_push, length_push}
use Rattle.std.proofs.lemmas.List.Edits.{length-remove, get_or-remove_below, get_or-remove_above}
use Rattle.std.proofs.lemmas.Int.{ints}
use Rattle.std.proofs.lemmas.Bool.Decides.{nat_tests}
use Rattle.book.specs.declared.parts.Label.{Label}
use Rattle.book.specs.declared.parts.Bound.{Bound}
use Rattle.book.specs.declared.parts.Refusal.{Refusal}
use Rattle.book.specs.Labels.{Names}
use Rattle.book.specs.Plain.{Plain, job, checks, asking, no_bound, new_book, empty_label, exclude, with_job, with_bound}
use Rattle.book.specs.Plain.{without_bound, unless}
use Rattle.book.specs.Plain.{add_job, add_check, add_bound, withdraw, job_refusal, check_refusal, bound_refusal, withdraw_refusal}
use Rattle.book.specs.Sound.{Sound, SoundJob, SoundBound}
use Rattle.book.proofs.Bits.{bit_none}
use Rattle.book.proofs.Tests.{differ, exclude_decides}
use Rattle.book.proofs.Rows.{none_applies}
use Rattle.book.proofs.Refused.{Taken, job_taken, check_taken, label_known, label_one_way, label_parts, label_contains}
use Rattle.book.proofs.Checks.{one_if_check}
use Rattle.book.proofs.Grown.{Fits, grown_sound}

-- the empty label names nothing
pub names_nothing : (c : ℕ) → Names empty_label c → ⊥
names_nothing c (inl w) = let e = bit_none c in omega arith
names_nothing c (inr w) = let e = bit_none c in omega arith

start_sound : SoundJob new_book 0
start_sound = record {
  counted = λ c e. let z : ◌≡◌ {A = ℕ} 0 1 = cc in absurd (omega arith);
  known = λ c n. absurd (names_nothing c n);
  one_way = λ c v w. names_nothing c (inl v);
  whole = λ c n. absurd (names_nothing c n);
}

pub new_sound : Sound new_book
new_sound = record {
  some = omega arith;
  few_jobs = omega arith;
  few_checks = omega arith;
  few_bounds = omega arith;
  start_free = refl;
  start_asks_nothing = refl;
  asked = λ c h. absurd (omega arith);
  in_order = λ c d h k. absurd (omega arith);
  each_job = λ j h. let e : 0 ≡ j = omega arith in subst (SoundJob new_book) e start_sound;
  each_bound = λ i h. absurd (omega arith);
}

fitting :
    (b : Plain) (l : Label) (o : Option ℕ)
    → l.yes < 2 ^ 8
    → l.no < 2 ^ 8
    → Sound b
    → Taken b l
    → checks b + one_if_check o ≤ 4
    → ((c : ℕ) → o ≡ Some c → c ≡ checks b)
    → Fits b l o
fitting b l o h k sound t few fresh = record {
  room = t.room;
  few = few;
  fresh = fresh;
  known = known;
  one_way = label_one_way b l h k t.one_way;
  whole = λ c n.
      label_contains l (job b (asking b c)).label
      (λ i m. let s = ((sound.each_job (asking b c) (sound.asked c (known c n)).0).known i m).0 in omega (arith, sound.few_checks))
      (label_parts b l h k t.whole c n);
}
  where
    known : (c : ℕ) → Names l c → c < checks b
    known = label_known b l h k t.known

pub add_job_keeps : (b : Plain) (l : Label) → l.yes < 2 ^ 8 → l.no < 2 ^ 8 → Sound b → Sound (add_job b l).after
add_job_keeps b l h k sound = by (job_refusal b l) refl
  where
    by : (o : Option Refusal) → job_refusal b l ≡ o → Sound (unless o (length b.jobs) (with_job b (record { label = l; check = None })) b).after
    by None e =
        grown_sound b l None sound
        (fitting b l None h k sound (job_taken b l e) (omega (arith, sound.few_checks)) (λ c q. let z : ◌≡◌ {A = ℕ} 0 1 = cc in absurd (omega arith)))
    by (Some r) e = sound

pub add_check_keeps : (b : Plain) (l : Label) → l.yes < 2 ^ 8 → l.no < 2 ^ 8 → Sound b → Sound (add_check b l).after
add_check_keeps b l h k sound = by (check_refusal b l) refl
  where
    by :
        (o : Option Refusal)
        → check_refusal b l ≡ o
        → Sound (unless o (length b.jobs) (with_job b (record { label = l; check = Some (checks b) })) b).after
    by None e =
        let t = check_taken b l e in
        grown_sound b l (Some (checks b)) sound (fitting b l (Some (checks b)) h k sound t.0 (omega (arith, t.1)) (λ c q. cc))
    by (Some r) e = sound

-- other bounds, the same jobs
kept_job : (b : Plain) (bs : List Bound) (j : ℕ) → SoundJob b j → SoundJob (record { jobs = b.jobs; bounds = bs }) j
kept_job b bs j s = record { counted = s.counted; known = s.known; one_way = s.one_way; whole = s.whole }

kept_bound : (b : Plain) (bs : List Bound) (m : Bound) → SoundBound b m → SoundBound (record { jobs = b.jobs; bounds = bs }) m
kept_bound b bs m s = record { first_in = s.first_in; second_in = s.second_in; low = s.low; high = s.high; two = s.two; together = s.together }

pub other_bounds :
    (b : Plain) (bs : List Bound)
    → Sound b
    → length bs ≤ 64
    → ((i : ℕ) → i < length bs → SoundBound b (get_or bs i no_bound))
    → Sound (record { jobs = b.jobs; bounds = bs })
other_bounds b bs s few each = record {
  some = s.some;
  few_jobs = s.few_jobs;
  few_checks = s.few_checks;
  few_bounds = few;
  start_free = s.start_free;
  start_asks_nothing = s.start_asks_nothing;
  asked = s.asked;
  in_order = s.in_order;
  each_job = λ j h. kept_job b bs j (s.each_job j h);
  each_bound = λ i h. kept_bound b bs (get_or bs i no_bound) (each i h);
}

or_false : (x y : Bool) → (x || y) ≡ false → (x ≡ false) × (y ≡ false)
or_false true y e = absurd (differ e)
or_false false y e = (refl, e)

minutes_low : (m : ℤ) → nat_abs m ≤ 4320 → neg_ℤ (pos 4320) ≤ℤ m
minutes_low m h = omega (arith, ints)

minutes_high : (m : ℤ) → nat_abs m ≤ 4320 → m ≤ℤ pos 4320
minutes_high m h = omega (arith, ints)

-- a bound that is taken is sound, and there is room for it
pub bound_taken : (b : Plain) (l : Bound) → bound_refusal b l ≡ None → SoundBound b l × (length b.bounds < 64)
bound_taken b l e =
    let p = none_applies (leb (length b.jobs) l.first || leb (length b.jobs) l.second) _ _ e in
    let q = none_applies (leb 4321 (nat_abs l.minutes)) _ _ p.1 in
    let r = none_applies (eqb l.first l.second) _ _ q.1 in
    let s = none_applies (exclude (job b l.first).label (job b l.second).label) _ _ r.1 in
    let t = none_applies (leb 64 (length b.bounds)) _ _ s.1 in
    let u = or_false (leb (length b.jobs) l.first) (leb (length b.jobs) l.second) p.0 in
    let u0 : leb (length b.jobs) l.first ≡ false = u.0 in
    let u1 : leb (length b.jobs) l.second ≡ false = u.1 in
    let q0 : leb 4321 (nat_abs l.minutes) ≡ false = q.0 in
    let r0 : eqb l.first l.second ≡ false = r.0 in
    let t0 : leb 64 (length b.bounds) ≡ false = t.0 in
    let small : nat_abs l.minutes ≤ 4320 = grind (arith, nat_tests) in (
      record {
        first_in = grind (arith, nat_tests);
        second_in = grind (arith, nat_tests);
        low = minutes_low l.minutes small;
        high = minutes_high l.minutes small;
        two = λ z. grind (arith, nat_tests);
        together = λ x. differ (sym ((exclude_decides (job b l.first).label (job b l.second).label).1 x) ∙ s.0);
      },
      grind (arith, nat_tests),
    )

pub add_bound_keeps : (b : Plain) (l : Bound) → Sound b → Sound (add_bound b l).after
add_bound_keeps b l sound = by (bound_refusal b l) refl
  where
    by : (o : Option Refusal) → bound_refusal b l ≡ o → Sound (unless o (length b.bounds) (with_bound b l) b).after
    by None e =
        let t = bound_taken b l e in
        let n = length_push b.bounds l in
        other_bounds b (b.bounds ++ l ∷ []) sound (omega (arith, t.1))
        (λ i h. elim (dec_lt i (length b.bounds)) [
          | yes k ↦ subst (SoundBound b) (sym (get_or_append_left b.bounds (l ∷ []) no_bound i k)) (sound.each_bound i k)
          | no k ↦ let z : length b.bounds ≡ i = omega arith in subst (SoundBound b) (sym (get_or_push b.bounds l no_bound i z)) t.0
        ])
    by (Some r) e = sound

pub withdraw_keeps : (b : Plain) (n : ℕ) → Sound b → Sound (withdraw b n).after
withdraw_keeps b n sound = by (withdraw_refusal b n) refl
  where
    by : (o : Option Refusal) → withdraw_refusal b n ≡ o → Sound (unless {A = Unit {0}} o tt (without_bound b n) b).after
    by None e =
        let p = none_applies (leb (length b.bounds) n) _ _ e in
        let p0 : leb (length b.bounds) n ≡ false = p.0 in
        let h : n < length b.bounds = grind (arith, nat_tests) in
        let m = length-remove b.bounds n h in
        other_bounds b (remove b.bounds n) sound (omega (arith, sound.few_bounds))
        (λ i k. elim (dec_lt i n) [
          | yes l ↦ subst (SoundBound b) (sym (get_or-remove_below b.bounds n no_bound i l h)) (sound.each_bound i (omega arith))
          | no l ↦ subst (SoundBound b) (sym (get_or-remove_above b.bounds n no_bound i (omega arith) h)) (sound.each_bound (i + 1) (omega arith))
        ])
    by (Some r) e = sound
