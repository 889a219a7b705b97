-- Every lawful log keeps the law, and a log at its end is whole.
use Rattle.std.proofs.Common.{◌≡◌, ℕ, ◌<◌, ◌⊎◌, List, [], ◌∷◌, ◌++◌, length, sym, refl, subst, inl, inr, arith}
use native.Mathlib.Decide.{ℕ_discrete}
use Rattle.book.specs.Labels.{bit}
use Rattle.book.specs.Plain.{Plain, Done}
use Rattle.book.proofs.Bits.{bit-bit_or}
use Rattle.grades.specs.Grades.{Minutes}
use Rattle.walks.specs.declared.parts.Telling.{Telling}
use Rattle.walks.specs.declared.parts.Event.{Event}
use Rattle.walks.specs.declared.parts.Event.TheVariants.{Told, Reported}
use Rattle.walks.specs.Logs.{Has, ToldAt, Agreeing, all_told, Lawful, Tells, Ended}
use Rattle.walks.specs.Law.{Was, Next, Law, Whole, LawfulKeepLaw, EndedAreWhole}
use Rattle.walks.specs.Standing.{yes_set}
use Rattle.walks.proofs.Sets.{some_bit, bit_of_none}
use Rattle.walks.proofs.Reports.{yes_agreeing, told_heard}
use Rattle.walks.proofs.Exact.{up_time, exact, past_all}

told_dec : (log : List Event) (j v : ℕ) → Dec (ToldAt log j v)
told_dec [] j v = no (λ h. h)
told_dec (Reported r ∷ log) j v = told_dec log j v
told_dec (Told t ∷ log) j v = by (ℕ_discrete (bit t.jobs j) 1) (ℕ_discrete t.minute v) (told_dec log j v)
  where
    by : Dec (Has t.jobs j) → Dec (t.minute ≡ v) → Dec (ToldAt log j v) → Dec ((Has t.jobs j × (t.minute ≡ v)) ⊎ ToldAt log j v)
    by x y (yes k) = yes (inr k)
    by (yes h) (yes e) (no n) = yes (inl (h, e))
    by (no h) y (no n) = no (λ k. elim k [ inl p ↦ h p.0 | inr p ↦ n p ])
    by (yes h) (no e) (no n) = no (λ k. elim k [ inl p ↦ e p.1 | inr p ↦ n p ])

-- the set of all jobs told is what it says
pub all_in : (log : List Event) (j v : ℕ) → ToldAt log j v → Has (all_told log) j
all_in [] j v h = absurd h
all_in (Reported r ∷ log) j v h = all_in log j v h
all_in (Told t ∷ log) j v (inl p) = let o = bit-bit_or (all_told log) t.jobs j in let e = p.0 in omega arith
all_in (Told t ∷ log) j v (inr p) = let o = bit-bit_or (all_told log) t.jobs j in let e = all_in log j v p in omega arith

pub in_all : (log : List Event) (j : ℕ) → Has (all_told log) j → (v : ℕ) × ToldAt log j v
in_all [] j h = absurd (omega (arith, bit_of_none j))
in_all (Reported r ∷ log) j h = in_all log j h
in_all (Told t ∷ log) j h = by (ℕ_discrete (bit t.jobs j) 1) (in_all log j)
  where
    by : Dec (Has t.jobs j) → (Has (all_told log) j → (v : ℕ) × ToldAt log j v) → (v : ℕ) × ((Has t.jobs j × (t.minute ≡ v)) ⊎ ToldAt log j v)
    by (yes e) f = (t.minute, inl (e, refl))
    by (no n) f =
        let o = bit-bit_or (all_told log) t.jobs j in
        let z : bit t.jobs j ≡ 0 = grind arith in
        let r = f (omega arith) in
        (r.0, inr r.1)

module _ (b : Plain) (minute : Minutes) where
  -- a log was lawful at every time
  lawful_was : (later then : List Event) → Lawful b minute (later ++ then) → Lawful b minute then
  lawful_was [] then l = l
  lawful_was (e ∷ later) then l = lawful_was later then l.0

  was : (then log : List Event) → Was then log → Lawful b minute log → Lawful b minute then
  was then log w l = lawful_was w.0 then (subst (λ x. Lawful b minute x) (sym w.1) l)

  next_of : (log : List Event) → Lawful b minute log → (t : Telling) → Tells b minute log t → Next b minute log t.minute
  next_of log l t tells =
      let one = some_bit t.jobs tells.some in
      let agrees = yes_agreeing b minute log l in
      let left = (tells.exactly (yes_set log) agrees one.0).0 one.1 in
      record { some = (yes_set log, one.0, agrees, left.0, left.1); least = tells.next }

  law : (log : List Event) → Lawful b minute log → Law b minute log
  law log l = record {
    right = l;
    agreeing = (yes_set log, yes_agreeing b minute log l);
    next = λ t then w. let k = was (Told t ∷ then) log w l in (next_of then k.0 t k.1.1, some_bit t.jobs k.1.1.some);
    rises = λ t then w j v h.
        let k = was (Told t ∷ then) log w l in
        let p = past_all b minute then k.0 t k.1.1 in
        let x = (exact b minute then k.0 (yes_set then) (yes_agreeing b minute then k.0) j v).0 h in
        let u = up_time then v x.1 in
        omega arith;
    once = λ t then w j v h p.
        let k = was (Told t ∷ then) log w l in
        ((k.1.1.exactly (yes_set then) (yes_agreeing b minute then k.0) j).0 h).0.2 v p;
    exact = λ then w. exact b minute then (was then log w l);
    reported = λ then w none c v h t. told_heard b minute then (was then log w l) none c v h t;
  }

  whole : (log : List Event) → Lawful b minute log → Ended b log → (s : ℕ) → Agreeing b log s → Whole b minute log s
  whole log l end s a = record {
    told = told;
    all = λ j. (
      λ h. let k = in_all log j h in let x = (exact b minute log l s a j k.0).0 k.1 in (x.0.0, x.0.1),
      λ h. all_in log j (minute s j) (told j h.0 h.1),
    );
  }
    where
      told : (j : ℕ) → j < length b.jobs → Done b s j → ToldAt log j (minute s j)
      told j h d = by (told_dec log j (minute s j))
        where
          by : Dec (ToldAt log j (minute s j)) → ToldAt log j (minute s j)
          by (yes k) = k
          by (no n) =
              absurd (end.none_left s a j (h, d, λ v p. let x = (exact b minute log l s a j v).0 p in n (subst (λ w. ToldAt log j w) (sym x.0.2) p)))

pub lawful_keep_law : LawfulKeepLaw
lawful_keep_law b minute log l = law b minute log l

pub ended_are_whole : EndedAreWhole
ended_are_whole b minute log l end s a = whole b minute log l end s a
