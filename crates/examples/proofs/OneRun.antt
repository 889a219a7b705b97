-- The plan's sheet leads to two runs and no other, one for each report.
use Rattle.std.proofs.Common.{◌≡◌, ℕ, zero, suc, ◌+◌, ◌^◌, ◌<◌, ◌≤◌, Bool, true, false, ◌⊎◌, ◌↔◌, List, [], ◌∷◌, refl, subst, ap₂, inl, inr}
use Rattle.std.proofs.Common.{pow-suc, arith, pow_mono}
use native.Mathlib.Decide.{ℕ_discrete}
use Rattle.book.specs.Labels.{bit}
use Rattle.book.specs.Plain.{Plain}
use Rattle.book.proofs.Bits.{bit_lt, same_bits}
use Rattle.grades.specs.Grades.{Minutes}
use Rattle.walks.specs.declared.parts.Telling.{Telling}
use Rattle.walks.specs.declared.parts.Event.{Event}
use Rattle.walks.specs.declared.parts.Event.TheVariants.{Told, Reported}
use Rattle.walks.specs.Logs.{Agreeing, Tells, Right, Lawful, Ended}
use Rattle.walks.proofs.Sets.{some_bit}
use Rattle.examples.specs.Plans.{start, wet, pump, grout, seal, wet_hole, timetable}
use Rattle.examples.specs.Worked.{told, reported, dry_run, wet_run}
use Rattle.examples.proofs.Logs.{left, tells, none_awaited_by_test, awaited_decides, left_decides, tells_by_test, ended_by_test}

-- sets with the same members are the same
below_power : (x : ℕ) → x < 2 ^ x
below_power zero = omega arith
below_power (suc x) = omega (arith, below_power x, pow-suc 2 x)

same_set : (x y : ℕ) → ((j : ℕ) → (bit x j ≡ 1) ↔ (bit y j ≡ 1)) → x ≡ y
same_set x y f = same_bits (x + y) x y (low x (omega arith)) (low y (omega arith)) (λ k _. by k (ℕ_discrete (bit x k) 1) (ℕ_discrete (bit y k) 1))
  where
    low : (z : ℕ) → z ≤ x + y → z < 2 ^ (x + y)
    low z h = let p : 2 ^ z ≤ 2 ^ (x + y) = pow_mono h in omega (arith, below_power z)

    by : (k : ℕ) → Dec (bit x k ≡ 1) → Dec (bit y k ≡ 1) → bit x k ≡ bit y k
    by k (yes p) (yes q) = omega arith
    by k (yes p) (no q) = absurd (q ((f k).0 p))
    by k (no p) (yes q) = absurd (p ((f k).1 q))
    by k (no p) (no q) = let g = bit_lt x k in let h = bit_lt y k in omega arith

-- at most one telling is right
no_earlier : (b : Plain) (minute : Minutes) (log : List Event) (s : ℕ) → Agreeing b log s → (t u : Telling) →
    Tells b minute log t → Tells b minute log u → u.minute ≤ t.minute
no_earlier b minute log s a t u p q =
    let (j, h) = some_bit t.jobs p.some in
    let (l, e) = (p.exactly s a j).0 h in
    let n = q.next s a j l in
    omega arith

-- a telling by its parts
abbrev telling : ℕ → ℕ → Telling
telling minute jobs = record { minute = minute; jobs = jobs }

one_telling : (b : Plain) (minute : Minutes) (log : List Event) (s : ℕ) → Agreeing b log s → (t u : Telling) →
    Tells b minute log t → Tells b minute log u → t ≡ u
one_telling b minute log s a t u p q =
    let m : t.minute ≡ u.minute = omega (arith, no_earlier b minute log s a t u p q, no_earlier b minute log s a u t q p) in
    let j : t.jobs ≡ u.jobs =
    same_set t.jobs u.jobs (λ k. (
      λ h. let (l, e) = (p.exactly s a k).0 h in (q.exactly s a k).1 (l, cc),
      λ h. let (l, e) = (q.exactly s a k).0 h in (p.exactly s a k).1 (l, cc),
    )) in
    ap₂ telling m j

-- how far a run has come
data Stage : List Event → Type 0 where
  unbegun : Stage []
  begun : Stage (told 0 (2 ^ start) ∷ [])
  asks : Stage (told 60 (2 ^ wet) ∷ told 0 (2 ^ start) ∷ [])
  said : (outcome : Bool) → Stage (reported outcome ∷ told 60 (2 ^ wet) ∷ told 0 (2 ^ start) ∷ [])
  pumped : Stage (told 65 (2 ^ pump) ∷ reported true ∷ told 60 (2 ^ wet) ∷ told 0 (2 ^ start) ∷ [])
  dry_end : Stage dry_run
  wet_end : Stage wet_run

abbrev sheet : Minutes
sheet = timetable 61 61

-- a telling that is right is the one that the next stage has
tell : (log : List Event) (minute jobs s : ℕ) → Agreeing wet_hole log s → tells wet_hole sheet log (telling minute jobs) ≡ true →
    Stage (told minute jobs ∷ log) → (t : Telling) → Tells wet_hole sheet log t → Stage (Told t ∷ log)
tell log minute jobs s a e n t q =
    let u = telling minute jobs in
    subst (λ (x : Telling). Stage (Told x ∷ log)) (one_telling wet_hole sheet log s a u t (tells_by_test wet_hole sheet log u e) q) n

-- with no job left no telling is right
told_none : (log : List Event) (s : ℕ) → Agreeing wet_hole log s → Ended wet_hole log → (t : Telling) → Tells wet_hole sheet log t → ⊥
told_none log s a e t q =
    let (j, h) = some_bit t.jobs q.some in
    e.none_left s a j ((q.exactly s a j).0 h).0

-- the check that is asked is the only one
answered : (log : List Event) (c : ℕ) (outcome : Bool) → c < 1 → ((o : Bool) → Stage (reported o ∷ log)) →
    Stage (Reported (record { check = c; yes = outcome }) ∷ log)
answered log zero outcome h n = n outcome
answered log (suc c) outcome h n = absurd (omega arith)

next : (log : List Event) (e : Event) → Stage log → Right wet_hole sheet log e → Stage (e ∷ log)
next log (Told t) unbegun (_, q) = tell [] 0 (2 ^ start) 0 (omega arith, tt) refl begun t q
next log (Told t) begun (_, q) = tell (told 0 (2 ^ start) ∷ []) 60 (2 ^ wet) 0 (omega arith, tt) refl asks t q
next log (Told t) asks (n, _) = absurd (n 0 ((awaited_decides wet_hole log 0).0 refl))
next log (Told t) (said false) (_, q) = tell log 61 (2 ^ grout + 2 ^ seal) 0 (omega arith, (refl, tt)) refl dry_end t q
next log (Told t) (said true) (_, q) = tell log 65 (2 ^ pump) 1 (omega arith, (refl, tt)) refl pumped t q
next log (Told t) pumped (_, q) = tell log 155 (2 ^ grout) 1 (omega arith, (refl, tt)) refl wet_end t q
next log (Told t) dry_end (_, q) = absurd (told_none dry_run 0 (omega arith, (refl, tt)) (ended_by_test wet_hole dry_run refl refl) t q)
next log (Told t) wet_end (_, q) = absurd (told_none wet_run 1 (omega arith, (refl, tt)) (ended_by_test wet_hole wet_run refl refl) t q)
next log (Reported r) unbegun (a, _) = absurd (none_awaited_by_test wet_hole log refl r.check a)
next log (Reported r) begun (a, _) = absurd (none_awaited_by_test wet_hole log refl r.check a)
next log (Reported r) asks (a, _) = answered log r.check r.yes a.0 said
next log (Reported r) (said false) (a, _) = absurd (none_awaited_by_test wet_hole log refl r.check a)
next log (Reported r) (said true) (a, _) = absurd (none_awaited_by_test wet_hole log refl r.check a)
next log (Reported r) pumped (a, _) = absurd (none_awaited_by_test wet_hole log refl r.check a)
next log (Reported r) dry_end (a, _) = absurd (none_awaited_by_test wet_hole log refl r.check a)
next log (Reported r) wet_end (a, _) = absurd (none_awaited_by_test wet_hole log refl r.check a)

stage : (log : List Event) → Lawful wet_hole sheet log → Stage log
stage [] l = unbegun
stage (e ∷ log) (l, r) = next log e (stage log l) r

-- a job is left, so the run is not at its end
still : (log : List Event) (s j : ℕ) → Agreeing wet_hole log s → left wet_hole log s j ≡ true → Ended wet_hole log → ⊥
still log s j a e n = n.none_left s a j ((left_decides wet_hole log s j).0 e)

pub no_other : (log : List Event) → Lawful wet_hole sheet log → Ended wet_hole log → (log ≡ dry_run) ⊎ (log ≡ wet_run)
no_other log l n = by log (stage log l) n
  where
    by : (log : List Event) → Stage log → Ended wet_hole log → (log ≡ dry_run) ⊎ (log ≡ wet_run)
    by log unbegun n = absurd (still log 0 0 (omega arith, tt) refl n)
    by log begun n = absurd (still log 0 1 (omega arith, tt) refl n)
    by log asks n = absurd (n.none_awaited 0 ((awaited_decides wet_hole log 0).0 refl))
    by log (said false) n = absurd (still log 0 4 (omega arith, (refl, tt)) refl n)
    by log (said true) n = absurd (still log 1 2 (omega arith, (refl, tt)) refl n)
    by log pumped n = absurd (still log 1 3 (omega arith, (refl, tt)) refl n)
    by log dry_end n = inl refl
    by log wet_end n = inr refl
