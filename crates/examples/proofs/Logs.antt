-- Lawful logs shown by tests that are computed.
use Rattle.std.proofs.Common.{◌≡◌, ℕ, ◌^◌, ◌<◌, Bool, true, false, cond, not, ◌&&◌, ◌||◌, eqb, ltb, leb, ◌⊎◌, ◌↔◌, List, [], ◌∷◌, length}
use Rattle.std.proofs.Common.{Decides, refl, inl, inr}
use Rattle.std.proofs.lemmas.Bool.Decides.{Decides-and, Decides-or, Decides-not, Decides-like, Decides-eqb, Decides-ltb}
use Rattle.book.specs.Labels.{bit, all_below}
use Rattle.book.specs.Plain.{Plain, checks, cases, asking}
use Rattle.book.specs.Done.{done}
use Rattle.book.proofs.Bits.{bit_below}
use Rattle.book.proofs.Tests.{done_decides}
use Rattle.grades.specs.Grades.{Minutes}
use Rattle.walks.specs.declared.parts.Telling.{Telling}
use Rattle.walks.specs.declared.parts.Event.{Event}
use Rattle.walks.specs.declared.parts.Event.TheVariants.{Told, Reported}
use Rattle.walks.specs.Logs.{Has, ToldAt, Heard, Agrees, Left, Awaited, NoneAwaited, Tells, Lawful, Ended, just_told}
use Rattle.examples.proofs.Tested.{and_left, and_right, if_true, all_true, at_most_decides}

never_decides : {P : Type 0} → (P → ⊥) → Decides false P
never_decides n = (λ e. absurd (cc), λ p. absurd (n p))

decides_three : {P Q R : Type 0} (x y z : Bool) → Decides x P → Decides y Q → Decides z R → Decides (x && (y && z)) (P × Q × R)
decides_three x y z p q r =
    Decides-like (x && (y && z)) (λ k. (k.0, k.1.0, k.1.1)) (λ k. (k.0, (k.1, k.2))) (Decides-and x (y && z) p (Decides-and y z q r))

-- what was reported, and which cases agree with it
abbrev pub heard : List Event → ℕ → Bool
heard [] c = false
heard (Told t ∷ log) c = heard log c
heard (Reported r ∷ log) c = eqb r.check c || heard log c

heard_decides : (log : List Event) (c : ℕ) → Decides (heard log c) (Heard log c)
heard_decides [] c = never_decides (λ e. e)
heard_decides (Told t ∷ log) c = heard_decides log c
heard_decides (Reported r ∷ log) c = Decides-or (eqb r.check c) (heard log c) (Decides-eqb r.check c) (heard_decides log c)

abbrev pub agrees : List Event → ℕ → Bool
agrees [] s = true
agrees (Told t ∷ log) s = agrees log s
agrees (Reported r ∷ log) s = eqb (bit s r.check) (cond r.yes 1 0) && agrees log s

agrees_decides : (log : List Event) (s : ℕ) → Decides (agrees log s) (Agrees log s)
agrees_decides [] s = (λ _. tt, λ _. refl)
agrees_decides (Told t ∷ log) s = agrees_decides log s
agrees_decides (Reported r ∷ log) s =
    Decides-and (eqb (bit s r.check) (cond r.yes 1 0)) (agrees log s) (Decides-eqb (bit s r.check) (cond r.yes 1 0)) (agrees_decides log s)

-- what was told, and what is left
abbrev pub was_told : List Event → ℕ → Bool
was_told [] j = false
was_told (Told t ∷ log) j = eqb (bit t.jobs j) 1 || was_told log j
was_told (Reported r ∷ log) j = was_told log j

told_decides : (log : List Event) (j : ℕ) → Decides (was_told log j) ((v : ℕ) × ToldAt log j v)
told_decides [] j = never_decides (λ x. x.1)
told_decides (Reported r ∷ log) j = told_decides log j
told_decides (Told t ∷ log) j = Decides-like (was_told (Told t ∷ log) j) to from
    (Decides-or (eqb (bit t.jobs j) 1) (was_told log j) (Decides-eqb (bit t.jobs j) 1) (told_decides log j))
  where
    to : Has t.jobs j ⊎ ((v : ℕ) × ToldAt log j v) → (v : ℕ) × ToldAt (Told t ∷ log) j v
    to (inl h) = (t.minute, inl (h, refl))
    to (inr (v, x)) = (v, inr x)

    from : ((v : ℕ) × ToldAt (Told t ∷ log) j v) → Has t.jobs j ⊎ ((v : ℕ) × ToldAt log j v)
    from (v, inl (h, e)) = inl h
    from (v, inr x) = inr (v, x)

abbrev pub left : Plain → List Event → ℕ → ℕ → Bool
left b log s j = ltb j (length b.jobs) && (done b s j && not (was_told log j))

pub left_decides : (b : Plain) (log : List Event) (s j : ℕ) → Decides (left b log s j) (Left b log s j)
left_decides b log s j =
    decides_three (ltb j (length b.jobs)) (done b s j) (not (was_told log j)) (Decides-ltb j (length b.jobs)) (done_decides b s j)
    (Decides-like (not (was_told log j)) (λ f v x. f (v, x)) (λ f x. f x.0 x.1) (Decides-not (was_told log j) (told_decides log j)))

-- what is awaited
abbrev pub awaited : Plain → List Event → ℕ → Bool
awaited b log c = ltb c (checks b) && (eqb (bit (just_told log) (asking b c)) 1 && not (heard log c))

pub awaited_decides : (b : Plain) (log : List Event) (c : ℕ) → Decides (awaited b log c) (Awaited b log c)
awaited_decides b log c =
    decides_three (ltb c (checks b)) (eqb (bit (just_told log) (asking b c)) 1) (not (heard log c))
    (Decides-ltb c (checks b)) (Decides-eqb (bit (just_told log) (asking b c)) 1) (Decides-not (heard log c) (heard_decides log c))

abbrev pub not_awaited : Plain → List Event → ℕ → Bool
not_awaited b log c = not (awaited b log c)

none_below : (b : Plain) (log : List Event) (n : ℕ) → all_below n (not_awaited b log) ≡ true → (c : ℕ) → c < n → Awaited b log c → ⊥
none_below b log n e c h = (Decides-not (awaited b log c) (awaited_decides b log c)).0 (all_true n (not_awaited b log) e c h)

pub none_awaited_by_test : (b : Plain) (log : List Event) → all_below (checks b) (not_awaited b log) ≡ true → NoneAwaited b log
none_awaited_by_test b log e c a = none_below b log (checks b) e c a.0 a

-- a test of every agreeing case and each job
abbrev pub in_agreeing : Plain → List Event → (ℕ → ℕ → Bool) → ℕ → Bool
in_agreeing b log p s = cond (agrees log s) (all_below (length b.jobs) (p s)) true

every_agreeing : (b : Plain) (log : List Event) (p : ℕ → ℕ → Bool) → all_below (cases b) (in_agreeing b log p) ≡ true →
    (s : ℕ) → s < cases b → Agrees log s → (j : ℕ) → j < length b.jobs → p s j ≡ true
every_agreeing b log p e s h a =
    let all = all_true (cases b) (in_agreeing b log p) e s h in
    all_true (length b.jobs) (p s) (if_true (agrees log s) (all_below (length b.jobs) (p s)) all ((agrees_decides log s).1 a))

-- a telling: exactly the jobs left at its minute, and none left earlier
abbrev pub same : Bool → Bool → Bool
same x y = cond x y (not y)

same_is : {P Q : Type 0} (x y : Bool) → same x y ≡ true → Decides x P → Decides y Q → P ↔ Q
same_is true y e p q = (λ _. q.0 e, λ _. p.0 refl)
same_is false true e p q = absurd (cc)
same_is false false e p q = (λ x. q.0 (p.1 x), λ x. p.0 (q.1 x))

abbrev pub exactly_left : Plain → Minutes → List Event → Telling → ℕ → ℕ → Bool
exactly_left b minute log t s j = same (eqb (bit t.jobs j) 1) (left b log s j && eqb (minute s j) t.minute)

abbrev pub none_earlier : Plain → Minutes → List Event → Telling → ℕ → ℕ → Bool
none_earlier b minute log t s j = cond (left b log s j) (leb t.minute (minute s j)) true

abbrev pub due_exactly : Plain → Minutes → List Event → Telling → Bool
due_exactly b minute log t = all_below (cases b) (in_agreeing b log (exactly_left b minute log t))

abbrev pub due_first : Plain → Minutes → List Event → Telling → Bool
due_first b minute log t = all_below (cases b) (in_agreeing b log (none_earlier b minute log t))

abbrev pub tells : Plain → Minutes → List Event → Telling → Bool
tells b minute log t =
    (not (eqb t.jobs 0) && ltb t.jobs (2 ^ length b.jobs)) && (due_exactly b minute log t && due_first b minute log t)

pub tells_by_test : (b : Plain) (minute : Minutes) (log : List Event) (t : Telling) → tells b minute log t ≡ true → Tells b minute log t
tells_by_test b minute log t e = record {
  some = (Decides-not (eqb t.jobs 0) (Decides-eqb t.jobs 0)).0 (and_left (not (eqb t.jobs 0)) (ltb t.jobs (2 ^ length b.jobs)) set);
  exactly = λ s a j. (λ h. (at s a j (in_book j h)).0 h, λ l. (at s a j l.0.0).1 l);
  next = λ s a j l.
      (at_most_decides t.minute (minute s j)).0
      (if_true (left b log s j) (leb t.minute (minute s j))
      (every_agreeing b log (none_earlier b minute log t) (and_right (due_exactly b minute log t) (due_first b minute log t) due) s a.0 a.1 j l.0)
      ((left_decides b log s j).1 l));
}
  where
    set : (not (eqb t.jobs 0) && ltb t.jobs (2 ^ length b.jobs)) ≡ true
    set = and_left (not (eqb t.jobs 0) && ltb t.jobs (2 ^ length b.jobs)) (due_exactly b minute log t && due_first b minute log t) e

    due : (due_exactly b minute log t && due_first b minute log t) ≡ true
    due = and_right (not (eqb t.jobs 0) && ltb t.jobs (2 ^ length b.jobs)) (due_exactly b minute log t && due_first b minute log t) e

    in_book : (j : ℕ) → Has t.jobs j → j < length b.jobs
    in_book j h =
        bit_below t.jobs (length b.jobs) j
        ((Decides-ltb t.jobs (2 ^ length b.jobs)).0 (and_right (not (eqb t.jobs 0)) (ltb t.jobs (2 ^ length b.jobs)) set)) h

    at : (s : ℕ) → (s < cases b) × Agrees log s → (j : ℕ) → j < length b.jobs → Has t.jobs j ↔ (Left b log s j × (minute s j ≡ t.minute))
    at s a j l =
        same_is (eqb (bit t.jobs j) 1) (left b log s j && eqb (minute s j) t.minute)
        (every_agreeing b log (exactly_left b minute log t) (and_left (due_exactly b minute log t) (due_first b minute log t) due) s a.0 a.1 j l)
        (Decides-eqb (bit t.jobs j) 1)
        (Decides-and (left b log s j) (eqb (minute s j) t.minute) (left_decides b log s j) (Decides-eqb (minute s j) t.minute))

-- every event is right
abbrev pub lawful : Plain → Minutes → List Event → Bool
lawful b minute [] = true
lawful b minute (Told t ∷ log) = lawful b minute log && (all_below (checks b) (not_awaited b log) && tells b minute log t)
lawful b minute (Reported r ∷ log) = lawful b minute log && (awaited b log r.check && all_below r.check (not_awaited b log))

pub lawful_by_test : (b : Plain) (minute : Minutes) (log : List Event) → lawful b minute log ≡ true → Lawful b minute log
lawful_by_test b minute [] e = tt
lawful_by_test b minute (Told t ∷ log) e =
    let p = all_below (checks b) (not_awaited b log) in
    let q = tells b minute log t in
    let f = and_right (lawful b minute log) (p && q) e in (
      lawful_by_test b minute log (and_left (lawful b minute log) (p && q) e),
      (none_awaited_by_test b log (and_left p q f), tells_by_test b minute log t (and_right p q f)),
    )
lawful_by_test b minute (Reported r ∷ log) e =
    let p = awaited b log r.check in
    let q = all_below r.check (not_awaited b log) in
    let f = and_right (lawful b minute log) (p && q) e in (
      lawful_by_test b minute log (and_left (lawful b minute log) (p && q) e),
      ((awaited_decides b log r.check).0 (and_left p q f), λ d h. none_below b log r.check (and_right p q f) d h),
    )

-- nothing is awaited or left
abbrev pub none_left : Plain → List Event → ℕ → ℕ → Bool
none_left b log s j = not (left b log s j)

pub ended_by_test : (b : Plain) (log : List Event) → all_below (checks b) (not_awaited b log) ≡ true →
    all_below (cases b) (in_agreeing b log (none_left b log)) ≡ true → Ended b log
ended_by_test b log e f = record {
  none_awaited = none_awaited_by_test b log e;
  none_left = λ s a j l. (Decides-not (left b log s j) (left_decides b log s j)).0 (every_agreeing b log (none_left b log) f s a.0 a.1 j l.0) l;
}
