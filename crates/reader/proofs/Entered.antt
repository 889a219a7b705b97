-- The book and the name list after a line.
use Rattle.std.proofs.Common.{◌≡◌, ℕ, ◌+◌, ◌-◌, ◌<◌, ◌≤◌, List, [], ◌∷◌, ◌++◌, length, take, Some, None, Ok, Option, sym, refl, ap, ◌∙◌}
use Rattle.std.proofs.Common.{subst, ⊎_elim, arith, slice_set}
use Rattle.std.proofs.lemmas.List.{take_more_set, length_push, length-set, get_or_append_left, get_or_push, length-take-le}
use Rattle.std.proofs.lemmas.Bool.{cases_lt}
use Rattle.book.specs.declared.parts.Label.{Label}
use Rattle.book.specs.declared.parts.Refusal.{Refusal}
use Rattle.book.specs.Plain.{Plain, unless, job_refusal, check_refusal, bound_refusal, add_bound, checks, with_job, with_bound, new_book}
use Rattle.book.specs.declared.parts.Bound.{Bound}
use Rattle.book.specs.Sound.{Sound}
use Rattle.format.specs.declared.parts.Work.{Work}
use Rattle.format.specs.declared.parts.Work.TheVariants.{Job as JobWork, Check as CheckWork}
use Rattle.format.specs.declared.parts.NamePlace.{NamePlace}
use Rattle.format.specs.Format.{Known, JobLine, BoundLine, numbered}
use Rattle.format.specs.Entered.{Accepts, add, call_job, call_bound, label_in, bound_in}
use Rattle.format.specs.Faults.{job_line, bound_line, job_of, bound_of, line_name}
use Rattle.format.proofs.Steps.{then_ok, booked_ok}
use Rattle.reader.specs.Names.{slice, no_place, Placed, known_places, known_by, Stands}

-- a job line is entered: its name stands behind the others
module _ (text : List ℕ) (l b : ℕ) (ws : List (List ℕ)) (ns : List NamePlace) (o : Plain) where
  pub record JobEntered (ns' : List NamePlace) (o' : Plain) : Type 0 where
    pub line : JobLine
    pub place : NamePlace
    pub says : job_of (known_by text ns o) o l b ws ≡ Ok line
    pub book : o' ≡ (call_job (known_by text ns o) o line).after
    pub named : line_name b ws ≡ place ∷ []
    pub inside : place.byte + place.length ≤ length text
    pub spelled : slice text place ≡ line.name
    pub noted : ns' ≡ slice_set ns (length o.jobs - 1) place

  -- a bound line is entered
  pub record BoundEntered (o' : Plain) : Type 0 where
    pub line : BoundLine
    pub says : bound_of (known_by text ns o) o l b ws ≡ Ok line
    pub book : o' ≡ (call_bound (known_by text ns o) o line).after

-- an accepted job stands behind the others
taken_after : {A : Type 0} (m : Option Refusal) (a : A) (after before : Plain) → Accepts (unless m a after before).answer
    → (unless m a after before).after ≡ after
taken_after None a after before h = refl
taken_after (Some r) a after before h = absurd h

pub added : (k : Work) (o : Plain) (label : Label) → Accepts (add k o label).answer → (add k o label).after ≡ with_job o
    (record { label = label; check = numbered k (checks o) })
added JobWork o label h = taken_after (job_refusal o label) _ _ o h
added CheckWork o label h = taken_after (check_refusal o label) _ _ o h

pub bound_added : (o : Plain) (x : Bound) → Accepts (add_bound o x).answer → (add_bound o x).after ≡ with_bound o x
bound_added o x h = taken_after (bound_refusal o x) _ _ o h

accepted : (ks : List Known) (o : Plain) (l b : ℕ) (ws : List (List ℕ)) (j : JobLine) → job_of ks o l b ws ≡ Ok j → Accepts (call_job ks o j).answer
accepted ks o l b ws j e =
    let (x, q, f) = then_ok (job_line ks l b ws) _ j e in
    let (h, same) = booked_ok l b (call_job ks o x).answer x j f in
    subst (λ v. Accepts (call_job ks o v).answer) same h

bound_accepted : (ks : List Known) (o : Plain) (l b : ℕ) (ws : List (List ℕ)) (j : BoundLine) → bound_of ks o l b ws ≡ Ok j
    → Accepts (call_bound ks o j).answer
bound_accepted ks o l b ws j e =
    let (x, q, f) = then_ok (bound_line ks l b ws) _ j e in
    let (h, same) = booked_ok l b (call_bound ks o x).answer x j f in
    subst (λ v. Accepts (call_bound ks o v).answer) same h

placed_push : (text : List ℕ) (xs : List NamePlace) (p : NamePlace) → Placed text xs → p.byte + p.length ≤ length text → Placed text (xs ++ (p ∷ []))
placed_push text xs p h k i l =
    ⊎_elim
    (λ (a : i < length xs). let e = get_or_append_left xs (p ∷ []) no_place i a in subst (λ v. v.byte + v.length ≤ length text) (sym e) (h i a))
    (λ (a : length xs ≤ i). let e = get_or_push xs p no_place i (omega (arith, length_push xs p)) in subst (λ v. v.byte + v.length ≤ length text) (sym e) k)
    (cases_lt i (length xs))

module _ (text : List ℕ) (l b : ℕ) (ws : List (List ℕ)) (ns : List NamePlace) (o : Plain) (ns' : List NamePlace) (o' : Plain) where
  module _ (j : JobEntered text l b ws ns o ns' o') (s : Sound o) (h : Stands text ns o) (room : length o.jobs ≤ length ns) where
    pub jobs_after : o'.jobs ≡ o.jobs ++ (record { label = label_in (known_by text ns o) j.line.wants; check = numbered j.line.work (checks o) } ∷ [])
    jobs_after = ap (λ v. v.jobs) (j.book ∙ added j.line.work o (label_in (known_by text ns o) j.line.wants)
        (accepted (known_by text ns o) o l b ws j.line j.says))

    pub one_more : length o'.jobs ≡ length o.jobs + 1
    one_more = ap length jobs_after ∙ length_push o.jobs _

    pub same_room : length ns' ≡ length ns
    same_room = ap length j.noted ∙ length-set ns (length o.jobs - 1) j.place

    pub places_after : known_places ns' o' ≡ known_places ns o ++ (j.place ∷ [])
    places_after =
        let n : length o'.jobs - 1 ≡ length o.jobs - 1 + 1 = omega (arith, one_more, s.some) in
        ap (λ k. take k ns') n ∙ (ap (take (length o.jobs - 1 + 1)) j.noted ∙ take_more_set ns (length o.jobs - 1) j.place
        (omega (arith, s.some, room)))

    pub stands_after : Stands text ns' o'
    stands_after = record {
      room = omega (arith, one_more, same_room, room);
      placed = subst (Placed text) (sym places_after)
          (placed_push text (known_places ns o) j.place h.placed j.inside);
    }

  module _ (j : BoundEntered text l b ws ns o o') (h : Stands text ns o) where
    pub jobs_stay : o'.jobs ≡ o.jobs
    jobs_stay = ap (λ v. v.jobs) (j.book ∙ bound_added o (bound_in (known_by text ns o) j.line)
        (bound_accepted (known_by text ns o) o l b ws j.line j.says))

    pub bound_stands : Stands text ns o'
    bound_stands =
        let n = ap length jobs_stay in
        record { room = omega (arith, n, h.room); placed = subst (λ k. Placed text (take (k - 1) ns)) (sym n) h.placed }

-- a new book has no name to hold
pub new_stands : (text : List ℕ) (ns : List NamePlace) → Stands text ns new_book
new_stands text ns = record { room = omega arith; placed = λ i h. absurd (omega (arith, length-take-le 0 ns (omega arith))) }
