-- Names by their places, and the jobs known by them.
use Rattle.std.proofs.Common.{◌≡◌, ℕ, zero, suc, ◌+◌, ◌-◌, ◌<◌, ◌≤◌, Bool, true, false, cond, List, [], ◌∷◌, length, get_or, drop, Some}
use Rattle.std.proofs.Common.{None, IfSome, codes, Option, sym, refl, ap, ◌∙◌, arith}
use Rattle.std.proofs.lemmas.List.{at_drop_more, length-drop, get_or-drop, length-take-le}
use Rattle.book.specs.declared.parts.Job.{Job}
use Rattle.book.specs.Plain.{Plain, job, no_job}
use Rattle.book.specs.Sound.{Sound}
use Rattle.format.specs.declared.parts.NamePlace.{NamePlace}
use Rattle.format.specs.Format.{start_known, same, job_from, job_number, check_of, check_number}
use Rattle.format.proofs.Steps.{no_value, same_some}
use Rattle.reader.specs.Names.{slice, no_place, place_from, number_among, named, known_in, known_by, Named, known_places, Stands}

-- a name at the next place, or not
pub place_found : (n i : ℕ) (text : List ℕ) (ns : List NamePlace) (w : List ℕ) → i < length ns → same (slice text (get_or ns i no_place)) w ≡ true
    → place_from n text (drop i ns) w ≡ Some n
place_found n i text ns w h e = at_drop_more (λ t. place_from n text t w) ns i no_place h ∙ rw e refl

pub not_start : (text : List ℕ) (ns : List NamePlace) (w : List ℕ) → same (codes "start") w ≡ false → number_among text ns w ≡ place_from 1 text ns w
not_start text ns w e = rw e refl

-- what job has a name, by its place or by the jobs known
named_from : (n : ℕ) (text : List ℕ) (ns : List NamePlace) (js : List Job) (w : List ℕ) → length ns ≤ length js
    → job_from n (named text ns js) w ≡ place_from n text ns w
named_from n text [] js w h = refl
named_from n text (p ∷ ps) [] w h = absurd (omega arith)
named_from n text (p ∷ ps) (j ∷ js) w h = ap (cond (same (slice text p) w) (Some n)) (named_from (n + 1) text ps js w (omega arith))

pub known_number : (text : List ℕ) (ns : List NamePlace) (b : Plain) (w : List ℕ) → Named text ns b → job_number (known_in text ns b) w ≡ number_among text ns w
known_number text ns b w h =
    ap (cond (same (codes "start") w) (Some 0)) (named_from 1 text ns (drop 1 b.jobs) w (omega (arith, h.counted, length-drop 1 b.jobs)))

-- such a job is in the book
place_bound : (n : ℕ) (text : List ℕ) (ns : List NamePlace) (w : List ℕ) (j : ℕ) → place_from n text ns w ≡ Some j → j < n + length ns
place_bound n text [] w j e = no_value j e
place_bound n text (p ∷ ps) w j e = go (same (slice text p) w) (λ q. place_bound (n + 1) text ps w j q) e
  where
    go : (t : Bool) → (place_from (n + 1) text ps w ≡ Some j → j < n + 1 + length ps) → cond t (Some n) (place_from (n + 1) text ps w) ≡ Some j
        → j < n + length (p ∷ ps)
    go true f q = let s = same_some n j q in omega arith
    go false f q = let l = f q in omega arith

pub number_bound : (text : List ℕ) (ns : List NamePlace) (b : Plain) (w : List ℕ) (j : ℕ) → Named text ns b → number_among text ns w ≡ Some j
    → j < length b.jobs
number_bound text ns b w j h e = go (same (codes "start") w) e
  where
    go : (t : Bool) → cond t (Some 0) (place_from 1 text ns w) ≡ Some j → j < length b.jobs
    go true q = let s = same_some 0 j q in omega (arith, h.counted)
    go false q = omega (arith, place_bound 1 text ns w j q, h.counted)

-- the check number of a job known is that of the book's job
named_check : (text : List ℕ) (ns : List NamePlace) (js : List Job) (i : ℕ) → length ns ≡ length js
    → (get_or (named text ns js) i start_known).check ≡ (get_or js i no_job).check
named_check text [] [] i h = refl
named_check text [] (j ∷ js) i h = absurd (omega arith)
named_check text (p ∷ ps) [] i h = absurd (omega arith)
named_check text (p ∷ ps) (j ∷ js) zero h = refl
named_check text (p ∷ ps) (j ∷ js) (suc i) h = named_check text ps js i (omega arith)

pub known_check : (text : List ℕ) (ns : List NamePlace) (b : Plain) (j : ℕ) → Named text ns b → Sound b
    → (get_or (known_in text ns b) j start_known).check ≡ (job b j).check
known_check text ns b zero h s = sym s.start_asks_nothing
known_check text ns b (suc i) h s =
    named_check text ns (drop 1 b.jobs) i (omega (arith, h.counted, length-drop 1 b.jobs)) ∙ ap (λ v. v.check)
    (get_or-drop 1 b.jobs i no_job ∙ ap (λ k. get_or b.jobs k no_job) (omega arith))

pub check_small : (b : Plain) (j c : ℕ) → Sound b → j < length b.jobs → (job b j).check ≡ Some c → c < 8
check_small b j c s h e = omega (arith, ((s.each_job j h).counted c e).0, s.few_checks)

-- the places known are the names of the book's jobs
pub stands_named : (text : List ℕ) (ns : List NamePlace) (b : Plain) → Sound b → Stands text ns b → Named text (known_places ns b) b
stands_named text ns b s h = record { counted = omega (arith, length-take-le (length b.jobs - 1) ns (omega (arith, h.room)), s.some); placed = h.placed }

pub in_list : (o : Option ℕ) (n : ℕ) → ((j : ℕ) → o ≡ Some j → j < n) → IfSome o (λ j. j < n)
in_list (Some j) n f = f j refl
in_list None n f = tt

-- the job found at one of the places known
pub record Found (text : List ℕ) (ns : List NamePlace) (b : Plain) (w : List ℕ) (r : Option ℕ) : Type 0 where
  pub value : r ≡ job_number (known_by text ns b) w
  pub within : IfSome r (λ j. j < length b.jobs)

pub found_job : (text : List ℕ) (ns : List NamePlace) (b : Plain) (w : List ℕ) (r : Option ℕ) → Sound b → Stands text ns b
    → r ≡ number_among text (known_places ns b) w → Found text ns b w r
found_job text ns b w r s h e =
    let n = stands_named text ns b s h in
    record {
      value = e ∙ sym (known_number text (known_places ns b) b w n);
      within = in_list r _ (λ j q. number_bound text (known_places ns b) b w j n (sym e ∙ q));
    }

-- and the check found there
pub record FoundCheck (text : List ℕ) (ns : List NamePlace) (b : Plain) (w : List ℕ) (r : Option ℕ) : Type 0 where
  pub value : r ≡ check_number (known_by text ns b) w
  pub few : IfSome r (λ c. c < 8)

pub found_check : (text : List ℕ) (ns : List NamePlace) (b : Plain) (w : List ℕ) (j : ℕ) (js : List Job) → Sound b → Stands text ns b
    → Some j ≡ job_number (known_by text ns b) w → j < length b.jobs → js ≡ b.jobs → FoundCheck text ns b w (get_or js j no_job).check
found_check text ns b w j js s h e k same =
    let known = known_check text (known_places ns b) b j (stands_named text ns b s h) s in
    rw same (record {
      value = sym (ap (check_of (known_by text ns b)) (sym e) ∙ known);
      few = in_list (job b j).check 8 (λ c q. check_small b j c s k q);
    })
