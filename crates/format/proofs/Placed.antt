-- The names of a plan that is read: there is one for each job but `start`, it stands in the text, and it has at most 8 letters.
use Rattle.std.proofs.Common.{◌≡◌, ℕ, zero, suc, ◌+◌, ◌<◌, ◌≤◌, List, [], ◌∷◌, ◌++◌, map, length, get_or, Some, None, Ok, codes, decimal}
use Rattle.std.proofs.Common.{Option, sym, refl, ap, ◌∙◌, subst, append-nil, add-one, arith, length-append}
use Rattle.std.proofs.lemmas.List.{length_push}
use Rattle.book.specs.declared.parts.Kind.{Kind}
use Rattle.book.specs.declared.parts.Kind.TheVariants.{Least, Most}
use Rattle.book.specs.declared.parts.Refusal.{Refusal}
use Rattle.book.specs.declared.parts.Job.{Job as BookJob}
use Rattle.book.specs.declared.parts.Label.{Label}
use Rattle.book.specs.Plain.{Plain, unless, new_book, checks, with_job, with_bound, job_refusal, check_refusal, bound_refusal}
use Rattle.format.specs.declared.parts.NamePlace.{NamePlace}
use Rattle.format.specs.declared.parts.Work.{Work}
use Rattle.format.specs.declared.parts.Work.TheVariants.{Job, Check}
use Rattle.format.specs.Format.{JobLine, BoundLine, PlanText, Known, at_first, after, after_all, work_word, kind_word, want_word, job_words}
use Rattle.format.specs.Format.{bound_words, count_words, plan_lines, spaced, ended, written, Every, WellFormed, GoodJobs, GoodBound}
use Rattle.format.specs.Entered.{Accepts, add, label_in, bound_in, call_job, call_bound, book_after_jobs, book_after_bounds, book_of}
use Rattle.format.specs.Entered.{TakesJobs, BookTakes}
use Rattle.format.specs.Faults.{Reading, outcome, cut, work_of, if_work, line_name, job_names, names_of}
use Rattle.format.proofs.Cuts.{cut_spaced, cut_ended}
use Rattle.format.proofs.Inks.{Inky, jobs_inky, bounds_inky, job_inky, bound_inky, count_inky, frees, free_lines, all_jobs, all_bounds}
use Rattle.format.proofs.Sound.{pieces, read_sound}
use Rattle.format.specs.Names.{no_place, AllNamesIn}

-- where the names of the job lines stand, the first line beginning at byte b
abbrev pub places : ℕ → List JobLine → List NamePlace
places b [] = []
places b (j ∷ js) = record { byte = b + length (work_word j.work) + 1; length = length j.name } ∷ places (b + length (spaced (job_words j)) + 1) js

abbrev past : ℕ → List JobLine → ℕ
past b [] = b
past b (j ∷ js) = past (b + length (spaced (job_words j)) + 1) js

work_known : (w : Work) (p : NamePlace) → if_work (work_of (work_word w)) p ≡ p ∷ []
work_known Job p = refl
work_known Check p = refl

kind_unknown : (k : Kind) (p : NamePlace) → if_work (work_of (kind_word k)) p ≡ []
kind_unknown Least p = refl
kind_unknown Most p = refl

job_named : (b : ℕ) (ks : List Known) (j : JobLine) → Every Inky (job_words j) →
    line_name b (cut 32 (spaced (job_words j))) ≡ record { byte = b + length (work_word j.work) + 1; length = length j.name } ∷ []
job_named b ks j i = rw (cut_spaced _ _ (frees 32 (job_words j) (omega arith) i)) (work_known j.work _)

bound_unnamed : (b : ℕ) (x : BoundLine) → Every Inky (bound_words x) → line_name b (cut 32 (spaced (bound_words x))) ≡ []
bound_unnamed b x i = rw (cut_spaced _ _ (frees 32 (bound_words x) (omega arith) i)) (kind_unknown x.kind _)

bounds_unnamed : (ks : List Known) (bs : List BoundLine) (b : ℕ) → Every (GoodBound ks) bs → job_names b (map spaced (map bound_words bs) ++ ([] ∷ [])) ≡ []
bounds_unnamed ks [] b g = refl
bounds_unnamed ks (x ∷ bs) b g = rw (bound_unnamed b x (bound_inky ks x g.0)) (bounds_unnamed ks bs (b + length (spaced (bound_words x)) + 1) g.1)

jobs_named : (js : List JobLine) (b : ℕ) (ks : List Known) (rest : List (List ℕ)) → GoodJobs ks js →
    job_names b (map spaced (map job_words js) ++ rest) ≡ places b js ++ job_names (past b js) rest
jobs_named [] b ks rest g = refl
jobs_named (j ∷ js) b ks rest g =
    rw (job_named b ks j (job_inky ks j g.0))
    (ap (λ t. record { byte = b + length (work_word j.work) + 1; length = length j.name } ∷ t)
    (jobs_named js (b + length (spaced (job_words j)) + 1) (after ks j) rest g.1))

jobs_count_unnamed : (b n : ℕ) → n ≤ 99 → line_name b (cut 32 (spaced (count_words (codes "jobs") n))) ≡ []
jobs_count_unnamed b n h = rw (cut_spaced (codes "jobs") (decimal n ∷ [])
    (frees 32 (count_words (codes "jobs") n) (omega arith) (count_inky (codes "jobs") n jobs_inky h))) refl

bounds_count_unnamed : (b n : ℕ) → n ≤ 99 → line_name b (cut 32 (spaced (count_words (codes "bounds") n))) ≡ []
bounds_count_unnamed b n h = rw
    (cut_spaced (codes "bounds") (decimal n ∷ []) (frees 32 (count_words (codes "bounds") n) (omega arith) (count_inky (codes "bounds") n bounds_inky h))) refl

-- the first job line begins after the line of the jobs count
abbrev pub first_job : PlanText → ℕ
first_job p = 0 + length (spaced (count_words (codes "jobs") (length p.jobs))) + 1

pub names_are : (room : ℕ) (p : PlanText) → WellFormed room p → names_of (written p) ≡ places (first_job p) p.jobs
names_are room p w =
    let js = p.jobs in
    let bs = p.bounds in
    let head = count_words (codes "jobs") (length js) in
    let middle = count_words (codes "bounds") (length bs) in
    let inky : Every (Every Inky) (plan_lines p) = (
      count_inky (codes "jobs") (length js) jobs_inky w.few_jobs,
      all_jobs at_first js (middle ∷ map bound_words bs) w.jobs_good
          (count_inky (codes "bounds") (length bs) bounds_inky w.few_bounds, all_bounds (after_all at_first js) bs w.bounds_good),
    ) in
    let tail = spaced middle ∷ (map spaced (map bound_words bs) ++ ([] ∷ [])) in
    let lines : cut 10 (written p) ≡ spaced head ∷ (map spaced (map job_words js) ++ tail) =
    cut_ended (plan_lines p) (free_lines (plan_lines p) inky) ∙ ap (λ t. spaced head ∷ t) (pieces (map job_words js) (map bound_words bs) middle) in
    let none : job_names (past (first_job p) js) tail ≡ [] =
    rw (bounds_count_unnamed (past (first_job p) js) (length bs) w.few_bounds)
    (bounds_unnamed (after_all at_first js) bs (past (first_job p) js + length (spaced middle) + 1) w.bounds_good) in
    ap (job_names 0) lines ∙ rw (jobs_count_unnamed 0 (length js) w.few_jobs)
    (jobs_named js (first_job p) at_first tail w.jobs_good ∙ rw none (append-nil (places (first_job p) js)))

-- each name lies within the lines of the jobs
past_grows : (js : List JobLine) (b : ℕ) → past b js ≡ b + length (ended (map job_words js))
past_grows [] b = omega arith
past_grows (j ∷ js) b =
    let more = past_grows js (b + length (spaced (job_words j)) + 1) in
    omega (arith, more, length-append (spaced (job_words j)) (10 ∷ ended (map job_words js)))

word_in : (v : List ℕ) (vs : List (List ℕ)) → length v ≤ length (spaced (v ∷ vs))
word_in v [] = omega arith
word_in v (u ∷ us) = omega (arith, length-append v (32 ∷ spaced (u ∷ us)))

pub places_long : (js : List JobLine) (b : ℕ) → length (places b js) ≡ length js
places_long [] b = refl
places_long (j ∷ js) b = ap suc (places_long js (b + length (spaced (job_words j)) + 1))

place_in : (js : List JobLine) (b : ℕ) (ks : List Known) (i : ℕ) → GoodJobs ks js → i < length js
    → ((get_or (places b js) i no_place).length ≤ 8) × ((get_or (places b js) i no_place).byte + (get_or (places b js) i no_place).length ≤ past b js)
place_in [] b ks i g h = absurd (omega arith)
place_in (j ∷ js) b ks zero g h =
    let more = past_grows js (b + length (spaced (job_words j)) + 1) in
    let line = length-append (work_word j.work) (32 ∷ spaced (j.name ∷ map want_word j.wants)) in
    let word = word_in j.name (map want_word j.wants) in
    (g.0.form.few, omega arith)
place_in (j ∷ js) b ks (suc i) g h = place_in js (b + length (spaced (job_words j)) + 1) (after ks j) i g.1 (omega arith)

ended_append : (xs ys : List (List (List ℕ))) → length (ended (xs ++ ys)) ≡ length (ended xs) + length (ended ys)
ended_append [] ys = omega arith
ended_append (x ∷ xs) ys =
    let more = ended_append xs ys in
    omega (arith, more, length-append (spaced x) (10 ∷ ended (xs ++ ys)), length-append (spaced x) (10 ∷ ended xs))

pub all_named : (room : ℕ) (p : PlanText) → WellFormed room p →
    AllNamesIn (written p) (names_of (written p)) × (length (names_of (written p)) ≡ length p.jobs)
all_named room p w =
    let js = p.jobs in
    let head = spaced (count_words (codes "jobs") (length js)) in
    let tail = count_words (codes "bounds") (length p.bounds) ∷ map bound_words p.bounds in
    let grows = past_grows js (first_job p) in
    let long = places_long js (first_job p) in
    let text = length-append head (10 ∷ ended (map job_words js ++ tail)) in
    let split = ended_append (map job_words js) tail in
    rw (names_are room p w) (
      λ i h. let q = place_in js (first_job p) at_first i w.jobs_good (omega arith) in record { within = omega (arith, q.1); short = q.0 },
      long,
    )

-- the book has `start` and a job for each job line
taken : {A : Type 0} (o : Option Refusal) (a : A) (after before : Plain) → Accepts (unless o a after before).answer → (unless o a after before).after ≡ after
taken None a after before h = refl
taken (Some r) a after before h = absurd h

kept : {A : Type 0} (o : Option Refusal) (a : A) (after before : Plain) → after.jobs ≡ before.jobs → (unless o a after before).after.jobs ≡ before.jobs
kept None a after before h = h
kept (Some r) a after before h = refl

add_more : (w : Work) (b : Plain) (l : Label) → Accepts (add w b l).answer → length (add w b l).after.jobs ≡ suc (length b.jobs)
add_more Job b l h =
    let new : BookJob = record { label = l; check = None } in
    rw (taken (job_refusal b l) (length b.jobs) (with_job b new) b h) (length_push b.jobs new ∙ add-one (length b.jobs))
add_more Check b l h =
    let new : BookJob = record { label = l; check = Some (checks b) } in
    rw (taken (check_refusal b l) (length b.jobs) (with_job b new) b h) (length_push b.jobs new ∙ add-one (length b.jobs))

jobs_more : (js : List JobLine) (ks : List Known) (b : Plain) → TakesJobs ks b js → length (book_after_jobs ks b js).jobs ≡ length b.jobs + length js
jobs_more [] ks b h = omega arith
jobs_more (j ∷ js) ks b h =
    let one = add_more j.work b (label_in ks j.wants) h.0 in
    let more = jobs_more js (after ks j) (call_job ks b j).after h.1 in
    omega (arith, one, more)

bounds_same : (xs : List BoundLine) (ks : List Known) (b : Plain) → length (book_after_bounds ks b xs).jobs ≡ length b.jobs
bounds_same [] ks b = refl
bounds_same (x ∷ xs) ks b =
    bounds_same xs ks (call_bound ks b x).after ∙ ap length (kept (bound_refusal b (bound_in ks x)) (length b.bounds) (with_bound b (bound_in ks x)) b refl)

pub jobs_counted : (p : PlanText) → BookTakes p → length (book_of p).jobs ≡ suc (length p.jobs)
jobs_counted p h =
    let known = after_all at_first p.jobs in
    let jobs = jobs_more p.jobs at_first new_book h.0 in
    omega (arith, jobs, bounds_same p.bounds known (book_after_jobs at_first new_book p.jobs))

-- the names of a text that is read: one for each job but `start`
pub names_counted : (room : ℕ) (text : List ℕ) (s : Reading) → outcome room text ≡ Ok s →
    AllNamesIn text (names_of text) × (length s.book.jobs ≡ suc (length (names_of text)))
names_counted room text s e =
    let r = read_sound room text s e in
    let p = r.plan in
    let jobs : length s.book.jobs ≡ suc (length p.jobs) = ap (λ x. length x.book.jobs) (sym r.is) ∙ jobs_counted p r.writes.taken in
    let named : AllNamesIn text (names_of text) × (length (names_of text) ≡ length p.jobs) =
    subst (λ t. AllNamesIn t (names_of t) × (length (names_of t) ≡ length p.jobs)) (sym r.writes.text) (all_named room p r.writes.well_formed) in
    (named.0, omega (arith, jobs, named.1))
