-- The writing-out of a well-formed plan that the book takes is read as that plan.
use Rattle.std.proofs.Common.{◌≡◌, ℕ, suc, ◌+◌, ◌≤◌, List, [], ◌∷◌, ◌++◌, map, length, Ok, codes, decimal, Result, refl, ap, ◌∙◌, arith}
use Rattle.std.specs.Fmt.{signed_decimal}
use Rattle.std.proofs.lemmas.Bool.{le-leb}
use Rattle.book.specs.Plain.{Plain}
use Rattle.format.specs.declared.parts.Fault.{Fault}
use Rattle.format.specs.Format.{JobLine, BoundLine, PlanText, Known, Every, GoodJob, GoodJobs, GoodBound, WellFormed, at_first, after_all}
use Rattle.format.specs.Format.{want_word, job_words, bound_words, count_words, plan_lines, spaced, written}
use Rattle.format.specs.Entered.{call_job, call_bound, book_after_jobs, Accepts, TakesJobs, TakesBounds}
use Rattle.format.specs.Faults.{cut, Rest, Past, line_in, a_line, count_of, jobs_count, job_line, bound_line, job_of, bound_of}
use Rattle.format.specs.Faults.{Reading, nothing_read, with_job_line, with_bound_line, at_end, from_bounds, from_jobs, from_top, outcome}
use Rattle.format.specs.Theorems.{reading_of, Writes}
use Rattle.format.proofs.Steps.{then_is, booked_is}
use Rattle.format.proofs.Cuts.{cut_spaced, cut_ended}
use Rattle.format.proofs.Lines.{job_complete, bound_complete, count_complete}
use Rattle.format.proofs.Inks.{Inky, jobs_inky, bounds_inky, job_inky, bound_inky, count_inky, frees, free_lines, all_jobs, all_bounds}
use Rattle.format.proofs.Sound.{with_bounds, with_jobs, no_more_bounds, more_bounds, no_more_jobs, more_jobs, bound_pieces, job_pieces, pieces}

-- a thing read, and what is left then
abbrev Comes : {A : Type 0} → Result (Past A) Fault → A → List (List ℕ) → Type 0
Comes r a rest = (q : Rest) × (r ≡ Ok (record { got = a; next = q })) × (q.left ≡ rest)

line_comes : (l b : ℕ) (ls rest : List (List ℕ)) (w : List ℕ) (ws : List (List ℕ)) → Every Inky (w ∷ ws) → ls ≡ spaced (w ∷ ws) ∷ rest
    → 1 ≤ length rest → Comes (line_in l b ls) (w ∷ ws) rest
line_comes l b ls [] w ws i e h = absurd (omega arith)
line_comes l b ls (y ∷ ys) w ws i e h =
    let x = spaced (w ∷ ws) in
    let c = cut_spaced w ws (frees 32 (w ∷ ws) (omega arith) i) in
    let q : Rest = record { line = suc l; byte = b + length x + 1; left = y ∷ ys } in
    (q, ap (line_in l b) e ∙ ap (λ t. Ok (record { got = t; next = q })) c, refl)

module _ {A : Type 0} (f : ℕ → ℕ → List (List ℕ) → Result A Fault) (a : A) (w : List ℕ) (ws rest : List (List ℕ)) where
  a_line_comes : (p : Rest) → ((l b : ℕ) → f l b (w ∷ ws) ≡ Ok a) → Every Inky (w ∷ ws) → p.left ≡ spaced (w ∷ ws) ∷ rest → 1 ≤ length rest
      → Comes (a_line f p) a rest
  a_line_comes p reads i e h =
      let (q, r, s) = line_comes p.line p.byte p.left rest w ws i e h in (
        q,
        then_is (line_in p.line p.byte p.left) _ (record { got = w ∷ ws; next = q }) r ∙ then_is (f p.line p.byte (w ∷ ws)) _ a
            (reads p.line p.byte),
        s,
      )

job_of_complete : (ks : List Known) (o : Plain) (j : JobLine) → GoodJob ks j → Accepts (call_job ks o j).answer → (l b : ℕ)
    → job_of ks o l b (job_words j) ≡ Ok j
job_of_complete ks o j g h l b = then_is (job_line ks l b (job_words j)) _ j (job_complete ks l b j g) ∙ booked_is l b (call_job ks o j).answer j h

bound_of_complete : (ks : List Known) (o : Plain) (j : BoundLine) → GoodBound ks j → Accepts (call_bound ks o j).answer → (l b : ℕ)
    → bound_of ks o l b (bound_words j) ≡ Ok j
bound_of_complete ks o j g h l b = then_is (bound_line ks l b (bound_words j)) _ j (bound_complete ks l b j g) ∙ booked_is l b (call_bound ks o j).answer j h

jobs_count_complete : (room n : ℕ) → n ≤ 99 → n ≤ room → (l b : ℕ) → jobs_count room l b (count_words (codes "jobs") n) ≡ Ok n
jobs_count_complete room n h k l b =
    then_is (count_of (codes "jobs") l b (count_words (codes "jobs") n)) _ n (count_complete (codes "jobs") l b n h) ∙ rw (le-leb n room k) refl

some_after : (xs ys : List (List ℕ)) → 1 ≤ length ys → 1 ≤ length (xs ++ ys)
some_after [] ys h = h
some_after (x ∷ xs) ys h = omega arith

end_comes : (s : Reading) (l b : ℕ) (ls : List (List ℕ)) → ls ≡ [] ∷ [] → at_end s l b ls ≡ Ok s
end_comes s l b ls e = rw e refl

bounds_come : (bs : List BoundLine) (s : Reading) (p : Rest) → Every (GoodBound s.known) bs → TakesBounds s.known s.book bs
    → p.left ≡ bound_pieces bs → from_bounds (length bs) s p ≡ Ok (with_bounds s bs)
bounds_come [] s p g h e = end_comes s p.line p.byte p.left e ∙ ap Ok (no_more_bounds s)
bounds_come (j ∷ js) s p g h e =
    let last : 1 ≤ length (bound_pieces js) = some_after (map spaced (map bound_words js)) ([] ∷ []) (omega arith) in
    let (q, r, t) = a_line_comes (bound_of s.known s.book) j _ (j.first ∷ (j.second ∷ (signed_decimal j.minutes ∷ []))) (bound_pieces js) p
    (bound_of_complete s.known s.book j g.0 h.0) (bound_inky s.known j g.0) e last in
    then_is (a_line (bound_of s.known s.book) p) _ (record { got = j; next = q }) r
    ∙ (bounds_come js (with_bound_line s j) q g.1 h.1 t ∙ ap Ok (more_bounds s j js))

module _ (bs : List BoundLine) (few : length bs ≤ 99) where
  last_piece : 1 ≤ length (bound_pieces bs)
  last_piece = some_after (map spaced (map bound_words bs)) ([] ∷ []) (omega arith)

  jobs_come : (js : List JobLine) (s : Reading) (p : Rest) → GoodJobs s.known js → TakesJobs s.known s.book js
      → Every (GoodBound (after_all s.known js)) bs → TakesBounds (after_all s.known js) (book_after_jobs s.known s.book js) bs
      → p.left ≡ job_pieces js bs → from_jobs (length js) s p ≡ Ok (with_bounds (with_jobs s js) bs)
  jobs_come [] s p g h bg bt e =
      let (q, r, t) = a_line_comes (count_of (codes "bounds")) (length bs) (codes "bounds") (decimal (length bs) ∷ []) (bound_pieces bs) p
      (λ l b. count_complete (codes "bounds") l b (length bs) few) (count_inky (codes "bounds") (length bs) bounds_inky few) e last_piece in
      then_is (a_line (count_of (codes "bounds")) p) _ (record { got = length bs; next = q }) r
      ∙ (bounds_come bs s q bg bt t ∙ ap (λ v. Ok (with_bounds v bs)) (no_more_jobs s))
  jobs_come (j ∷ js) s p g h bg bt e =
      let last : 1 ≤ length (job_pieces js bs) = some_after (map spaced (map job_words js))
      (spaced (count_words (codes "bounds") (length bs)) ∷ bound_pieces bs) (omega arith) in
      let (q, r, t) = a_line_comes (job_of s.known s.book) j _ (j.name ∷ map want_word j.wants) (job_pieces js bs) p
      (job_of_complete s.known s.book j g.0 h.0) (job_inky s.known j g.0) e last in
      then_is (a_line (job_of s.known s.book) p) _ (record { got = j; next = q }) r
      ∙ (jobs_come js (with_job_line s j) q g.1 h.1 bg bt t ∙ ap (λ v. Ok (with_bounds v bs)) (more_jobs s j js))

written_lines : (room : ℕ) (p : PlanText) → WellFormed room p
    → cut 10 (written p) ≡ spaced (count_words (codes "jobs") (length p.jobs)) ∷ job_pieces p.jobs p.bounds
written_lines room p g =
    let bounds = count_words (codes "bounds") (length p.bounds) in
    let after_jobs : Every (Every Inky) (bounds ∷ map bound_words p.bounds) = (
      count_inky (codes "bounds") (length p.bounds) bounds_inky g.few_bounds,
      all_bounds (after_all at_first p.jobs) p.bounds
          g.bounds_good,
    ) in
    let i : Every (Every Inky) (plan_lines p) = (
      count_inky (codes "jobs") (length p.jobs) jobs_inky g.few_jobs,
      all_jobs at_first p.jobs
          (bounds ∷ map bound_words p.bounds) g.jobs_good after_jobs,
    ) in
    cut_ended (plan_lines p) (free_lines (plan_lines p) i) ∙ ap (λ t. spaced (count_words (codes "jobs") (length p.jobs)) ∷ t)
    (pieces (map job_words p.jobs) (map bound_words p.bounds) bounds)

pub read_complete : (room : ℕ) (bytes : List ℕ) (p : PlanText) → Writes room bytes p → outcome room bytes ≡ Ok (reading_of p)
read_complete room bytes p w =
    let g = w.well_formed in
    let o : Rest = record { line = 1; byte = 0; left = cut 10 (written p) } in
    let more : 1 ≤ length (job_pieces p.jobs p.bounds) = some_after (map spaced (map job_words p.jobs))
    (spaced (count_words (codes "bounds") (length p.bounds)) ∷ bound_pieces p.bounds) (omega arith) in
    let (q, r, t) = a_line_comes (jobs_count room) (length p.jobs) (codes "jobs") (decimal (length p.jobs) ∷ [])
    (job_pieces p.jobs p.bounds) o (jobs_count_complete room (length p.jobs) g.few_jobs g.fits)
    (count_inky (codes "jobs") (length p.jobs) jobs_inky g.few_jobs) (written_lines room p g) more in
    let rest = jobs_come p.bounds g.few_bounds p.jobs nothing_read q g.jobs_good w.taken.0 g.bounds_good w.taken.1 t in
    let all : from_top room nothing_read o ≡ Ok (reading_of p) = then_is (a_line (jobs_count room) o) _ (record { got = length p.jobs; next = q }) r
    ∙ rest in
    ap (outcome room) w.text ∙ rw (le-leb (length (written p)) 8192 g.short) all
