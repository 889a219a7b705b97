-- What is read is well formed, the book takes it, and its writing-out is the text.
use Rattle.std.proofs.Common.{◌≡◌, ℕ, zero, suc, ◌+◌, ◌≤◌, leb, List, [], ◌∷◌, ◌++◌, map, length, Ok, codes, Result, sym, refl, ap, ◌∙◌}
use Rattle.std.proofs.Common.{subst, append_assoc, append-nil}
use Rattle.std.proofs.lemmas.Bool.{leb-true}
use Rattle.book.specs.Plain.{Plain}
use Rattle.format.specs.declared.parts.FileFault.TheVariants.{TooLong, Unfinished, Trailing, NamesShort}
use Rattle.format.specs.declared.parts.Fault.{Fault}
use Rattle.format.specs.Format.{JobLine, BoundLine, PlanText, Known, Every, GoodJob, GoodJobs, GoodBound, after_all}
use Rattle.format.specs.Format.{job_words, bound_words, count_words, plan_lines, spaced}
use Rattle.format.specs.Entered.{call_job, call_bound, book_after_jobs, book_after_bounds, Accepts, TakesJobs, TakesBounds}
use Rattle.format.specs.Faults.{fault_at, cut, Rest, Past, line_in, a_line, count_of, jobs_count, job_line, bound_line, job_of, bound_of}
use Rattle.format.specs.Faults.{Reading, nothing_read, with_job_line, with_bound_line, at_end, from_bounds, from_jobs, outcome}
use Rattle.format.specs.Theorems.{reading_of, Writes}
use Rattle.format.proofs.Steps.{no_fault, same_ok, then_ok, booked_ok, passed}
use Rattle.format.proofs.Cuts.{spaced_cut, ended_cut}
use Rattle.format.proofs.Lines.{job_sound, bound_sound, count_sound}

-- a line's words, then its book
job_of_sound : (ks : List Known) (o : Plain) (l b : ℕ) (ws : List (List ℕ)) (j : JobLine) → job_of ks o l b ws ≡ Ok j
    → (ws ≡ job_words j) × (GoodJob ks j × Accepts (call_job ks o j).answer)
job_of_sound ks o l b ws j e =
    let (x, q, f) = then_ok (job_line ks l b ws) _ j e in
    let (h, same) = booked_ok l b (call_job ks o x).answer x j f in
    let (y, g) = job_sound ks l b ws x q in
    subst (λ v. (ws ≡ job_words v) × (GoodJob ks v × Accepts (call_job ks o v).answer)) same (y, (g, h))

bound_of_sound : (ks : List Known) (o : Plain) (l b : ℕ) (ws : List (List ℕ)) (j : BoundLine) → bound_of ks o l b ws ≡ Ok j
    → (ws ≡ bound_words j) × (GoodBound ks j × Accepts (call_bound ks o j).answer)
bound_of_sound ks o l b ws j e =
    let (x, q, f) = then_ok (bound_line ks l b ws) _ j e in
    let (h, same) = booked_ok l b (call_bound ks o x).answer x j f in
    let (y, g) = bound_sound ks l b ws x q in
    subst (λ v. (ws ≡ bound_words v) × (GoodBound ks v × Accepts (call_bound ks o v).answer)) same (y, (g, h))

jobs_count_sound : (room l b : ℕ) (ws : List (List ℕ)) (n : ℕ) → jobs_count room l b ws ≡ Ok n → (ws ≡ count_words (codes "jobs") n) × ((n ≤ 99) × (n ≤ room))
jobs_count_sound room l b ws n e =
    let (x, q, f) = then_ok (count_of (codes "jobs") l b ws) _ n e in
    let (h, g) = passed (leb x room) _ (fault_at NamesShort l b) n f in
    let (y, k) = count_sound (codes "jobs") l b ws x q in
    subst (λ v. (ws ≡ count_words (codes "jobs") v) × ((v ≤ 99) × (v ≤ room))) (same_ok x n g) (y, (k, leb-true x room h))

line_sound : (l b : ℕ) (ls : List (List ℕ)) (t : Past (List (List ℕ))) → line_in l b ls ≡ Ok t → ls ≡ spaced t.got ∷ t.next.left
line_sound l b [] t e = no_fault (fault_at Unfinished l b) t e
line_sound l b (x ∷ []) t e = no_fault (fault_at Unfinished l (b + length x)) t e
line_sound l b (x ∷ (y ∷ ys)) t e = subst (λ s. x ∷ (y ∷ ys) ≡ spaced s.got ∷ s.next.left) (same_ok _ t e) (ap (λ z. z ∷ (y ∷ ys)) (sym (spaced_cut x)))

-- a line that is read is the writing-out of what was read
module _ {A : Type 0} (f : ℕ → ℕ → List (List ℕ) → Result A Fault) (words : A → List (List ℕ)) (P : A → Type 0) where
  a_line_sound : ((l b : ℕ) (ws : List (List ℕ)) (a : A) → f l b ws ≡ Ok a → (ws ≡ words a) × P a) → (p : Rest) (r : Past A) → a_line f p ≡ Ok r
      → (p.left ≡ spaced (words r.got) ∷ r.next.left) × P r.got
  a_line_sound sound p r e =
      let (t, q, g) = then_ok (line_in p.line p.byte p.left) _ r e in
      let (a, s, h) = then_ok (f p.line p.byte t.got) _ r g in
      let x = line_sound p.line p.byte p.left t q in
      let (y, z) = sound p.line p.byte t.got a s in
      subst (λ v. (p.left ≡ spaced (words v.got) ∷ v.next.left) × P v.got) (same_ok (record { got = a; next = t.next }) r h)
      (x ∙ ap (λ v. spaced v ∷ t.next.left) y, z)

end_sound : (s : Reading) (l b : ℕ) (ls : List (List ℕ)) (c : Reading) → at_end s l b ls ≡ Ok c → (ls ≡ [] ∷ []) × (s ≡ c)
end_sound s l b ([] ∷ []) c e = (refl, same_ok s c e)
end_sound s l b [] c e = no_fault (fault_at Trailing l b) c e
end_sound s l b ([] ∷ (y ∷ ys)) c e = no_fault (fault_at Trailing l b) c e
end_sound s l b ((x ∷ xs) ∷ ys) c e = no_fault (fault_at Trailing l b) c e

-- what is read after more lines
abbrev pub with_bounds : Reading → List BoundLine → Reading
with_bounds s bs = record {
  plan = record { jobs = s.plan.jobs; bounds = s.plan.bounds ++ bs };
  known = s.known;
  book = book_after_bounds s.known s.book bs;
}

abbrev pub with_jobs : Reading → List JobLine → Reading
with_jobs s js = record {
  plan = record { jobs = s.plan.jobs ++ js; bounds = s.plan.bounds };
  known = after_all s.known js;
  book = book_after_jobs s.known s.book js;
}

pub no_more_bounds : (s : Reading) → s ≡ with_bounds s []
no_more_bounds s = ap (λ t. record { plan = record { jobs = s.plan.jobs; bounds = t }; known = s.known; book = s.book })
    (sym (append-nil s.plan.bounds))

pub more_bounds : (s : Reading) (x : BoundLine) (bs : List BoundLine) → with_bounds (with_bound_line s x) bs ≡ with_bounds s (x ∷ bs)
more_bounds s x bs =
    ap (λ t. record { plan = record { jobs = s.plan.jobs; bounds = t }; known = s.known; book = book_after_bounds s.known s.book (x ∷ bs) })
    (append_assoc s.plan.bounds (x ∷ []) bs)

pub no_more_jobs : (s : Reading) → s ≡ with_jobs s []
no_more_jobs s = ap (λ t. record { plan = record { jobs = t; bounds = s.plan.bounds }; known = s.known; book = s.book }) (sym (append-nil s.plan.jobs))

pub more_jobs : (s : Reading) (x : JobLine) (js : List JobLine) → with_jobs (with_job_line s x) js ≡ with_jobs s (x ∷ js)
more_jobs s x js =
    ap (λ t. record {
      plan = record { jobs = t; bounds = s.plan.bounds };
      known = after_all s.known (x ∷ js);
      book = book_after_jobs s.known
          s.book (x ∷ js);
    })
    (append_assoc s.plan.jobs (x ∷ []) js)

-- the lines of bounds that are left
abbrev pub bound_pieces : List BoundLine → List (List ℕ)
bound_pieces bs = map spaced (map bound_words bs) ++ ([] ∷ [])

record BoundsRead (k : ℕ) (s : Reading) (left : List (List ℕ)) (r : Reading) : Type 0 where
  bounds : List BoundLine
  lines : left ≡ bound_pieces bounds
  good : Every (GoodBound s.known) bounds
  takes : TakesBounds s.known s.book bounds
  count : length bounds ≡ k
  is : with_bounds s bounds ≡ r

bounds_sound : (k : ℕ) (s : Reading) (p : Rest) (r : Reading) → from_bounds k s p ≡ Ok r → BoundsRead k s p.left r
bounds_sound zero s p r e =
    let (x, y) = end_sound s p.line p.byte p.left r e in
    record { bounds = []; lines = x; good = tt; takes = tt; count = refl; is = sym (no_more_bounds s) ∙ y }
bounds_sound (suc k) s p r e =
    let (t, q, f) = then_ok (a_line (bound_of s.known s.book) p) _ r e in
    let (x, (g, a)) = a_line_sound (bound_of s.known s.book) bound_words
    (λ v. GoodBound s.known v × Accepts (call_bound s.known s.book v).answer) (bound_of_sound s.known s.book) p t q in
    let m = bounds_sound k (with_bound_line s t.got) t.next r f in
    record {
      bounds = t.got ∷ m.bounds;
      lines = x ∙ ap (λ z. spaced (bound_words t.got) ∷ z) m.lines;
      good = (g, m.good);
      takes = (a, m.takes);
      count = ap suc m.count;
      is = sym (more_bounds s t.got m.bounds) ∙ m.is;
    }

-- the lines of jobs that are left, and the bounds after them
abbrev pub job_pieces : List JobLine → List BoundLine → List (List ℕ)
job_pieces js bs = map spaced (map job_words js) ++ (spaced (count_words (codes "bounds") (length bs)) ∷ bound_pieces bs)

record JobsRead (k : ℕ) (s : Reading) (left : List (List ℕ)) (r : Reading) : Type 0 where
  jobs : List JobLine
  bounds : List BoundLine
  lines : left ≡ job_pieces jobs bounds
  few : length bounds ≤ 99
  good : GoodJobs s.known jobs
  takes : TakesJobs s.known s.book jobs
  bounds_good : Every (GoodBound (after_all s.known jobs)) bounds
  bounds_take : TakesBounds (after_all s.known jobs) (book_after_jobs s.known s.book jobs) bounds
  count : length jobs ≡ k
  is : with_bounds (with_jobs s jobs) bounds ≡ r

jobs_sound : (k : ℕ) (s : Reading) (p : Rest) (r : Reading) → from_jobs k s p ≡ Ok r → JobsRead k s p.left r
jobs_sound zero s p r e =
    let (t, q, f) = then_ok (a_line (count_of (codes "bounds")) p) _ r e in
    let (x, h) = a_line_sound (count_of (codes "bounds")) (count_words (codes "bounds")) (λ n. n ≤ 99) (count_sound (codes "bounds")) p t q in
    let m = bounds_sound t.got s t.next r f in
    let y = subst (λ n. p.left ≡ spaced (count_words (codes "bounds") n) ∷ t.next.left) (sym m.count) x in
    record {
      jobs = [];
      bounds = m.bounds;
      lines = y ∙ ap (λ z. spaced (count_words (codes "bounds") (length m.bounds)) ∷ z) m.lines;
      few = subst (λ n. n ≤ 99) (sym m.count) h;
      good = tt;
      takes = tt;
      bounds_good = m.good;
      bounds_take = m.takes;
      count = refl;
      is = ap (λ v. with_bounds v m.bounds) (sym (no_more_jobs s)) ∙ m.is;
    }
jobs_sound (suc k) s p r e =
    let (t, q, f) = then_ok (a_line (job_of s.known s.book) p) _ r e in
    let (x, (g, a)) = a_line_sound (job_of s.known s.book) job_words
    (λ v. GoodJob s.known v × Accepts (call_job s.known s.book v).answer) (job_of_sound s.known s.book) p t q in
    let m = jobs_sound k (with_job_line s t.got) t.next r f in
    record {
      jobs = t.got ∷ m.jobs;
      bounds = m.bounds;
      lines = x ∙ ap (λ z. spaced (job_words t.got) ∷ z) m.lines;
      few = m.few;
      good = (g, m.good);
      takes = (a, m.takes);
      bounds_good = m.bounds_good;
      bounds_take = m.bounds_take;
      count = ap suc m.count;
      is = ap (λ v. with_bounds v m.bounds) (sym (more_jobs s t.got m.jobs)) ∙ m.is;
    }

-- the pieces of a plan's text
pub pieces : (xs ys : List (List (List ℕ))) (l : List (List ℕ))
    → map spaced (xs ++ (l ∷ ys)) ++ ([] ∷ []) ≡ map spaced xs ++ (spaced l ∷ (map spaced ys ++ ([] ∷ [])))
pieces [] ys l = refl
pieces (x ∷ xs) ys l = ap (λ t. spaced x ∷ t) (pieces xs ys l)

-- a text that is read writes a plan
pub record ReadAs (room : ℕ) (bytes : List ℕ) (s : Reading) : Type 0 where
  pub plan : PlanText
  pub writes : Writes room bytes plan
  pub is : reading_of plan ≡ s

pub read_sound : (room : ℕ) (bytes : List ℕ) (s : Reading) → outcome room bytes ≡ Ok s → ReadAs room bytes s
read_sound room bytes s e =
    let (h, f) = passed (leb (length bytes) 8192) _ (fault_at TooLong 0 0) s e in
    let p : Rest = record { line = 1; byte = 0; left = cut 10 bytes } in
    let (t, q, g) = then_ok (a_line (jobs_count room) p) _ s f in
    let (x, (few, fits)) = a_line_sound (jobs_count room) (count_words (codes "jobs")) (λ n. (n ≤ 99) × (n ≤ room)) (jobs_count_sound room) p t q in
    let m = jobs_sound t.got nothing_read t.next s g in
    let plan : PlanText = record { jobs = m.jobs; bounds = m.bounds } in
    let y = subst (λ n. cut 10 bytes ≡ spaced (count_words (codes "jobs") n) ∷ t.next.left) (sym m.count) x in
    let z = pieces (map job_words m.jobs) (map bound_words m.bounds) (count_words (codes "bounds") (length m.bounds)) in
    let all : cut 10 bytes ≡ map spaced (plan_lines plan) ++ ([] ∷ []) = y ∙ ap (λ v. spaced (count_words (codes "jobs") (length m.jobs)) ∷ v)
    (m.lines ∙ sym z) in
    let w = ended_cut bytes (plan_lines plan) all in
    let short = leb-true (length bytes) 8192 h in
    let few_jobs : length m.jobs ≤ 99 = subst (λ n. n ≤ 99) (sym m.count) few in
    let fits_jobs : length m.jobs ≤ room = subst (λ n. n ≤ room) (sym m.count) fits in
    record {
      plan = plan;
      writes = record {
        well_formed = record {
          few_jobs = few_jobs;
          fits = fits_jobs;
          few_bounds = m.few;
          jobs_good = m.good;
          bounds_good = m.bounds_good;
          short =
              subst (λ v. length v ≤ 8192) w short;
        };
        taken = (m.takes, m.bounds_take);
        text = w;
      };
      is = m.is;
    }
