-- What a line that is taken in a section leaves behind, and what one with a fault does.
use Rattle.std.proofs.Common.{◌≡◌, ℕ, zero, suc, false, ◌+◌, ◌-◌, ◌≤◌, List, [], ◌∷◌, ◌++◌, length, map, Some, None, Ok, Err, codes, Option, Result}
use Rattle.std.proofs.Common.{Bool, true, slice_set, sym, refl, ap, ◌∙◌, arith}
use Rattle.std.proofs.lemmas.Bool.{le-leb}
use Rattle.std.proofs.lemmas.List.{append-nil, length-append}
use Rattle.book.specs.declared.parts.Bound.{Bound}
use Rattle.book.specs.declared.parts.Label.{Label}
use Rattle.book.specs.declared.parts.Kind.{Kind}
use Rattle.book.specs.declared.parts.Kind.TheVariants.{Least, Most}
use Rattle.book.specs.declared.parts.Refusal.{Refusal}
use Rattle.book.specs.Plain.{Plain, unless, job_refusal, check_refusal, bound_refusal, add_bound}
use Rattle.book.specs.Sound.{Sound}
use Rattle.format.specs.declared.parts.Work.{Work}
use Rattle.format.specs.declared.parts.Work.TheVariants.{Job, Check}
use Rattle.format.specs.declared.parts.Fault.{Fault}
use Rattle.format.specs.declared.parts.NamePlace.{NamePlace}
use Rattle.format.specs.Format.{Known, same, JobLine, BoundLine, want_word, work_word, kind_word, job_words}
use Rattle.format.specs.Entered.{add, call_job, label_in}
use Rattle.format.specs.declared.parts.FileFault.TheVariants.{WrongLine}
use Rattle.format.specs.Faults.{fault_at, kind_of, booked, cut, line_name, if_work, work_of, count_of, jobs_count, job_line}
use Rattle.format.specs.Faults.{bound_line, job_of, bound_of, Reading}
use Rattle.format.specs.Faults.{with_job_line, with_bound_line}
use Rattle.format.proofs.Words.{same_decides}
use Rattle.format.proofs.Steps.{no_fault, no_ok, same_err, then_is, then_no}
use Rattle.format.proofs.Cuts.{joined, joined_cut}
use Rattle.format.proofs.Lines.{work_sound, work_complete, kind_sound, job_sound, bound_sound, count_sound}
use Rattle.reader.specs.declared.piece.Piece.{Piece}
use Rattle.reader.specs.declared.register.Entry.{Entry}
use Rattle.reader.specs.declared.state.Section.{Section}
use Rattle.reader.specs.declared.state.Section.TheVariants.{Top, Jobs, Bounds}
use Rattle.reader.specs.Pieces.{Lies}
use Rattle.reader.specs.Names.{slice, known_by, Stands}
use Rattle.reader.specs.declared.lines.Head.TheVariants.{JobCount, OneJob, BoundCount, OneBound}
use Rattle.reader.specs.Says.{head_of, words_of, JobSaid, BoundSaid}
use Rattle.reader.specs.Going.{Holds, Due, Taken, Faulty, finished, heard, reached}
use Rattle.reader.proofs.Pieces.{part_of}
use Rattle.reader.proofs.Entered.{JobEntered, BoundEntered, one_more, same_room, stands_after, jobs_stay, bound_stands}
use Rattle.reader.proofs.Known.{job_holds, bound_holds}

-- the word of a kind of bound enters no job
no_work : (k : Kind) → work_of (kind_word k) ≡ None
no_work Least = refl
no_work Most = refl

-- a line that says a count
module _ (text : List ℕ) (p : Piece) (ns : List NamePlace) (o : Plain) where
  counted : (x x' : Section) → Stands text ns o → Due (length ns) x' (length o.jobs) → line_name p.byte (words_of p) ≡ []
      → ((s : Reading) → heard (length ns) x s p.line p.byte (words_of p) ≡ Ok (reached x' s)) → Taken text p x ns o x' ns o
  counted x x' h due e says = record {
    room = refl;
    stands = h;
    due = due;
    noted = rw e refl;
    more = omega (arith, ap length e);
    says = λ s k. (s, k, says s);
  }

  pub jobs_counted : (n : ℕ) → Stands text ns o → Due (length ns) Top (length o.jobs)
      → Ok n ≡ count_of (codes "jobs") p.line p.byte (words_of p) → n ≤ length ns
      → Taken text p Top ns o (Jobs n) ns o
  jobs_counted n h due e few =
      let counts : jobs_count (length ns) p.line p.byte (words_of p) ≡ Ok n =
      then_is (count_of (codes "jobs") p.line p.byte (words_of p)) _ n (sym e) ∙ rw (le-leb n (length ns) few) refl in
      counted Top (Jobs n) h (omega arith) (ap (line_name p.byte) (count_sound (codes "jobs") p.line p.byte (words_of p) n (sym e)).0)
      (λ s. then_is (jobs_count (length ns) p.line p.byte (words_of p)) _ n counts)

  pub bounds_counted : (n : ℕ) → Stands text ns o → Ok n ≡ count_of (codes "bounds") p.line p.byte (words_of p) → Taken text p (Jobs 0) ns o (Bounds n) ns o
  bounds_counted n h e =
      counted (Jobs 0) (Bounds n) h tt (ap (line_name p.byte) (count_sound (codes "bounds") p.line p.byte (words_of p) n (sym e)).0)
      (λ s. then_is (count_of (codes "bounds") p.line p.byte (words_of p)) _ n (sym e))

-- where the name of a job line stands
front : (v : List ℕ) (vs : List (List ℕ)) → (z : List ℕ) × (joined 32 (v ∷ vs) ≡ v ++ z)
front v [] = ([], sym (append-nil v))
front v (u ∷ us) = (32 ∷ joined 32 (u ∷ us), refl)

named_place : (text : List ℕ) (p : Piece) (j : JobLine) (n : NamePlace) → Lies text p → cut 32 p.bytes.now ≡ job_words j
    → line_name p.byte (cut 32 p.bytes.now) ≡ n ∷ [] → (n.byte + n.length ≤ length text) × (slice text n ≡ j.name)
named_place text p j n h e q =
    let w = work_word j.work in
    let (z, f) = front j.name (map want_word j.wants) in
    let place : NamePlace = record { byte = p.byte + length w + 1; length = length j.name } in
    let named : place ∷ [] ≡ n ∷ [] = sym (ap (λ x. if_work x place) (work_complete j.work)) ∙ (sym (ap (line_name p.byte) e) ∙ q) in
    let same : place ≡ n = cc in
    let all : p.bytes.now ≡ w ++ (32 ∷ (j.name ++ z)) =
    sym (joined_cut 32 p.bytes.now) ∙ (ap (joined 32) e ∙ ap (λ t. w ++ (32 ∷ t)) f) in
    let a = part_of text w (32 ∷ (j.name ++ z)) p.byte (rw (← all) h.there) in
    let b = part_of text (32 ∷ []) (j.name ++ z) (p.byte + length w) a.1 in
    let c = part_of text j.name z (p.byte + length w + 1) b.1 in
    rw (← same) (
      omega (arith, h.within, ap length all, length-append w (32 ∷ (j.name ++ z)), length-append j.name z),
      sym c.0,
    )

-- what the book answers, as the line's
abbrev pub answered : ℕ → ℕ → Result ℕ Refusal → Result (Unit {0}) Fault
answered l b r = booked l b r tt

booked_ok : {B : Type 0} (l b : ℕ) (r : Result ℕ Refusal) (u : Unit {0}) (x : B) → answered l b r ≡ Ok u → booked l b r x ≡ Ok x
booked_ok l b (Ok m) u x e = refl
booked_ok l b (Err r) u x e = no_fault _ u e

booked_err : {B : Type 0} (l b : ℕ) (r : Result ℕ Refusal) (e : Fault) (x : B) → answered l b r ≡ Err e → booked l b r x ≡ Err e
booked_err l b (Ok m) e x q = no_ok tt e q
booked_err l b (Err r) e x q = ap Err (same_err _ e q)

-- a call that is refused alters nothing
unaltered : (m : Option Refusal) (a : ℕ) (after before : Plain) (l b : ℕ) (e : Fault)
    → answered l b (unless m a after before).answer ≡ Err e → (unless m a after before).after ≡ before
unaltered None a after before l b e q = no_ok tt e q
unaltered (Some x) a after before l b e q = refl

add_refused : (k : Work) (o : Plain) (label : Label) (l b : ℕ) (e : Fault) → answered l b (add k o label).answer ≡ Err e → (add k o label).after ≡ o
add_refused Job o label l b e q = unaltered (job_refusal o label) _ _ o l b e q
add_refused Check o label l b e q = unaltered (check_refusal o label) _ _ o l b e q

-- a line of the jobs section, with n of them due
module _ (text : List ℕ) (p : Piece) (ns : List NamePlace) (o : Plain) (e : Entry)
    (j : JobSaid (known_by text ns o) p e) where
  call : call_job (known_by text ns o) o j.line ≡ add e.work o e.label
  call = ap (λ k. add k o (label_in (known_by text ns o) j.line.wants)) j.work ∙ ap (add e.work o) j.label

  job_says : {r : Result JobLine Fault} (s : Reading) → Holds text ns o s → job_of (known_by text ns o) o p.line p.byte (cut 32 p.bytes.now) ≡ r
      → job_of s.known s.book p.line p.byte (cut 32 p.bytes.now) ≡ r
  job_says s h q =
      ap (λ k. job_of k s.book p.line p.byte (cut 32 p.bytes.now)) h.known
      ∙ (ap (λ k. job_of (known_by text ns o) k p.line p.byte (cut 32 p.bytes.now)) h.book ∙ q)

  asked : job_of (known_by text ns o) o p.line p.byte (cut 32 p.bytes.now) ≡ booked p.line p.byte (add e.work o e.label).answer j.line
  asked = then_is (job_line (known_by text ns o) p.line p.byte (cut 32 p.bytes.now)) _ j.line j.says ∙ ap (λ r. booked p.line p.byte r.answer j.line) call

  entered : (u : Unit {0}) (ns' : List NamePlace) (o' : Plain) → Lies text p → answered p.line p.byte (add e.work o e.label).answer ≡ Ok u
      → o' ≡ (add e.work o e.label).after → ns' ≡ slice_set ns (length o.jobs - 1) e.name
      → JobEntered text p.line p.byte (cut 32 p.bytes.now) ns o ns' o'
  entered u ns' o' h q a n =
      let w = job_sound (known_by text ns o) p.line p.byte (cut 32 p.bytes.now) j.line j.says in
      let at = named_place text p j.line e.name h w.0 j.name in
      record {
        line = j.line;
        place = e.name;
        says = asked ∙ booked_ok p.line p.byte (add e.work o e.label).answer u j.line q;
        book = a ∙ ap (λ r. r.after) (sym call);
        named = j.name;
        inside = at.0;
        spelled = at.1;
        noted = n;
      }

  pub job_taken : (n : ℕ) (u : Unit {0}) (ns' : List NamePlace) (o' : Plain) → 1 ≤ n → Lies text p → Sound o → Stands text ns o
      → Due (length ns) (Jobs n) (length o.jobs) → answered p.line p.byte (add e.work o e.label).answer ≡ Ok u → o' ≡ (add e.work o e.label).after
      → ns' ≡ slice_set ns (length o.jobs - 1) e.name → Taken text p (Jobs n) ns o (Jobs (n - 1)) ns' o'
  unfolding entered
  job_taken zero u ns' o' some h s st due q a n = absurd (omega arith)
  job_taken (suc k) u ns' o' some h s st due q a n =
      let x = entered u ns' o' h q a n in
      let room : length o.jobs ≤ length ns = omega arith in
      let one = one_more text p.line p.byte (cut 32 p.bytes.now) ns o ns' o' x s st room in
      let one_name = ap length x.named in
      let fewer : suc k - 1 ≡ k = omega arith in
      rw fewer (record {
        room = same_room text p.line p.byte (cut 32 p.bytes.now) ns o ns' o' x s st room;
        stands = stands_after text p.line p.byte (cut 32 p.bytes.now) ns o ns' o' x s st room;
        due = omega (arith, one);
        noted = rw x.named n;
        more = omega (arith, one, one_name);
        says = λ t h. (
          with_job_line t x.line,
          job_holds text p.line p.byte (cut 32 p.bytes.now) ns o ns' o' x s st room t h,
          then_is (job_of t.known t.book p.line p.byte (cut 32 p.bytes.now)) _ x.line (job_says t h x.says),
        );
      })

  pub job_faulty : (n : ℕ) (f : Fault) (o' : Plain) → 1 ≤ n → answered p.line p.byte (add e.work o e.label).answer ≡ Err f
      → o' ≡ (add e.work o e.label).after → Faulty text p (Jobs n) ns o f ns o'
  job_faulty zero f o' some q a = absurd (omega arith)
  job_faulty (suc k) f o' some q a =
      let x = asked ∙ booked_err p.line p.byte (add e.work o e.label).answer f j.line q in
      record {
        book = a ∙ add_refused e.work o e.label p.line p.byte f q;
        noted = refl;
        says = λ t h. then_no (job_of t.known t.book p.line p.byte (cut 32 p.bytes.now)) _ _ (job_says t h x);
      }

-- a line is due where the last one has not been read
pub some_due : (n : ℕ) → finished (Bounds n) ≡ false → 1 ≤ n
some_due zero e = cc
some_due (suc n) e = omega arith

-- a line of the bounds section, with n of them due
module _ (text : List ℕ) (p : Piece) (ns : List NamePlace) (o : Plain) (x : Bound)
    (j : BoundSaid (known_by text ns o) p x) where
  bound_says : {r : Result BoundLine Fault} (s : Reading) → Holds text ns o s → bound_of (known_by text ns o) o p.line p.byte (words_of p) ≡ r
      → bound_of s.known s.book p.line p.byte (words_of p) ≡ r
  bound_says s h q = ap (λ k. bound_of k s.book p.line p.byte (words_of p)) h.known
      ∙ (ap (λ k. bound_of (known_by text ns o) k p.line p.byte (words_of p)) h.book ∙ q)

  bound_asked : bound_of (known_by text ns o) o p.line p.byte (words_of p) ≡ booked p.line p.byte (add_bound o x).answer j.line
  bound_asked = then_is (bound_line (known_by text ns o) p.line p.byte (words_of p)) _ j.line j.says
      ∙ ap (λ y. booked p.line p.byte (add_bound o y).answer j.line) j.bound

  unnamed : line_name p.byte (words_of p) ≡ []
  unnamed =
      let w = (bound_sound (known_by text ns o) p.line p.byte (words_of p) j.line j.says).0 in
      ap (line_name p.byte) w ∙ rw (no_work j.line.kind) refl

  pub bound_taken : (n : ℕ) (u : Unit {0}) (o' : Plain) → 1 ≤ n → Stands text ns o → answered p.line p.byte (add_bound o x).answer ≡ Ok u
      → o' ≡ (add_bound o x).after
      → Taken text p (Bounds n) ns o (Bounds (n - 1)) ns o'
  bound_taken zero u o' some st q a = absurd (omega arith)
  bound_taken (suc k) u o' some st q a =
      let y : BoundEntered text p.line p.byte (words_of p) ns o o' = record {
        line = j.line;
        says = bound_asked ∙ booked_ok p.line p.byte (add_bound o x).answer u j.line q;
        book = a ∙ ap (λ z. (add_bound o z).after) (sym j.bound);
      } in
      let same_jobs = ap length (jobs_stay text p.line p.byte (words_of p) ns o ns o' y st) in
      let fewer : suc k - 1 ≡ k = omega arith in
      rw fewer (record {
        room = refl;
        stands = bound_stands text p.line p.byte (words_of p) ns o ns o' y st;
        due = tt;
        noted = rw unnamed refl;
        more = omega (arith, same_jobs, ap length unnamed);
        says = λ t h. (
          with_bound_line t y.line,
          bound_holds text p.line p.byte (words_of p) ns o ns o' y st t h,
          then_is (bound_of t.known t.book p.line p.byte (words_of p)) _ y.line (bound_says t h y.says),
        );
      })

  pub bound_faulty : (n : ℕ) (f : Fault) (o' : Plain) → 1 ≤ n → answered p.line p.byte (add_bound o x).answer ≡ Err f → o' ≡ (add_bound o x).after
      → Faulty text p (Bounds n) ns o f ns o'
  bound_faulty zero f o' some q a = absurd (omega arith)
  bound_faulty (suc k) f o' some q a =
      let y = bound_asked ∙ booked_err p.line p.byte (add_bound o x).answer f j.line q in
      record {
        book = a ∙ unaltered (bound_refusal o x) _ _ o p.line p.byte f q;
        noted = refl;
        says = λ t h. then_no (bound_of t.known t.book p.line p.byte (words_of p)) _ _ (bound_says t h y);
      }

-- what begins with another word is no line that says a count, enters a job or sets a bound
no_count : (key : List ℕ) (l b : ℕ) (w : List ℕ) (ws : List (List ℕ)) → same w key ≡ false → count_of key l b (w ∷ ws) ≡ Err (fault_at WrongLine l b)
no_count key l b w [] e = refl
no_count key l b w (v ∷ []) e = rw e refl
no_count key l b w (v ∷ (u ∷ us)) e = refl

no_job : (ks : List Known) (l b : ℕ) (w : List ℕ) (ws : List (List ℕ)) → work_of w ≡ None → job_line ks l b (w ∷ ws) ≡ Err (fault_at WrongLine l b)
no_job ks l b w [] e = refl
no_job ks l b w (v ∷ vs) e = rw e refl

no_bound : (ks : List Known) (l b : ℕ) (w : List ℕ) (ws : List (List ℕ)) → kind_of w ≡ None → bound_line ks l b (w ∷ ws) ≡ Err (fault_at WrongLine l b)
no_bound ks l b w [] e = refl
no_bound ks l b w (v ∷ []) e = refl
no_bound ks l b w (v ∷ (u ∷ [])) e = refl
no_bound ks l b w (v ∷ (u ∷ (t ∷ []))) e = rw e refl
no_bound ks l b w (v ∷ (u ∷ (t ∷ (r ∷ rs)))) e = refl

-- a word of another head is none of those that have this one
other_word : (key w : List ℕ) → (head_of w ≡ head_of key → ⊥) → same w key ≡ false
other_word key w unlike = go (same w key) refl
  where
    go : (t : Bool) → same w key ≡ t → same w key ≡ false
    go true d = absurd (unlike (ap head_of ((same_decides w key).0 d)))
    go false d = d

work_head : (k : Work) → head_of (work_word k) ≡ OneJob
work_head Job = refl
work_head Check = refl

other_work : (w : List ℕ) → (head_of w ≡ OneJob → ⊥) → work_of w ≡ None
other_work w unlike = go (work_of w) refl
  where
    go : (r : Option Work) → work_of w ≡ r → work_of w ≡ None
    go (Some k) e = absurd (unlike (ap head_of (work_sound w k e) ∙ work_head k))
    go None e = e

kind_head : (k : Kind) → head_of (kind_word k) ≡ OneBound
kind_head Least = refl
kind_head Most = refl

other_kind : (w : List ℕ) → (head_of w ≡ OneBound → ⊥) → kind_of w ≡ None
other_kind w unlike = go (kind_of w) refl
  where
    go : (r : Option Kind) → kind_of w ≡ r → kind_of w ≡ None
    go (Some k) e = absurd (unlike (ap head_of (kind_sound w k e) ∙ kind_head k))
    go None e = e

-- the count of bounds is no job
pub unlike_heads : BoundCount ≡ OneJob → ⊥
unlike_heads e = cc

-- a line that does not begin as its section has it
module _ (text : List ℕ) (p : Piece) (ns : List NamePlace) (o : Plain) (w : List ℕ) (ws : List (List ℕ)) (front : words_of p ≡ w ∷ ws) where
  stray : (x : Section) → ((s : Reading) → heard (length ns) x s p.line p.byte (w ∷ ws) ≡ Err (fault_at WrongLine p.line p.byte))
      → Faulty text p x ns o (fault_at WrongLine p.line p.byte) ns o
  stray x h = record { book = refl; noted = refl; says = λ s k. rw front (h s) }

  pub stray_at_top : (head_of w ≡ JobCount → ⊥) → Faulty text p Top ns o (fault_at WrongLine p.line p.byte) ns o
  stray_at_top unlike =
      let e = no_count (codes "jobs") p.line p.byte w ws (other_word (codes "jobs") w unlike) in
      stray Top (λ s. then_no (jobs_count (length ns) p.line p.byte (w ∷ ws)) _ _ (then_no (count_of (codes "jobs") p.line p.byte (w ∷ ws)) _ _ e))

  pub stray_in_jobs : (n : ℕ) → (n ≡ 0 → head_of w ≡ BoundCount → ⊥) → (1 ≤ n → head_of w ≡ OneJob → ⊥)
      → Faulty text p (Jobs n) ns o (fault_at WrongLine p.line p.byte) ns o
  stray_in_jobs zero last more =
      let e = no_count (codes "bounds") p.line p.byte w ws (other_word (codes "bounds") w (last refl)) in
      stray (Jobs 0) (λ s. then_no (count_of (codes "bounds") p.line p.byte (w ∷ ws)) _ _ e)
  stray_in_jobs (suc k) last more =
      let e = other_work w (more (omega arith)) in
      stray (Jobs (suc k)) (λ s. then_no (job_of s.known s.book p.line p.byte (w ∷ ws)) _ _
      (then_no (job_line s.known p.line p.byte (w ∷ ws)) _ _ (no_job s.known p.line p.byte w ws e)))

  pub stray_in_bounds : (n : ℕ) → 1 ≤ n → (head_of w ≡ OneBound → ⊥) → Faulty text p (Bounds n) ns o (fault_at WrongLine p.line p.byte) ns o
  stray_in_bounds zero some unlike = absurd (omega arith)
  stray_in_bounds (suc k) some unlike =
      let e = other_kind w unlike in
      stray (Bounds (suc k)) (λ s. then_no (bound_of s.known s.book p.line p.byte (w ∷ ws)) _ _
      (then_no (bound_line s.known p.line p.byte (w ∷ ws)) _ _ (no_bound s.known p.line p.byte w ws e)))
