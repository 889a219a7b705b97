-- The faults of a line's words, and of the book, are on that line.
use Rattle.std.proofs.Common.{◌≡◌, ℕ, ◌+◌, Bool, true, false, cond, leb, List, [], ◌∷◌, length, Some, None, Ok, Err, codes, Option, Result}
use Rattle.std.proofs.Common.{sym, refl, ap, ◌∙◌}
use Rattle.book.specs.declared.parts.Refusal.{Refusal}
use Rattle.book.specs.Plain.{Plain}
use Rattle.format.specs.declared.parts.FileFault.{FileFault}
use Rattle.format.specs.declared.parts.FileFault.TheVariants.{WrongLine, NotANumber, BadName, NameTaken, NameReserved, UnknownName, NamesShort}
use Rattle.format.specs.declared.parts.Fault.{Fault}
use Rattle.format.specs.Format.{Known, same, job_number, check_number, reserved_words}
use Rattle.format.specs.Entered.{call_job, call_bound}
use Rattle.format.specs.Faults.{fault_at, fault, then, given, booked, unless_taken, among, name_form, work_of, kind_of, sign_of, new_name, job_named}
use Rattle.format.specs.Faults.{check_named}
use Rattle.format.specs.Faults.{want_of, wants_of, natural_of, minutes_of, count_of, jobs_count, job_line, bound_line, job_of, bound_of}
use Rattle.format.proofs.Steps.{no_ok, same_err}

abbrev pub On : {A : Type 0} → ℕ → Result A Fault → Type 0
On l r = (e : Fault) → r ≡ Err e → e.line ≡ l

on_ok : {A : Type 0} (l : ℕ) (a : A) → On l (Ok a)
on_ok l a e q = no_ok a e q

on_fault : {A : Type 0} (n : FileFault) (l b : ℕ) → On {A = A} l (fault n l b)
on_fault n l b e q = sym (ap (λ f. f.line) (same_err (fault_at n l b) e q))

on_cond : {A : Type 0} (l : ℕ) (t : Bool) (x y : Result A Fault) → On l x → On l y → On l (cond t x y)
on_cond l true x y f g = f
on_cond l false x y f g = g

on_given : {A : Type 0} (n : FileFault) (l b : ℕ) (o : Option A) → On l (given o (fault_at n l b))
on_given n l b (Some a) = on_ok l a
on_given n l b None = on_fault n l b

on_taken : {A : Type 0} (n : FileFault) (l b : ℕ) (o : Option ℕ) (r : Result A Fault) → On l r → On l (unless_taken o (fault_at n l b) r)
on_taken n l b (Some j) r h = on_fault n l b
on_taken n l b None r h = h

on_booked : {A B : Type 0} (l b : ℕ) (r : Result A Refusal) (x : B) → On l (booked l b r x)
on_booked l b (Ok a) x = on_ok l x
on_booked l b (Err e) x = λ f q. sym (ap (λ v. v.line) (same_err _ f q))

on_then : {A B : Type 0} (l : ℕ) (r : Result A Fault) (f : A → Result B Fault) → On l r → ((a : A) → On l (f a)) → On l (then r f)
on_then l (Ok a) f g h = h a
on_then l (Err x) f g h = λ e q. sym (ap (λ v. v.line) (same_err x e q)) ∙ g x refl

module _ (ks : List Known) (l : ℕ) where
  on_new : (b : ℕ) (w : List ℕ) → On l (new_name ks l b w)
  on_new b w =
      let free = on_cond l (among w reserved_words) _ _ (on_fault NameReserved l b) (on_ok l w) in
      on_cond l (name_form w) _ _ (on_taken NameTaken l b (job_number ks w) _ free) (on_fault BadName l b)

  on_job_named : (b : ℕ) (w : List ℕ) → On l (job_named ks l b w)
  on_job_named b w = on_cond l (name_form w) _ _ (on_given UnknownName l b (job_number ks w)) (on_fault BadName l b)

  on_check_named : (b : ℕ) (w : List ℕ) → On l (check_named ks l b w)
  on_check_named b w = on_cond l (name_form w) _ _ (on_given UnknownName l b (check_number ks w)) (on_fault BadName l b)

  on_want : (b : ℕ) (w : List ℕ) → On l (want_of ks l b w)
  on_want b [] = on_fault BadName l b
  on_want b (c ∷ w) =
      on_then l (given (sign_of c) _) _ (on_given BadName l b (sign_of c)) (λ s.
      on_then l (check_named ks l b w) _ (on_check_named b w) (λ n. on_ok l _))

  on_wants : (b : ℕ) (ws : List (List ℕ)) → On l (wants_of ks l b ws)
  on_wants b [] = on_ok l []
  on_wants b (w ∷ ws) =
      let more = on_wants (b + length w + 1) ws in
      on_then l (want_of ks l b w) _ (on_want b w) (λ a. on_then l (wants_of ks l (b + length w + 1) ws) _ more (λ xs. on_ok l _))

  on_job_line : (b : ℕ) (ws : List (List ℕ)) → On l (job_line ks l b ws)
  on_job_line b [] = on_fault WrongLine l b
  on_job_line b (w ∷ []) = on_fault WrongLine l b
  on_job_line b (w ∷ (v ∷ vs)) =
      on_then l (given (work_of w) _) _ (on_given WrongLine l b (work_of w)) (λ k.
      on_then l (new_name ks l (b + length w + 1) v) _ (on_new (b + length w + 1) v) (λ n.
      on_then l (wants_of ks l (b + length w + length v + 2) vs) _ (on_wants (b + length w + length v + 2) vs) (λ x. on_ok l _)))

  on_bound_line : (b : ℕ) (ws : List (List ℕ)) → On l (bound_line ks l b ws)
  on_bound_line b [] = on_fault WrongLine l b
  on_bound_line b (w ∷ []) = on_fault WrongLine l b
  on_bound_line b (w ∷ (v ∷ [])) = on_fault WrongLine l b
  on_bound_line b (w ∷ (v ∷ (u ∷ []))) = on_fault WrongLine l b
  on_bound_line b (w ∷ (v ∷ (u ∷ (t ∷ (r ∷ rs))))) = on_fault WrongLine l b
  on_bound_line b (w ∷ (v ∷ (u ∷ (t ∷ [])))) =
      on_then l (given (kind_of w) _) _ (on_given WrongLine l b (kind_of w)) (λ k.
      on_then l (job_named ks l (b + length w + 1) v) _ (on_job_named (b + length w + 1) v) (λ m.
      on_then l (job_named ks l (b + length w + length v + 2) u) _ (on_job_named (b + length w + length v + 2) u) (λ n.
      on_then l (given (minutes_of t) _) _ (on_given NotANumber l (b + length w + length v + length u + 3) (minutes_of t)) (λ z. on_ok l _))))

pub on_job : (ks : List Known) (o : Plain) (l b : ℕ) (ws : List (List ℕ)) → On l (job_of ks o l b ws)
on_job ks o l b ws = on_then l (job_line ks l b ws) _ (on_job_line ks l b ws) (λ j. on_booked l b (call_job ks o j).answer j)

pub on_bound : (ks : List Known) (o : Plain) (l b : ℕ) (ws : List (List ℕ)) → On l (bound_of ks o l b ws)
on_bound ks o l b ws = on_then l (bound_line ks l b ws) _ (on_bound_line ks l b ws) (λ x. on_booked l b (call_bound ks o x).answer x)

pub on_count : (key : List ℕ) (l b : ℕ) (ws : List (List ℕ)) → On l (count_of key l b ws)
on_count key l b [] = on_fault WrongLine l b
on_count key l b (w ∷ []) = on_fault WrongLine l b
on_count key l b (w ∷ (v ∷ (u ∷ us))) = on_fault WrongLine l b
on_count key l b (w ∷ (v ∷ [])) = on_cond l (same w key) _ _ (on_given NotANumber l (b + length w + 1) (natural_of 2 v)) (on_fault WrongLine l b)

pub on_jobs_count : (room l b : ℕ) (ws : List (List ℕ)) → On l (jobs_count room l b ws)
on_jobs_count room l b ws =
    on_then l (count_of (codes "jobs") l b ws) _ (on_count (codes "jobs") l b ws) (λ n. on_cond l (leb n room) _ _ (on_ok l n) (on_fault NamesShort l b))
