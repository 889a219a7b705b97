-- What has been read after a line that is entered.
use Rattle.std.proofs.Common.{◌≡◌, ℕ, ◌-◌, ◌≤◌, false, cond, List, [], ◌∷◌, ◌++◌, length, get_or, take, drop, Some, None, Option}
use Rattle.std.proofs.Common.{sym, refl, ap, ◌∙◌, arith}
use Rattle.std.specs.List.{count_by}
use Rattle.std.specs.Option.{is_some}
use Rattle.std.proofs.lemmas.List.{length-drop, drop-append-le}
use Rattle.std.proofs.lemmas.List.Sums.{sum_by-cons}
use Rattle.book.specs.declared.parts.Job.{Job}
use Rattle.book.specs.Plain.{Plain, no_job, checks}
use Rattle.book.specs.Sound.{Sound}
use Rattle.format.specs.declared.parts.NamePlace.{NamePlace}
use Rattle.format.specs.Format.{start_known, one_if, checks_in, numbered, after}
use Rattle.format.specs.Entered.{label_in, call_job, call_bound}
use Rattle.format.specs.Faults.{Reading, with_job_line, with_bound_line}
use Rattle.reader.specs.Names.{slice, named, known_in, known_places, known_by, Named, Stands}
use Rattle.reader.specs.Going.{Holds}
use Rattle.reader.proofs.Naming.{stands_named}
use Rattle.reader.proofs.Entered.{JobEntered, BoundEntered, jobs_after, places_after, jobs_stay}

-- one more name and one more job are one more known
named_push : (text : List ℕ) (ns : List NamePlace) (p : NamePlace) (js : List Job) (j : Job) → length ns ≡ length js
    → named text (ns ++ (p ∷ [])) (js ++ (j ∷ [])) ≡ named text ns js ++ (record { name = slice text p; check = j.check } ∷ [])
named_push text [] p [] j h = refl
named_push text [] p (x ∷ js) j h = absurd (omega arith)
named_push text (n ∷ ns) p [] j h = absurd (omega arith)
named_push text (n ∷ ns) p (x ∷ js) j h = ap (λ t. record { name = slice text n; check = x.check } ∷ t) (named_push text ns p js j (omega arith))

-- the checks known are those of the book
one_same : (o : Option ℕ) → one_if o ≡ cond (is_some o) 1 0
one_same None = refl
one_same (Some c) = refl

abbrev counted : Job → ℕ
counted j = cond (is_some j.check) 1 0

named_checks : (text : List ℕ) (ns : List NamePlace) (js : List Job) → length ns ≡ length js
    → checks_in (named text ns js) ≡ count_by (λ j. is_some j.check) js
named_checks text [] [] h = refl
named_checks text [] (j ∷ js) h = absurd (omega arith)
named_checks text (n ∷ ns) [] h = absurd (omega arith)
named_checks text (n ∷ ns) (j ∷ js) h =
    let more = sum_by-cons counted j js in
    omega (arith, one_same j.check, named_checks text ns js (omega arith), more)

first_free : (js : List Job) → 1 ≤ length js → is_some (get_or js 0 no_job).check ≡ false
    → count_by (λ j. is_some j.check) js ≡ count_by (λ j. is_some j.check) (drop 1 js)
first_free [] h e = refl
first_free (j ∷ js) h e =
    let more = sum_by-cons counted j js in
    let none : counted j ≡ 0 = ap (λ t. cond t 1 0) e in
    omega (arith, more, none)

known_checks : (text : List ℕ) (ns : List NamePlace) (b : Plain) → Named text ns b → Sound b → checks_in (known_in text ns b) ≡ checks b
known_checks text ns b h s =
    let a = named_checks text ns (drop 1 b.jobs) (omega (arith, h.counted, length-drop 1 b.jobs)) in
    let z = first_free b.jobs s.some (ap is_some s.start_asks_nothing) in
    omega (arith, a, z)

module _ (text : List ℕ) (l b : ℕ) (ws : List (List ℕ)) (ns : List NamePlace) (o : Plain) (ns' : List NamePlace) (o' : Plain) where
  module _ (j : JobEntered text l b ws ns o ns' o') (s : Sound o) (h : Stands text ns o) (room : length o.jobs ≤ length ns) where
    known_after : after (known_by text ns o) j.line ≡ known_by text ns' o'
    known_after =
        let ks = known_places ns o in
        let js = drop 1 o.jobs in
        let nm = stands_named text ns o s h in
        let job : Job = record { label = label_in (known_by text ns o) j.line.wants; check = numbered j.line.work (checks o) } in
        let d : drop 1 o'.jobs ≡ js ++ (job ∷ []) =
        ap (drop 1) (jobs_after text l b ws ns o ns' o' j s h room) ∙ drop-append-le 1 o.jobs (job ∷ []) s.some in
        let push = named_push text ks j.place js job (omega (arith, nm.counted, length-drop 1 o.jobs)) in
        let c = known_checks text ks o nm s in
        let all : known_by text ns' o'
        ≡ start_known ∷ (named text ks js ++ (record { name = slice text j.place; check = numbered j.line.work (checks o) } ∷ [])) =
        ap (λ t. start_known ∷ named text t (drop 1 o'.jobs)) (places_after text l b ws ns o ns' o' j s h room)
        ∙ (ap (λ t. start_known ∷ named text (ks ++ (j.place ∷ [])) t) d ∙ ap (λ t. start_known ∷ t) push) in
        sym (all
        ∙ (ap (λ w. start_known ∷ (named text ks js ++ (record { name = w; check = numbered j.line.work (checks o) } ∷ []))) j.spelled
        ∙ ap (λ n. start_known ∷ (named text ks js ++ (record { name = j.line.name; check = numbered j.line.work n } ∷ []))) (sym c)))

    pub job_holds : (t : Reading) → Holds text ns o t → Holds text ns' o' (with_job_line t j.line)
    job_holds t k = record {
      known = ap (λ x. after x j.line) k.known ∙ known_after;
      book = ap (λ x. (call_job x t.book j.line).after) k.known
          ∙ (ap (λ x. (call_job (known_by text ns o) x j.line).after) k.book ∙ sym j.book);
    }

  module _ (j : BoundEntered text l b ws ns o o') (h : Stands text ns o) where
    pub bound_holds : (t : Reading) → Holds text ns o t → Holds text ns o' (with_bound_line t j.line)
    bound_holds t k = record {
      known = k.known
          ∙ ap (λ js. start_known ∷ named text (take (length js - 1) ns) (drop 1 js)) (sym (jobs_stay text l b ws ns o ns' o' j h));
      book = ap (λ x. (call_bound x t.book j.line).after) k.known
          ∙ (ap (λ x. (call_bound (known_by text ns o) x j.line).after) k.book ∙ sym j.book);
    }
