-- Counting the checks of a list of jobs, and finding one, with one job more.
use Rattle.std.proofs.Common.{◌≡◌, ℕ, ◌+◌, ◌<◌, ◌≤◌, Bool, true, false, cond, not, eqb, List, [], ◌∷◌, ◌++◌, length, get_or, Some, None, Option}
use Rattle.std.proofs.Common.{MatchOption, is_some, nat_eq, ltb, subst, refl, sym, ap, ◌∙◌, arith}
use Rattle.std.specs.List.{count_by, position_or_len}
use Rattle.std.specs.Option.{option_eq}
use Rattle.std.proofs.lemmas.List.{get_or_past}
use Rattle.std.proofs.lemmas.List.Folds.{prefix_len-append}
use Rattle.std.proofs.lemmas.List.Sums.{sum_by_push, passes_at_first, prefix_len-le-length}
use Rattle.std.proofs.lemmas.Bool.Decides.{nat_tests, Decides-eqb}
use Rattle.book.specs.declared.parts.Job.{Job}
use Rattle.book.specs.declared.parts.Label.{Label}
use Rattle.book.specs.Plain.{Plain, is_check, asking, job, empty_label, no_job}
use Rattle.book.specs.Done.{check_job}
use Rattle.book.proofs.Tests.{differ, not-true}

abbrev pub one_if_check : Option ℕ → ℕ
one_if_check o = cond (is_some o) 1 0

-- one job more at the end
pub count_push : (xs : List Job) (x : Job) → count_by (λ j. is_some j.check) (xs ++ x ∷ []) ≡ count_by (λ j. is_some j.check) xs + one_if_check x.check
count_push xs x = sum_by_push (λ (j : Job). cond (is_some j.check) 1 0) xs x

-- the number of the first job that is check c
abbrev pub place : List Job → ℕ → ℕ
place xs c = position_or_len (λ j. is_check j c) xs

differs : (a b : ℕ) → a < b → eqb a b ≡ false
differs a b h = not-true (eqb a b) (λ e. let f = (Decides-eqb a b).0 e in omega arith)

pub place_push : (xs ys : List Job) (c : ℕ) → place xs c < length xs → place (xs ++ ys) c ≡ place xs c
place_push xs ys c h =
    prefix_len-append _ xs ys ∙ ap (λ t. cond t (length xs + place ys c) (place xs c)) (differs (place xs c) (length xs) h)

pub place_past : (xs ys : List Job) (c : ℕ) → length xs ≤ place xs c → place (xs ++ ys) c ≡ length xs + place ys c
place_past xs ys c h =
    let l = prefix_len-le-length (λ (j : Job). not (is_check j c)) xs in
    let e : eqb (place xs c) (length xs) ≡ true = (Decides-eqb (place xs c) (length xs)).1 (omega arith) in
    prefix_len-append _ xs ys ∙ ap (λ t. cond t (length xs + place ys c) (place xs c)) e

is_number : (o : Option ℕ) (c : ℕ) → option_eq nat_eq o (Some c) ≡ true → o ≡ Some c
is_number None c e = absurd (differ (sym e))
is_number (Some d) c e = ap Some ((Decides-eqb d c).0 e)

-- the job that is found is that check
pub place_found : (xs : List Job) (c : ℕ) (d : Job) → place xs c < length xs → (get_or xs (place xs c) d).check ≡ Some c
place_found xs c d h = is_number _ c (passes_at_first (λ (j : Job). is_check j c) xs d h)

-- the label of check c, from the job that it is, if any
pub label_of_check :
    (b : Plain) (c : ℕ) (r : Option ℕ) (l m : Label) {Q : ℕ → Type 0}
    → r ≡ check_job b c
    → (l.yes ≡ 0) × (l.no ≡ 0)
    → MatchOption r (m ≡ l) Q
    → ((j : ℕ) → Q j → m ≡ (job b j).label)
    → m ≡ (job b (asking b c)).label
label_of_check b c r l m {Q} e empty h found = by (ltb (asking b c) (length b.jobs)) refl
  where
    at : (t : Bool) → ltb (asking b c) (length b.jobs) ≡ t → MatchOption (cond t (Some (asking b c)) None) (m ≡ l) Q
    at t f = subst (λ (o : Option ℕ). MatchOption o (m ≡ l) Q) (e ∙ ap (λ x. cond x (Some (asking b c)) None) f) h

    by : (t : Bool) → ltb (asking b c) (length b.jobs) ≡ t → m ≡ (job b (asking b c)).label
    by true f = found (asking b c) (at true f)
    by false f =
        let past : length b.jobs ≤ asking b c = grind (arith, nat_tests) in
        let none : l ≡ empty_label = λ i. record { yes = empty.0 i; no = empty.1 i } in
        at false f ∙ (none ∙ sym (ap (λ (x : Job). x.label) (get_or_past b.jobs (asking b c) no_job past)))
