-- What holds of every plain book: its checks are done where they are wanted, and it stays sound.
use Rattle.std.proofs.Common.{◌≡◌, ℕ, ◌+◌, ◌<◌, List, [], ◌∷◌, ◌++◌, length, get_or, take, sym, refl, ap, ◌∙◌}
use Rattle.std.specs.List.{AllByRecursion}
use Rattle.std.proofs.lemmas.List.{take_more}
use Rattle.book.specs.declared.parts.Label.{Label}
use Rattle.book.specs.declared.parts.Call.{Call}
use Rattle.book.specs.declared.parts.Call.TheVariants.{AddJob, AddCheck, AddBound, Withdraw}
use Rattle.book.specs.Labels.{Meets, Contains}
use Rattle.book.specs.Plain.{Plain, new_book, job, asking}
use Rattle.book.specs.Sound.{Sound}
use Rattle.book.specs.Fed.{Answer, Handed, fed, fed_one, fed_from, answers, answer_one}
use Rattle.book.specs.Theorems.{ChecksDone, StaysSound}
use Rattle.book.proofs.Kept.{new_sound, add_job_keeps, add_check_keeps, add_bound_keeps, withdraw_keeps}

-- a case that meets a label meets every label that it contains
pub contained_met : (l m : Label) (s : ℕ) → Contains l m → Meets l s → Meets m s
contained_met l m s within meets k h = (λ w. (meets k h).0 ((within k).0 w), λ w. (meets k h).1 ((within k).1 w))

pub checks_done : ChecksDone
checks_done b sound s j c h done named = contained_met (job b j).label (job b (asking b c)).label s ((sound.each_job j h).whole c named) done

pub one_keeps : (b : Plain) (c : Call) → Handed c → Sound b → Sound (fed_one b c)
one_keeps b (AddJob l) h s = add_job_keeps b l h.0 h.1 s
one_keeps b (AddCheck l) h s = add_check_keeps b l h.0 h.1 s
one_keeps b (AddBound l) h s = add_bound_keeps b l s
one_keeps b (Withdraw n) h s = withdraw_keeps b n s

all_keep : (b : Plain) (cs : List Call) → AllByRecursion Handed cs → Sound b → Sound (fed_from b cs)
all_keep b [] h s = s
all_keep b (c ∷ cs) h s = all_keep (fed_one b c) cs h.1 (one_keeps b c h.0 s)

pub stays_sound : StaysSound
stays_sound calls h = all_keep _ calls h new_sound

-- one call more at the end
pub fed_push : (b : Plain) (cs : List Call) (c : Call) → fed_from b (cs ++ c ∷ []) ≡ fed_one (fed_from b cs) c
fed_push b [] c = refl
fed_push b (d ∷ cs) c = fed_push (fed_one b d) cs c

pub answers_push : (b : Plain) (cs : List Call) (c : Call) → answers b (cs ++ c ∷ []) ≡ answers b cs ++ answer_one (fed_from b cs) c ∷ []
answers_push b [] c = refl
answers_push b (d ∷ cs) c = ap (λ t. answer_one b d ∷ t) (answers_push (fed_one b d) cs c)

-- one turn of the loop over the calls
pub carried :
    (cs : List Call) (i : ℕ) (d : Call) (b b' : Plain) (xs ys : List Answer) (r : Answer)
    → i < length cs
    → b ≡ fed (take i cs)
    → xs ≡ answers new_book (take i cs)
    → r ≡ answer_one b (get_or cs i d)
    → b' ≡ fed_one b (get_or cs i d)
    → ys ≡ xs ++ r ∷ []
    → (b' ≡ fed (take (i + 1) cs)) × (ys ≡ answers new_book (take (i + 1) cs))
carried cs i d b b' xs ys r h eb ea er e' f =
    let m = take_more cs i d h in
    let x = get_or cs i d in (
      e' ∙ (ap (λ p. fed_one p x) eb ∙ (sym (fed_push new_book (take i cs) x) ∙ ap fed (sym m))),
      f
          ∙ (ap (λ p. p ++ r ∷ []) ea
          ∙ (ap (λ p. answers new_book (take i cs) ++ p ∷ []) (er ∙ ap (λ p. answer_one p x) eb)
          ∙ (sym (answers_push new_book (take i cs) x) ∙ ap (answers new_book) (sym m)))),
    )
