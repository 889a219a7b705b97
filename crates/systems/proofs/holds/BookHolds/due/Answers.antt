use Rattle.std.proofs.Common.{◌≡◌, ◌<◌, ◌≤◌, Bool, ◌&&◌, List, [], ◌∷◌, length, get_or, sym, ap, ◌∙◌, subst, arith}
use Rattle.std.proofs.lemmas.List.{map-id}
use Rattle.book.specs.Done.{done}
use Rattle.book.specs.Held.{held, held_sound}
use Rattle.rules.specs.Tables.{Adds}
use Rattle.grades.specs.declared.holds.Hold.{Hold}
use Rattle.grades.specs.Systems.{each_below, when, due, holds, holds_in}
use Rattle.grades.proofs.Limits.{holds_few, in_few}
use Rattle.systems.proofs.Adding.{adds_more, adds_when, adds_not, adds_all}
use Rattle.systems.proofs.Due.{no_hold, if_due, in_each, by_jobs}
use Rattle.systems.proofs.holds.BookHolds.due.Goals as goal
use Rattle.systems.proofs.holds.BookHolds.due.Goals.{then-due, else-due}

pub loop-hold-preserved : goal.loop-hold-preserved
loop-hold-preserved c =
    let b = held c.args.self.now.book.now in
    let s = c.args.case in
    let r = c.loop-hold.hold-index in
    let all : c.rules-hold-items.result.now ≡ holds b = c.rules-hold-items.ensures.all ∙ c.args.self.now.whole in
    let within : r < length (holds b) = omega (arith, ap length all) in
    let hold = get_or (holds b) r no_hold in
    let now = c.loop-hold.out in
    let after = c.if-due.out in
    let jobs : List Hold → Bool = λ hs. done b s (get_or hs r no_hold).held && done b s (get_or hs r no_hold).by in
    let same : c.due.result ≡ due b s hold = c.due.ensures ∙ (ap jobs all ∙ sym (by_jobs b s r within)) in
    let more : Adds 164 now (when (due b s hold) (hold ∷ [])) after =
    elim c.if-due.branch [
      | then-due w ↦
          let put = w.out-is ∙ subst (λ hs. Adds 164 now (get_or hs r no_hold ∷ []) w.push.new.self) all w.push.ensures.adds in
          adds_when 164 (due b s hold) hold now after (sym same ∙ w.if-due.true) put
      | else-due w ↦ adds_not 164 (due b s hold) hold now after (sym same ∙ w.if-due.false) w.out-is
    ] in
    adds_more 164 [] now after r (if_due b s (λ h. h)) c.loop-hold.invariant more

pub returns : goal.returns
returns c =
    let b = held c.args.self.now.book.now in
    let s = c.args.case in
    let sound = held_sound c.args.self.now.book.now in
    let f = if_due b s (λ h. h) in
    let all : c.rules-hold-items.result.now ≡ holds b = c.rules-hold-items.ensures.all ∙ c.args.self.now.whole in
    let end : c.loop-hold.hold-index ≡ length (holds b) = omega (arith, ap length all) in
    let made : each_below (length (holds b)) f ≡ holds_in b s (holds b) = sym (in_each b s (λ h. h) (holds b)) ∙ map-id (holds_in b s (holds b)) in
    let few : length (holds_in b s (holds b)) ≤ 164 = omega (arith, in_few b sound s (holds b), holds_few b sound) in
    adds_all 164 (holds_in b s (holds b)) c.loop-hold.out
    (subst (λ xs. Adds 164 [] xs c.loop-hold.out) (ap (λ n. each_below n f) end ∙ made) c.loop-hold.invariant) few
