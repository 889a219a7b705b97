use Rattle.std.proofs.Common.{◌≡◌, [], ◌∷◌, sym, ap, ◌∙◌, subst}
use Rattle.book.specs.Labels.{names}
use Rattle.book.specs.Plain.{job}
use Rattle.book.specs.Held.{held}
use Rattle.rules.specs.Tables.{Adds}
use Rattle.grades.specs.Systems.{check_hold}
use Rattle.systems.proofs.Holding.{check_if}
use Rattle.systems.proofs.Adding.{adds_none, adds_more, adds_when, adds_not}
use Rattle.systems.proofs.holds.add_checks_of.Goals as goal
use Rattle.systems.proofs.holds.add_checks_of.Goals.{then-names, else-names}

pub loop-c-init : goal.loop-c-init
loop-c-init c = adds_none 164 c.args.out.now

pub loop-c-preserved : goal.loop-c-preserved
loop-c-preserved c =
    let b = held c.args.book.now in
    let j = c.args.j in
    let k = c.loop-c.c in
    let now = c.loop-c.out in
    let after = c.if-names.out in
    let test = names (job b j).label k in
    let same : c.names.result ≡ test = c.names.ensures ∙ ap (λ l. names l k) c.requires.is in
    let one = check_hold b j k in
    let more : Adds 164 now (check_if b j k) after =
    elim c.if-names.branch [
      | then-names w ↦
          let put = w.out-is ∙ subst (λ x. Adds 164 now (x ∷ []) w.push.new.self) w.check_hold.ensures w.push.ensures.adds in
          adds_when 164 test one now after (sym same ∙ w.if-names.true) put
      | else-names w ↦ adds_not 164 test one now after (sym same ∙ w.if-names.false) w.out-is
    ] in
    adds_more 164 c.args.out.now now after k (check_if b j) c.loop-c.invariant more
