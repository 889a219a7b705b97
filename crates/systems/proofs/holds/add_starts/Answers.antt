use Rattle.std.proofs.Common.{not, eqb, [], ◌∷◌, ◌∙◌, subst, arith}
use Rattle.std.proofs.lemmas.Bool.Decides.{nat_tests}
use Rattle.rules.specs.Tables.{Adds}
use Rattle.grades.specs.Systems.{start_hold}
use Rattle.systems.proofs.Holding.{start_if}
use Rattle.systems.proofs.Adding.{adds_none, adds_more, adds_when, adds_not}
use Rattle.systems.proofs.holds.add_starts.Goals as goal
use Rattle.systems.proofs.holds.add_starts.Goals.{then-j-ne0, else-j-ne0}

pub loop-j-init : goal.loop-j-init
loop-j-init c = adds_none 164 c.args.out.now

pub loop-j-preserved : goal.loop-j-preserved
loop-j-preserved c =
    let j = c.loop-j.j in
    let test = not (eqb j 0) in
    let one = start_hold j in
    let now = c.loop-j.out in
    let after = c.if-j-ne0.out in
    let more : Adds 164 now (start_if j) after =
    elim c.if-j-ne0.branch [
      | then-j-ne0 w ↦
          let put = w.out-is ∙ subst (λ x. Adds 164 now (x ∷ []) w.push.new.self) w.start_hold.ensures w.push.ensures.adds in
          adds_when 164 test one now after (grind (arith, nat_tests, w.if-j-ne0.true)) put
      | else-j-ne0 w ↦ adds_not 164 test one now after (grind (arith, nat_tests, w.if-j-ne0.false)) w.out-is
    ] in
    adds_more 164 c.args.out.now now after j start_if c.loop-j.invariant more
