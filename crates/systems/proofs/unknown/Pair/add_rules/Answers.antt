use Rattle.std.proofs.Common.{◌≡◌, List, [], ◌∷◌, map, length, sym, ap, ◌∙◌, subst, arith}
use Rattle.book.specs.Held.{held}
use Rattle.book.specs.declared.parts.Job.{Job}
use Rattle.rules.specs.Rows.{rule_of}
use Rattle.rules.specs.Tables.{Adds}
use Rattle.grades.specs.Systems.{each_below, when, both_do, unknown_rule}
use Rattle.systems.proofs.Between.{unknown_if}
use Rattle.systems.proofs.Adding.{adds_none, adds_more, adds_when, adds_not, adds_made}
use Rattle.systems.proofs.unknown.Pair.add_rules.Goals as goal
use Rattle.systems.proofs.unknown.Pair.add_rules.Goals.{then-both_do, else-both_do}

pub loop-j-init : goal.loop-j-init
loop-j-init c = adds_none 8192 (map rule_of c.args.out.now)

pub loop-j-preserved : goal.loop-j-preserved
loop-j-preserved c =
    let b = held c.args.self.now.book.now in
    let s = c.args.self.now.case in
    let t = c.args.self.now.other in
    let j = c.loop-j.j in
    let test = both_do b s t j in
    let x = unknown_rule b s t j in
    let now = map rule_of c.loop-j.out in
    let after = map rule_of c.if-both_do.out in
    let same : c.both_do.result ≡ test = c.both_do.ensures in
    let more : Adds 8192 now (when test (x ∷ [])) after =
    elim c.if-both_do.branch [
      | then-both_do w ↦
          let put = adds_made 8192 rule_of c.loop-j.out (w.row.result ∷ []) w.push.new.self w.push.ensures.adds in
          let one = subst (λ y. Adds 8192 now (y ∷ []) (map rule_of w.push.new.self)) w.row.ensures put in
          adds_when 8192 test x now after (sym same ∙ w.if-both_do.true) (ap (map rule_of) w.out-is ∙ one)
      | else-both_do w ↦ adds_not 8192 test x now after (sym same ∙ w.if-both_do.false) (ap (map rule_of) w.out-is)
    ] in
    adds_more 8192 (map rule_of c.args.out.now) now after j (unknown_if b s t) c.loop-j.invariant more

pub returns : goal.returns
returns c =
    let b = held c.args.self.now.book.now in
    let f = unknown_if b c.args.self.now.case c.args.self.now.other in
    let end : c.loop-j.j ≡ length b.jobs = omega (arith, ap (λ (js : List Job). length js) c.jobs-j-end.ensures) in
    subst (λ n. Adds 8192 (map rule_of c.args.out.now) (each_below n f) (map rule_of c.loop-j.out)) end c.loop-j.invariant
