use Rattle.std.proofs.Common.{◌+◌, ◌<◌, Bool, true, false, length, sym, refl, ap, ◌∙◌, subst, arith}
use Rattle.rules.specs.Rules.{rule}
use Rattle.rules.specs.Search.{LeadsOut, Peels, same, drops}
use Rattle.rules.proofs.Peeling.{Sweeping, peels_in, sweeping_drops, sweeping_stays, not_both}
use Rattle.find.specs.declared.marks.Marks.{Marks}
use Rattle.find.proofs.Places.{rule_in}
use Rattle.find.proofs.marks.Marks.sweep.Goals as goal
use Rattle.find.proofs.marks.Marks.sweep.Goals.{then-self-p+then-leads_out, else-self-p}
use Rattle.find.proofs.marks.Marks.sweep.Goals.{else-self-p-via-then-self-p+else-leads_out, else-self-p-via-else-self-p}

pub loop-p-init : goal.loop-p-init
loop-p-init g c = (same, (refl, λ k h. absurd (omega arith)))

pub new-requires : goal.new-requires
new-requires g c =
    let m = g.T.RuleSystem.meaning c.args.system.now in
    let t = c.args.table.now in
    let p = c.loop-p.p in
    let was = peels_in m t.by c.args.self.now.inside c.loop-p.self.inside c.loop-p.invariant.0 p c.if-self-p.true in
    subst (λ r. r < length m.rules) (rule_in c.table.inside.places t c.table.view_is c.places.result p c.loop-p-test.true) (c.requires p was).within

pub loop-p-preserved : goal.loop-p-preserved
loop-p-preserved g c =
    let m = g.T.RuleSystem.meaning c.args.system.now in
    let by = c.args.table.now.by in
    let before = c.args.self.now.inside in
    let here = c.loop-p.self.inside in
    let p = c.loop-p.p in
    let (peels, sweeping) = c.loop-p.invariant in
    let P : Marks → Bool → Type 0 = λ x d. Peels m by before x.inside × Sweeping m by (p + 1) before x.inside d in
    let stays = sweeping_stays m by p before here c.loop-p.dropped sweeping in
    let by_here = ap (rule m) (sym (rule_in c.table.inside.places c.args.table.now c.table.view_is c.places.result p c.loop-p-test.true)) in
    elim c.if-self-p.branch [
      | then-self-p+then-leads_out w ↦
          subst (λ x. P x c.if-self-p.dropped) (sym w.self-is)
          (subst (P _) (sym w.dropped-is) (
            drops p peels w.if-self-p.true (subst (λ k. LeadsOut k here true) (w.new.ensures ∙ by_here) w.if-leads_out.ensures),
            sweeping_drops m by p before here c.loop-p.dropped sweeping
                w.if-self-p.true,
          ))
      | else-self-p w ↦
          subst (λ x. P x c.if-self-p.dropped) (sym w.self-is)
          (subst (P _) (sym w.dropped-is)
          (elim w.else-self-p.branch [
            | else-self-p-via-then-self-p+else-leads_out v ↦
                (peels, stays (λ _. subst (λ k. LeadsOut k here false) (v.new.ensures ∙ by_here) v.if-leads_out.ensures))
            | else-self-p-via-else-self-p v ↦ (peels, stays (λ i. not_both _ i v.if-self-p.false))
          ]))
    ]
