use Rattle.std.proofs.Common.{◌≡◌, [], ◌∷◌, ◌++◌, pos, sym, ap, ◌∙◌, append-nil, arith}
use Rattle.book.specs.Held.{held, held_sound}
use Rattle.rules.specs.declared.parts.Alternative.{Alternative}
use Rattle.rules.specs.Rows.{rule_of}
use Rattle.grades.specs.Systems.{place, when, tells_apart}
use Rattle.systems.proofs.Between.{told, told_if, longer}
use Rattle.systems.proofs.unknown.Pair.row.Goals as goal
use Rattle.systems.proofs.unknown.Pair.row.Goals.{then-told_apart, else-told_apart}

pub with_step-row-requires : goal.with_step-row-requires
with_step-row-requires c =
    record { room = omega (arith, c.loop-c.invariant.1, c.checks-c-end.ensures, (held_sound c.args.self.now.book.now).few_checks) }

pub loop-c-preserved : goal.loop-c-preserved
loop-c-preserved c =
    let b = held c.args.self.now.book.now in
    let s = c.args.self.now.case in
    let t = c.args.self.now.other in
    let k = c.loop-c.c in
    let x = rule_of c.loop-c.row in
    let y = rule_of c.if-told_apart.row in
    let first : Alternative = record { place = place b t c.args.j; minutes = pos 0 } in
    let test = tells_apart b s t k in
    let same : c.told_apart.result ≡ test = c.told_apart.ensures in
    let next = longer x y (place b s c.args.j) first k (told_if b s t) c.loop-c.invariant.0 in
    elim c.if-told_apart.branch [
      | then-told_apart w ↦
          let where-asked = w.place-then-told_apart.ensures ∙ ap (λ i. place b s i) w.asking.ensures in
          let one : y.alternatives ≡ x.alternatives ++ told b s k ∷ [] =
          ap (λ r. (rule_of r).alternatives) w.row-is
          ∙ (w.with_step-row.ensures.alternatives ∙ ap (λ p. x.alternatives ++ record { place = p; minutes = pos 1 } ∷ []) where-asked) in (
            next (ap (λ r. (rule_of r).held) w.row-is ∙ w.with_step-row.ensures.held)
                (one ∙ ap (λ z. x.alternatives ++ when z (told b s k ∷ [])) (sym (sym same ∙ w.if-told_apart.true))),
            omega (arith, ap (λ r. r.count) w.row-is, w.with_step-row.ensures.count, c.loop-c.invariant.1),
          )
      | else-told_apart w ↦ (
        next (ap (λ r. (rule_of r).held) w.row-is)
            (ap (λ r. (rule_of r).alternatives) w.row-is ∙ (sym (append-nil x.alternatives)
            ∙ ap (λ z. x.alternatives ++ when z (told b s k ∷ [])) (sym (sym same ∙ w.if-told_apart.false)))),
        omega (arith, ap (λ r. r.count) w.row-is, c.loop-c.invariant.1),
      )
    ]
