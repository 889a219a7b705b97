use Rattle.std.proofs.Common.{◌≡◌, ◌<◌, length, take, Decides, pos, sym, ap, ◌∙◌, subst, arith, rules, tests}
use Rattle.std.specs.List.{AllWithin}
use Rattle.std.proofs.lemmas.Iterator.{cases_from_all, YieldsList-from_slice}
use Rattle.std.proofs.lemmas.List.{length-take, get_or-take}
use Rattle.rules.specs.Rules.{SoundAlternative}
use Rattle.rules.specs.Rows.{step_of}
use Rattle.rules.specs.declared.rows.Step.{Step}
use Rattle.rules.proofs.RowRules.{row_alternative, row_count}
use Rattle.listed.proofs.Decided.{all_decides, decides_as}
use Rattle.listed.proofs.sound.row_sound.Goals as goal

pub returns : goal.returns
returns c =
    let row = c.args.row in
    let steps = take c.count.result row.alternatives in
    let P : Step → Type 0 = λ s. SoundAlternative c.args.places (step_of s) in
    let blank : Step = record { place = 0; minutes = pos 0 } in
    let by_call : Decides c.all.result (AllWithin P steps 0 (length steps)) = all_decides P blank steps _
    (cases_from_all _ _ _ P (λ s. P s → ⊥) c.all.ensures.ran (YieldsList-from_slice steps cc)
    (λ x q k. search (rules, tests)) (λ x q k. search (rules, tests))) in
    let five : length row.alternatives ≡ 5 = search rules in
    decides_as by_call
    (λ h. record {
      within = omega arith;
      some = omega (arith, row_count row);
      few = omega (arith, row_count row);
      each = λ a i. let j : a < c.count.result = omega (arith, c.count.ensures) in
          subst (SoundAlternative c.args.places)
          (ap step_of (get_or-take c.count.result row.alternatives a blank j)
          ∙ sym (row_alternative row a blank (omega (arith, row_count row, c.count.ensures)) (omega (arith, row_count row, c.count.ensures))))
          (h a blank (omega arith) (omega (arith, length-take c.count.result row.alternatives, row_count row, c.count.ensures)));
    })
    (λ s k d low high. let j : k < c.count.result = omega (arith, length-take c.count.result row.alternatives) in
    subst (SoundAlternative c.args.places)
    (row_alternative row k d (omega (arith, row_count row, c.count.ensures)) (omega (arith, row_count row, c.count.ensures))
    ∙ sym (ap step_of (get_or-take c.count.result row.alternatives k d j)))
    (s.each k (omega (arith, c.count.ensures))))
