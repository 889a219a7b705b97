use Rattle.std.proofs.Common.{◌<◌, length, [], Decides, sym, subst, arith, rules, tests}
use Rattle.std.specs.List.{AllWithin}
use Rattle.std.proofs.lemmas.Iterator.{cases_from_all, YieldsList-from_slice}
use Rattle.std.proofs.lemmas.List.{length-map}
use Rattle.rules.specs.Rules.{SoundRule}
use Rattle.rules.specs.Rows.{rule_of}
use Rattle.rules.specs.declared.rows.Row.{Row}
use Rattle.rules.proofs.RowRules.{stored_rule}
use Rattle.listed.proofs.Decided.{all_decides, decides_as}
use Rattle.listed.proofs.sound.rows_sound.Goals as goal

pub returns : goal.returns
returns c =
    let rows = c.args.rows.now in
    let P : Row → Type 0 = λ row. SoundRule c.args.places (rule_of row) in
    let blank : Row = record { held = 0; count = 0; alternatives = [] } in
    let by_call : Decides c.all.result (AllWithin P rows 0 (length rows)) = all_decides P blank rows _
    (cases_from_all _ _ _ P (λ s. P s → ⊥) c.all.ensures.ran (YieldsList-from_slice rows cc)
    (λ x q k. search (rules, tests)) (λ x q k. search (rules, tests))) in
    decides_as by_call
    (λ h. record {
      some = omega arith;
      few = omega arith;
      few_rules = omega (arith, length-map rows rule_of);
      each = λ r i. let j : r < length rows = omega (arith, length-map rows rule_of) in
          subst (SoundRule c.args.places) (sym (stored_rule rule_of c.args.places rows r blank j)) (h r blank (omega arith) j);
    })
    (λ s k d low high. subst (SoundRule c.args.places) (stored_rule rule_of c.args.places rows k d high) (s.each k (omega (arith, length-map rows rule_of))))
