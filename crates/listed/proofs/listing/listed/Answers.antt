use Rattle.std.proofs.Common.{◌≡◌, List, length, map, sym, refl, ap, ◌∙◌, subst}
use Rattle.rules.specs.Rules.{Rule, Sound}
use Rattle.rules.specs.Rows.{system_by, rule_of}
use Rattle.listed.specs.declared.numbered.Numbered.{Numbered}
use Rattle.listed.specs.Numbered.{bound_of, numbered}
use Rattle.listed.proofs.Numbers.{numbers_rules, numbers_long, numbers_bounds}
use Rattle.listed.proofs.listing.listed.Goals as goal

pub invariant_of-result : goal.invariant_of-result
invariant_of-result c =
    let rows = c.args.rows.now in
    let sound : Sound (system_by rule_of c.args.places rows) = c.if-not-rows_sound.ensures.0 refl in
    let same : map rule_of rows ≡ map (λ (x : Numbered). rule_of x.row) c.numbered-table.result =
    sym (ap (map (λ (x : Numbered). rule_of x.row)) c.numbered-table.ensures ∙ numbers_rules 0 rows) in
    record { sound = subst (λ (rules : List Rule). Sound (record { places = c.args.places; rules = rules })) same sound }

pub invariant_of-result-2 : goal.invariant_of-result-2
invariant_of-result-2 c =
    let rows = c.args.rows.now in
    let is = c.numbered-table.ensures in
    let long : length rows ≡ length c.numbered-table.result = sym (ap length is ∙ numbers_long 0 rows) in
    record { by_number = ap (map bound_of) is ∙ numbers_bounds 0 rows ∙ ap (λ n. numbered n 0) long }
