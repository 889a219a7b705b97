use Rattle.std.proofs.Common.{◌+◌, ◌≤◌, ◌++◌, ◌∷◌, [], length, take, get_or, sym, ap, ◌∙◌, arith}
use Rattle.std.proofs.lemmas.List.{take_all, length-take}
use Rattle.rules.specs.declared.rows.Row.{Row}
use Rattle.listed.specs.Numbered.{with_numbers}
use Rattle.listed.proofs.Numbers.{one_more, numbers_long}
use Rattle.listed.proofs.listing.numbered.Goals as goal

pub loop-number-init : goal.loop-number-init
loop-number-init c = c.new-table.ensures

pub loop-number-preserved : goal.loop-number-preserved
loop-number-preserved c =
    let i = c.loop-number.number in
    let rows = c.args.rows.now in
    let blank : Row = record { held = 0; count = 0; alternatives = [] } in
    let more = one_more rows i blank c.loop-number-test.true in
    let next = with_numbers 0 (take (i + 1) rows) in
    let few : length next ≤ 8192 = omega (arith, numbers_long 0 (take (i + 1) rows), length-take (i + 1) rows) in
    c.push.ensures.cut ∙ (ap (λ xs. take 8192 (xs ++ record { row = get_or rows i blank; number = i } ∷ [])) c.loop-number.invariant
    ∙ (ap (take 8192) (sym more) ∙ take_all 8192 next few))

pub returns : goal.returns
returns c = c.loop-number.invariant ∙ ap (with_numbers 0) (take_all c.loop-number.number c.args.rows.now c.loop-number-test.false)
