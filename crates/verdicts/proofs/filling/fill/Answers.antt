use Rattle.std.proofs.Common.{◌≡◌, ℕ, suc, ◌*◌, ◌<◌, ◌≤◌, List, ◌++◌, length, drop, ℤ, sym, ap, ◌∙◌, mul-le-mul_right, suc-mul, zero-mul, arith}
use Rattle.book.specs.Plain.{cases}
use Rattle.book.specs.Held.{held}
use Rattle.grades.specs.Systems.{each_below}
use Rattle.verdicts.specs.Filling.{block}
use Rattle.verdicts.proofs.Blocks.{block_length, blocks_more}
use Rattle.verdicts.proofs.filling.fill.Goals as goal

pub loop-case-init : goal.loop-case-init
loop-case-init c = ap (λ k. drop k c.args.minutes.now) (sym (zero-mul (length (held c.args.book.now).jobs)))

pub fill_case-requires : goal.fill_case-requires
fill_case-requires c =
    let b = held c.args.book.now in
    let s = c.loop-case.case in
    let n = length b.jobs in
    let is : s < cases b = omega (arith, c.cases-case-end.ensures) in
    let below : suc s * n ≤ cases b * n = mul-le-mul_right n is in
    record { within = c.requires.within s is; room = omega (arith, suc-mul s n) }

pub loop-case-preserved : goal.loop-case-preserved
loop-case-preserved c =
    let b = held c.args.book.now in
    let g : ℕ → List ℤ = λ s. block b c.args.table.now (s * c.args.apart) s in
    blocks_more g (length b.jobs) c.loop-case.case c.args.minutes.now c.loop-case.minutes c.fill_case.new.minutes
    (λ s. block_length b c.args.table.now (s * c.args.apart) s) c.loop-case.invariant c.fill_case.ensures

pub returns : goal.returns
returns c =
    let b = held c.args.book.now in
    let g : ℕ → List ℤ = λ s. block b c.args.table.now (s * c.args.apart) s in
    let all : c.loop-case.case ≡ cases b = omega (arith, c.cases-case-end.ensures) in
    c.loop-case.invariant ∙ ap (λ k. each_below k g ++ drop (k * length b.jobs) c.args.minutes.now) all
