use Rattle.std.proofs.Common.{◌≡◌, ◌&&◌, sym, ap, ◌∙◌, arith}
use Rattle.book.specs.Labels.{names, any_below}
use Rattle.book.specs.Plain.{plain, job, asking, lacks, part_missing}
use Rattle.book.proofs.Tests.{any_holds}
use Rattle.book.proofs.parts.Table.lacks_any.Goals as goal

pub returns-then-lacks_check : goal.returns-then-lacks_check
unfolding part_missing
returns-then-lacks_check c =
    let b = plain c.args.self.now in
    let l = c.args.label in
    sym (any_holds 8 (λ k. names l k && lacks l (job b (asking b k)).label) c.loop-c.c (omega arith) (sym c.if-lacks_check.ensures))

pub returns : goal.returns
unfolding part_missing
returns c =
    let b = plain c.args.self.now in
    let l = c.args.label in
    let n : c.loop-c.c ≡ 8 = omega arith in
    sym c.loop-c.invariant ∙ ap (λ m. any_below m (λ k. names l k && lacks l (job b (asking b k)).label)) n
