use Rattle.std.proofs.Common.{◌+◌, sym, ◌∙◌}
use Rattle.reader.proofs.Naming.{place_found, not_start}
use Rattle.reader.proofs.names.job_number.Goals as goal

pub returns-then-stands_at : goal.returns-then-stands_at
returns-then-stands_at c =
    let text = c.args.text.now in
    let names = c.args.names.now in
    let word = c.args.word.now in
    let found = place_found (c.loop-i.i + 1) c.loop-i.i text names word c.loop-i-test.true (sym c.if-stands_at.ensures) in
    sym found ∙ (c.loop-i.invariant ∙ sym (not_start text names word (sym c.if-is_start.ensures)))
