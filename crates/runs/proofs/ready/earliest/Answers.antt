use Rattle.std.proofs.Common.{arith}
use Rattle.book.specs.Held.{held, held_sound}
use Rattle.walks.proofs.Readied.{filled_ready, size_fits}
use Rattle.runs.proofs.ready.earliest.Goals as goal

pub returns-in-Ok-Yes : goal.returns-in-Ok-Yes
returns-in-Ok-Yes c =
    let says = (rw c.in-Ok-Yes.field-0-is at c.in-Ok-Yes.ensures).1 in
    filled_ready (held c.args.book.now) (held_sound c.args.book.now) says.0 says.1 c.dynamic.new.minutes _ says.2

pub returns-in-Err : goal.returns-in-Err
returns-in-Err c =
    let fits = size_fits (held c.args.book.now) (held_sound c.args.book.now) in
    let short = c.in-Err.ensures.1 in
    absurd (omega arith)
