use Rattle.std.proofs.Common.{arith}
use Rattle.book.specs.Held.{held_sound}
use Rattle.walks.specs.declared.parts.Event.TheVariants.{Reported}
use Rattle.runs.proofs.Carried.{room, heard}
use Rattle.runs.proofs.state.Asking.hear.Goals as goal

pub report-requires : goal.report-requires
report-requires c =
    let run = c.args.self.run in
    let right = heard c.args.self c.args.report c.requires.asked in
    let known = right.1.0.0 in
    let few = (held_sound run.sheet.now.book).few_checks in
    record { room = room run (Reported c.args.report) right; low = omega arith }
