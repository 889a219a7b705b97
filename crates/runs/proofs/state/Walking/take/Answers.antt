use Rattle.std.proofs.Common.{List, sym, subst}
use Rattle.walks.specs.declared.parts.Event.{Event}
use Rattle.walks.specs.declared.parts.Event.TheVariants.{Told}
use Rattle.walks.specs.Logs.{Lawful}
use Rattle.runs.specs.Sheets.{plan, times}
use Rattle.runs.proofs.Carried.{keeps, room, ran, told, ended}
use Rattle.runs.proofs.state.Walking.take.Goals as goal

pub invariant_of-result : goal.invariant_of-result
invariant_of-result c = record { over = ended c.args.self c.args.next c.requires.next c.in_default.is }

pub returns-in_default : goal.returns-in_default
returns-in_default c =
    let run = c.args.self.run in
    record { run = keeps run; ran = ran run (ended c.args.self c.args.next c.requires.next c.in_default.is) }

pub tell-requires : goal.tell-requires
tell-requires c =
    let right = told c.args.self c.args.next c.requires.next c.in-Some.telling c.in-Some.is in
    record { room = room c.args.self.run (Told c.in-Some.telling) right }

pub invariant_of-run : goal.invariant_of-run
invariant_of-run c =
    let sheet = c.args.self.run.sheet.now in
    let right = told c.args.self c.args.next c.requires.next c.in-Some.telling c.in-Some.is in
    record { law = subst (λ (log : List Event). Lawful (plan sheet) (times sheet) log) (sym c.tell.ensures) right }
