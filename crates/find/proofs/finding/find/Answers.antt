use Rattle.std.proofs.Common.{Ok, refl, arith}
use Rattle.find.specs.declared.answers.Found.TheVariants.{Table}
use Rattle.find.specs.Answers.{Finds}
use Rattle.find.proofs.Ends.{none_keeps, writes}
use Rattle.find.proofs.finding.find.Goals as goal

pub returns-in-Ok : goal.returns-in-Ok
returns-in-Ok g c =
    let m = g.T.RuleSystem.meaning c.args.t.now in
    let written = writes m (g.T.RuleSystem.sound c.args.t.now) c.in-Ok.table.minutes c.in-Ok.table.by c.args.minutes.now c.write_out.new.minutes
    c.places-n.result c.in-Ok.ensures c.places-n.ensures c.write_out.ensures in
    let found : Finds m c.args.minutes.now c.write_out.new.minutes (Ok Table) = (omega (arith, c.places-n.ensures, c.if-minutes-n.false), written) in
    found

pub returns-in-Err : goal.returns-in-Err
returns-in-Err g c =
    let barred = c.in-Err.field-0 in (
      omega (arith, c.places-n.ensures, c.if-minutes-n.false),
      none_keeps (g.T.RuleSystem.meaning c.args.t.now) barred.table.by barred.place c.in-Err.ensures,
      refl,
    )
