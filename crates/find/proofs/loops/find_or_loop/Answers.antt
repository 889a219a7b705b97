use Rattle.std.proofs.Common.{refl, arith}
use Rattle.find.proofs.Ends.{none_keeps, writes}
use Rattle.find.proofs.loops.find_or_loop.Goals as goal

pub returns-in-Ok : goal.returns-in-Ok
returns-in-Ok g c = (
  omega (arith, c.places-n.ensures, c.if-minutes-n.false),
  omega (arith, c.places-n.ensures, c.if-out-n.false),
  writes (g.T.RuleSystem.meaning c.args.t.now) (g.T.RuleSystem.sound c.args.t.now) c.in-Ok.table.minutes c.in-Ok.table.by c.args.minutes.now
      c.write_out.new.minutes c.places-n.result c.in-Ok.ensures c.places-n.ensures c.write_out.ensures,
  refl,
)

pub returns-in-Err : goal.returns-in-Err
returns-in-Err g c =
    let barred = c.in-Err.barred in (
      omega (arith, c.places-n.ensures, c.if-minutes-n.false),
      omega (arith, c.places-n.ensures, c.if-out-n.false),
      none_keeps (g.T.RuleSystem.meaning c.args.t.now) barred.table.by barred.place c.in-Err.ensures,
      refl,
      c.write_loop.ensures,
    )
