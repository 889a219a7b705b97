use Rattle.std.proofs.Common.{◌≡◌, ◌<◌, set, take, pos, ap, ◌∙◌, arith, w32, to_z, get_or}
use Rattle.std.proofs.lemmas.Int.{ints}
use Rattle.std.proofs.lemmas.List.{length-take}
use Rattle.rules.specs.Rules.{at}
use Rattle.rules.proofs.Steps.{written_more}
use Rattle.find.specs.Tables.{IsTable}
use Rattle.find.proofs.Places.{no_place, minute_in, is_table}
use Rattle.find.proofs.tables.Table.write_out.Goals as goal

table : (c : goal.After-row_known-1) → IsTable c.args.self.now
table c = is_table c.self.inside.places c.args.self.now c.self.view_is c.self.invariant

pub loop-p-preserved : goal.loop-p-preserved
loop-p-preserved c =
    let t = c.args.self.now in
    let n = c.args.n in
    let p = c.loop-p.p in
    let is = minute_in c.self.inside.places t c.self.view_is n p c.loop-p-test.true in
    let e : to_z w32 (get_or (take n c.self.inside.places) p no_place).minute ≡ pos (at t.minutes p) = omega (arith, ints, is, (table c).low p) in
    let turn : p < n = omega (arith, length-take n c.self.inside.places) in
    ap (set c.loop-p.minutes p) e
    ∙ written_more pos t.minutes 0 c.args.minutes.now c.loop-p.minutes (pos 0) p (omega (arith, (table c).sized, turn, c.requires.from))
    (omega (arith, turn, c.requires.wide)) c.loop-p.invariant

pub overflow_cast-minutes : goal.overflow_cast-minutes
overflow_cast-minutes c =
    let p = c.loop-p.p in
    omega (arith, ints, minute_in c.self.inside.places c.args.self.now c.self.view_is c.args.n p c.loop-p-test.true, (table c).low p)
