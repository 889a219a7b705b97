use Rattle.std.proofs.Common.{vec_items, arith}
use Rattle.book.specs.Held.{held}
use Rattle.book.proofs.Always.{carried}
use Rattle.book.proofs.list.carry_out.Goals as goal

pub loop-call-preserved : goal.loop-call-preserved
loop-call-preserved c =
    let i = c.loop-call.invariant in
    let s = carried c.args.calls.now c.loop-call.call-index _ (held c.loop-call.book) (held c.carry.new.book)
    (vec_items c.loop-call.given) (vec_items c.push_reserved.new.self) c.carry.result c.loop-call-test.true
    i.0 i.1 c.carry.ensures.answer c.carry.ensures.after c.push_reserved.ensures.items in
    (s.0, s.1, omega (arith, c.push_reserved.ensures.len, i.2), omega (arith, c.push_reserved.ensures.capacity, i.3))
