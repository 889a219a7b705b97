use Rattle.std.proofs.Common.{◌≤◌, ◌<◌, length, ◌-◌, ◌∙◌, arith, rules}
use Rattle.input.proofs.Reading.{same_room, read_more, read_all, read_full}
use Rattle.input.proofs.read_text.Goals as goal

pub loop-len-preserved : goal.loop-len-preserved
loop-len-preserved g c =
    let (few, wide, came) = c.loop-len.invariant in
    let within : c.loop-len.len ≤ length c.loop-len.room = omega (arith, few, wide) in
    let more = c.in_ok-n.ensures in
    let room = 8193 - c.loop-len.len in
    let wide_still = same_room c.loop-len.len room c.in_ok-n.n c.loop-len.room c.read.new.buf within (search rules) (omega (arith, few, wide)) ∙ wide in
    (search rules, wide_still, read_more c.loop-len.len room c.in_ok-n.n c.loop-len.room c.read.new.buf within _ _ _ more.bound.0 came more.bytes.0)

pub returns-in-0-clause-front : goal.returns-in-0-clause-front
returns-in-0-clause-front g c =
    let (few, wide, came) = c.loop-len.invariant in
    let within : c.loop-len.len ≤ length c.loop-len.room = omega (arith, few, wide) in
    let more = c.in_ok-n.ensures in
    let room = 8193 - c.loop-len.len in
    let left : 0 < length c.read.new.buf = search rules in
    read_all c.loop-len.len room c.in_ok-n.n c.loop-len.room c.read.new.buf within _ _ _ 8193 c.in-0.is few came more.bytes.0 (more.bytes.1 c.in-0.is left)

pub returns-clause-front : goal.returns-clause-front
returns-clause-front g c =
    let (few, wide, came) = c.loop-len.invariant in
    let beyond = c.loop-len-test.false in
    read_full _ _ c.loop-len.len 8193 c.loop-len.room (omega (arith, few, beyond)) wide came
