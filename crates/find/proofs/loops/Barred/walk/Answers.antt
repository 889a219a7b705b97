use Rattle.std.proofs.Common.{◌≡◌, length, ap, ◌∙◌, arith, rules}
use Rattle.rules.specs.declared.parts.Alternative.{Alternative}
use Rattle.rules.specs.Rules.{alternative}
use Rattle.rules.proofs.Walks.{walks_from}
use Rattle.find.proofs.Seen.{seen_low, loop_found, room_left, walks_more}
use Rattle.find.proofs.loops.Barred.walk.Goals as goal

pub loop-n-init : goal.loop-n-init
loop-n-init g c =
    walks_from (g.T.RuleSystem.meaning c.args.system.now) (g.T.RuleSystem.sound c.args.system.now) c.args.self.now.table.by
    c.args.walked.now c.args.self.now.place c.requires

pub offset_bounds-walked-from : goal.offset_bounds-walked-from
offset_bounds-walked-from g c =
    let l = c.loop-n in
    let low = seen_low (g.T.RuleSystem.meaning c.args.system.now) c.args.self.now.table.by l.seen l.walked l.n l.place c.in-Some.from l.invariant
    c.in-Some.is in
    omega (arith, (g.T.RuleSystem.sound c.args.system.now).few, l.invariant.room, low)

pub slice_bounds-result-count : goal.slice_bounds-result-count
slice_bounds-result-count g c =
    let l = c.loop-n in
    omega (
      arith,
      seen_low (g.T.RuleSystem.meaning c.args.system.now) c.args.self.now.table.by l.seen l.walked l.n l.place c.in-Some.from l.invariant
          c.in-Some.is,
    )

pub slice_bounds-result-start : goal.slice_bounds-result-start
slice_bounds-result-start g c =
    let l = c.loop-n in
    let low = seen_low (g.T.RuleSystem.meaning c.args.system.now) c.args.self.now.table.by l.seen l.walked l.n l.place c.in-Some.from l.invariant
    c.in-Some.is in
    search rules

pub returns-in-Some : goal.returns-in-Some
returns-in-Some g c =
    let l = c.loop-n in
    let sound = g.T.RuleSystem.sound c.args.system.now in
    let long : length l.walked ≡ 320 = search rules in
    loop_found (g.T.RuleSystem.meaning c.args.system.now) sound c.args.self.now.table.by l.seen l.walked l.n l.place c.in-Some.from l.invariant
    (omega (arith, sound.few, long)) c.in-Some.is

pub bounds-walked-n : goal.bounds-walked-n
bounds-walked-n g c =
    let l = c.loop-n in
    let sound = g.T.RuleSystem.sound c.args.system.now in
    let long : length l.walked ≡ 320 = search rules in
    let room = room_left (g.T.RuleSystem.meaning c.args.system.now) sound c.args.self.now.table.by l.seen l.walked l.n l.place l.invariant
    (omega (arith, sound.few, long)) c.in_default.is in
    omega (arith, sound.few, room)

pub loop-n-preserved : goal.loop-n-preserved
loop-n-preserved g c =
    let l = c.loop-n in
    let sound = g.T.RuleSystem.sound c.args.system.now in
    let long : length l.walked ≡ 320 = search rules in
    walks_more (g.T.RuleSystem.meaning c.args.system.now) sound c.table.inside.places c.args.self.now.table c.table.view_is l.seen l.walked l.n l.place
    c.way-place.result.place l.invariant (omega (arith, sound.few, long)) c.in_default.is
    (ap (λ (x : Alternative). x.place) c.way-place.ensures.value ∙ ap (λ k. (alternative k 0).place) c.new.ensures)
