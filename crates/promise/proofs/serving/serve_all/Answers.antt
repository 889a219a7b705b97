use Rattle.std.proofs.Common.{length, vec_items, refl, ap, ◌∙◌, arith}
use Rattle.book.specs.Held.{held}
use Rattle.promise.specs.Serving.{desk}
use Rattle.promise.proofs.Requests.{served_more, served_all}
use Rattle.promise.proofs.serving.serve_all.Goals as goal

pub loop-asked-init : goal.loop-asked-init
loop-asked-init c = ((c.requires.empty, refl), c.args.replies.now.ok.0 ∙ ap length c.requires.empty, refl)

pub push_reserved-requires : goal.push_reserved-requires
push_reserved-requires c = omega (arith, c.loop-asked.invariant.1, c.loop-asked.invariant.2, c.requires.room, c.loop-asked-test.true)

pub loop-asked-preserved : goal.loop-asked-preserved
loop-asked-preserved c =
    let before = desk (held c.args.book.now) c.args.minutes.now c.args.loops.now in
    let here = desk (held c.loop-asked.book) c.loop-asked.minutes c.loop-asked.loops in
    let after = desk (held c.serve.new.book) c.serve.new.minutes c.serve.new.loops in (
      served_more c.args.requests.now c.loop-asked.asked-index _ before here after
          (vec_items c.loop-asked.replies) (vec_items c.push_reserved.new.self) c.serve.result
          c.loop-asked-test.true c.push_reserved.ensures.items c.loop-asked.invariant.0 c.serve.ensures,
      omega (arith, c.push_reserved.ensures.len, c.loop-asked.invariant.1),
      c.push_reserved.ensures.capacity ∙ c.loop-asked.invariant.2,
    )

pub returns : goal.returns
returns c =
    let before = desk (held c.args.book.now) c.args.minutes.now c.args.loops.now in
    let after = desk (held c.loop-asked.book) c.loop-asked.minutes c.loop-asked.loops in
    served_all c.args.requests.now c.loop-asked.asked-index before after (vec_items c.loop-asked.replies)
    c.loop-asked-test.false c.loop-asked.invariant.0
