use Rattle.std.proofs.Common.{◌≡◌, ℕ, ◌+◌, ◌<◌, false, length, get_or, set, ltb, ◌∙◌, subst, arith}
use Rattle.std.proofs.lemmas.List.{length-set}
use Rattle.rules.specs.Rules.{at}
use Rattle.rules.specs.Search.{Marked}
use Rattle.rules.proofs.Peeling.{marked_more, marked_all}
use Rattle.find.proofs.Places.{minute_at, is_table}
use Rattle.find.proofs.marks.Marks.mark_above_zero.Goals as goal

pub loop-p-preserved : goal.loop-p-preserved
loop-p-preserved c =
    let minutes = c.args.table.now.minutes in
    let inside = c.loop-p.self.inside in
    let p = c.loop-p.p in
    let (long, so_far) = c.loop-p.invariant in (
      length-set inside p _ ∙ long,
      subst (λ v. (k : ℕ) → k < p + 1 → Marked (get_or (set inside p (ltb 0 v)) k false) (at minutes k))
          (minute_at c.table.inside.places c.args.table.now c.table.view_is p) (marked_more minutes inside p (omega arith) so_far),
    )

pub returns : goal.returns
returns c =
    let t = c.args.table.now in
    let sized = (is_table c.table.inside.places t c.table.view_is c.table.invariant).sized in
    let alike : length t.minutes ≡ length c.loop-p.self.inside = omega arith in
    record { marks = marked_all t.minutes c.loop-p.self.inside alike (λ k h. c.loop-p.invariant.1 k (omega arith)); wide = c.loop-p.invariant.0 }
