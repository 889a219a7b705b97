use Rattle.std.proofs.Common.{◌<◌, length, get_or, set, sym, ap, ◌∙◌, arith}
use Rattle.rules.specs.declared.parts.Origin.TheVariants.{Bound}
use Rattle.std.proofs.lemmas.Option.{same_Some, slice_get-get_or}
use Rattle.rules.proofs.Steps.{written_more}
use Rattle.find.specs.Answers.{origin_of}
use Rattle.find.proofs.loops.write_origins.Goals as goal

pub loop-i-preserved : goal.loop-i-preserved
loop-i-preserved g c =
    let origins = g.T.WithOrigins.origins c.args.system.now in
    let rules = c.args.rules.now in
    let i = c.loop-i.i in
    let r = get_or rules i 0 in
    let known : r < length origins = omega (arith, c.origin.ensures.each, c.requires.known i c.loop-i-test.true) in
    let is = same_Some _ _ (sym c.unwrap.ensures ∙ c.origin.ensures.origin ∙ slice_get-get_or origins r (Bound 0) known) in
    ap (set c.loop-i.out i) is
    ∙ written_more (origin_of origins) rules 0 c.args.out.now c.loop-i.out (Bound 0) i (omega arith) (omega arith) c.loop-i.invariant
