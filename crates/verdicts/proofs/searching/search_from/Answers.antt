use Rattle.std.proofs.Common.{◌-◌, length, drop, sym, subst}
use borrow.Rule.Slice.PartMut.{take_put}
use Rattle.std.proofs.lemmas.List.{take_rest}
use Rattle.find.specs.Answers.{Explains}
use Rattle.verdicts.proofs.Blocks.{put_rest}
use Rattle.verdicts.proofs.searching.search_from.Goals as goal

pub returns : goal.returns
returns g c =
    let xs = c.args.table.now in
    let from = c.args.from in
    let ys = c.find_or_loop.new.minutes in
    let m = g.T.RuleSystem.meaning c.args.system.now in
    let os = g.T.WithOrigins.origins c.args.system.now in
    let here =
    subst (λ before. Explains m os before ys c.args.loops.now c.find_or_loop.new.out c.find_or_loop.result) (take_rest xs from)
    c.find_or_loop.ensures in
    record {
      said = subst (λ after. Explains m os (drop from xs) after c.args.loops.now c.find_or_loop.new.out c.find_or_loop.result)
          (sym (put_rest xs ys from c.requires.within)) here;
      front = take_put from (length xs - from) xs ys c.requires.within;
    }
