use Rattle.std.proofs.Common.{rules}
use Rattle.book.specs.Held.{held, held_sound}
use Rattle.sheet.proofs.Judging.{weak_answers, dynamic_answers, strong_answers, judged}
use Rattle.sheet.proofs.judge.judge.Goals as goal

pub unwrap-weak-requires : goal.unwrap-weak-requires
unwrap-weak-requires c =
    weak_answers (held c.args.book.now) (held_sound c.args.book.now) _ _ _ _ _ c.told-minutes c.told-origins c.weak.ensures

pub unwrap-dynamic-requires : goal.unwrap-dynamic-requires
unwrap-dynamic-requires c = search (rules, dynamic_answers, held_sound)

pub unwrap-strong-requires : goal.unwrap-strong-requires
unwrap-strong-requires c = search (rules, strong_answers, held_sound)

pub returns : goal.returns
returns c =
    let w = rw c.unwrap-weak.ensures at c.weak.ensures in
    let d = rw c.unwrap-dynamic.ensures at c.dynamic.ensures in
    let s = rw c.unwrap-strong.ensures at c.strong.ensures in
    judged (held c.args.book.now) _ _ _ _ _ _ _ _ _ w.1 d.1 s.1
