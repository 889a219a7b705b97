use Rattle.std.proofs.Common.{Err, sym, ap, ◌∙◌}
use Rattle.std.proofs.lemmas.Result.{err_from_is_err_and}
use Rattle.reader.specs.Says.{knows}
use Rattle.reader.proofs.Spoken.{labelled_more, labelled_stop}
use Rattle.reader.proofs.register.Register.label.Goals as goal

pub returns-in_err-label : goal.returns-in_err-label
returns-in_err-label c =
    let stop = labelled_stop c.loop-word.label (knows c.args.self.now) c.loop-word.word-iterator c.in-Some.word c.next.new.self
    c.in-Some.ensures.steps c.in_err-label.field-0.0 (sym c.in_err-label.ensures) in
    let p = err_from_is_err_and c.from_residual.result c.from_residual.ensures.1 in
    p.1 ∙ (ap Err p.2 ∙ (sym stop ∙ c.loop-word.invariant.2))

pub loop-word-preserved : goal.loop-word-preserved
loop-word-preserved c =
    let more = labelled_more c.loop-word.label (knows c.args.self.now) c.loop-word.word-iterator c.in-Some.word c.next.new.self
    c.in-Some.ensures.steps c.in_ok-label.label (sym c.in_ok-label.ensures) in
    (tt, tt, sym more ∙ c.loop-word.invariant.2)
