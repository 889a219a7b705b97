use Rattle.std.proofs.Common.{◌<◌, Some, sym, ap, ◌∙◌, arith}
use Rattle.book.specs.Held.{held, held_sound}
use Rattle.reader.proofs.Naming.{found_check}
use Rattle.reader.proofs.register.Register.find_check.Goals as goal

pub returns-in_err-jobs-clause-value : goal.returns-in_err-jobs-clause-value
returns-in_err-jobs-clause-value c =
    let r = c.args.self.now in
    let f = found_check r.text.now r.names.now (held r.book.now) c.args.name.now c.in_ok-job.job c.jobs.result.now (held_sound r.book.now) r.stands
    c.in_ok-job.ensures.value c.in_ok-job.ensures.within c.jobs.ensures in
    c.from_residual-in_err-jobs.ensures ∙ (sym c.in_err-jobs.was ∙ f.value)

pub returns-clause-value : goal.returns-clause-value
returns-clause-value c =
    let r = c.args.self.now in
    let f = found_check r.text.now r.names.now (held r.book.now) c.args.name.now c.in_ok-job.job c.jobs.result.now (held_sound r.book.now) r.stands
    c.in_ok-job.ensures.value c.in_ok-job.ensures.within c.jobs.ensures in
    ap Some c.from.ensures ∙ (sym c.in_ok-jobs.was ∙ f.value)

pub returns-clause-few : goal.returns-clause-few
returns-clause-few c =
    let r = c.args.self.now in
    let f = found_check r.text.now r.names.now (held r.book.now) c.args.name.now c.in_ok-job.job c.jobs.result.now (held_sound r.book.now) r.stands
    c.in_ok-job.ensures.value c.in_ok-job.ensures.within c.jobs.ensures in
    let h : c.in_ok-jobs.field-0 < 8 = rw c.in_ok-jobs.was at f.few in
    omega (arith, c.from.ensures)
