use Rattle.std.proofs.Common.{◌≡◌, false, ◌-◌, length, set, sym, ap, ◌∙◌, arith}
use Rattle.std.proofs.lemmas.Result.{err_from_is_err_and}
use Rattle.book.specs.Held.{held, held_sound}
use Rattle.reader.specs.Going.{Due, finished}
use Rattle.reader.specs.declared.state.Section.TheVariants.{Jobs, Bounds}
use Rattle.reader.proofs.Taken.{answered, jobs_counted, bounds_counted, job_taken, job_faulty, some_due, bound_taken, bound_faulty}
use Rattle.reader.proofs.Taken.{stray_at_top, stray_in_jobs, stray_in_bounds, unlike_heads}
use Rattle.reader.specs.Pieces.{parts}
use Rattle.reader.proofs.state.Reader.take.Goals as goal
use Rattle.reader.proofs.state.Reader.take.Goals.{in_default-via-in-Top+in_default, in_default-via-in-Jobs-BoundCount+else-due-eq0}
use Rattle.reader.proofs.state.Reader.take.Goals.{in_default-via-in-Jobs-OneJob+else-due-gt0}
use Rattle.reader.proofs.state.Reader.take.Goals.{in_default-via-in-Jobs+in_default, in_default-via-in-Bounds+in_default}

pub returns-in_err-booked-in-Jobs-OneJob-clause-cases : goal.returns-in_err-booked-in-Jobs-OneJob-clause-cases
returns-in_err-booked-in-Jobs-OneJob-clause-cases c =
    let some = c.if-due-gt0.true in
    let answer = ap (answered c.args.line.line c.args.line.byte) (sym c.enter.ensures.answer) ∙ sym c.in_err-booked-in-Jobs-OneJob.ensures in
    let p = err_from_is_err_and c.from_residual-in_err-booked-in-Jobs-OneJob.result c.from_residual-in_err-booked-in-Jobs-OneJob.ensures.1 in
    rw (p.1, p.2, c.in-Jobs-OneJob.is-0)
    (job_faulty c.args.self.now.text.now c.args.line c.args.names.now (held c.args.book.now) c.in_ok-entry-in-Jobs-OneJob.entry
    c.in_ok-entry-in-Jobs-OneJob.ensures c.in-Jobs-OneJob.due c.in_err-booked-in-Jobs-OneJob.field-0.0 (held c.enter.new.book) (omega arith)
    answer c.enter.ensures.after)

pub bounds-names-place : goal.bounds-names-place
bounds-names-place c =
    let some = c.if-due-gt0.true in
    let first = (held_sound c.args.book.now).some in
    let due : Due (length c.args.names.now) (Jobs c.in-Jobs-OneJob.due) (length (held c.args.book.now).jobs) = rw c.in-Jobs-OneJob.is-0 at c.requires.due in
    omega (arith, ap length c.jobs.ensures)

pub returns-in_err-booked-in-Bounds-OneBound-clause-cases : goal.returns-in_err-booked-in-Bounds-OneBound-clause-cases
returns-in_err-booked-in-Bounds-OneBound-clause-cases c =
    let unread : finished (Bounds c.in-Bounds-OneBound.due) ≡ false = rw c.in-Bounds-OneBound.is-0 at c.requires.open in
    let answer = ap (answered c.args.line.line c.args.line.byte) (sym c.add_bound.ensures.answer) ∙ sym c.in_err-booked-in-Bounds-OneBound.ensures in
    let p = err_from_is_err_and c.from_residual-in_err-booked-in-Bounds-OneBound.result c.from_residual-in_err-booked-in-Bounds-OneBound.ensures.1 in
    rw (p.1, p.2, c.in-Bounds-OneBound.is-0)
    (bound_faulty c.args.self.now.text.now c.args.line c.args.names.now (held c.args.book.now) c.in_ok-bound-in-Bounds-OneBound.bound
    c.in_ok-bound-in-Bounds-OneBound.ensures c.in-Bounds-OneBound.due c.in_err-booked-in-Bounds-OneBound.field-0.0 (held c.add_bound.new.self)
    (some_due c.in-Bounds-OneBound.due unread) answer c.add_bound.ensures.after)

pub overflow_sub-self-in-Bounds-OneBound : goal.overflow_sub-self-in-Bounds-OneBound
overflow_sub-self-in-Bounds-OneBound c =
    let unread : finished (Bounds c.in-Bounds-OneBound.due) ≡ false = rw c.in-Bounds-OneBound.is-0 at c.requires.open in
    some_due c.in-Bounds-OneBound.due unread

pub returns-else-jobs-names-clause-cases : goal.returns-else-jobs-names-clause-cases
returns-else-jobs-names-clause-cases c =
    rw c.in-Top-JobCount.is-0
    (jobs_counted c.args.self.now.text.now c.args.line c.args.names.now (held c.args.book.now) c.in_ok-jobs-in-Top-JobCount.jobs
    c.requires.stands (rw c.in-Top-JobCount.is-0 at c.requires.due) c.in_ok-jobs-in-Top-JobCount.ensures c.if-jobs-names.false)

pub returns-in_ok-bounds-in-Jobs-BoundCount-clause-cases : goal.returns-in_ok-bounds-in-Jobs-BoundCount-clause-cases
returns-in_ok-bounds-in-Jobs-BoundCount-clause-cases c =
    rw (c.in-Jobs-BoundCount.is-0, c.if-due-eq0.true)
    (bounds_counted c.args.self.now.text.now c.args.line c.args.names.now (held c.args.book.now) c.in_ok-bounds-in-Jobs-BoundCount.bounds
    c.requires.stands c.in_ok-bounds-in-Jobs-BoundCount.ensures)

pub returns-in_ok-booked-in-Jobs-OneJob-clause-cases : goal.returns-in_ok-booked-in-Jobs-OneJob-clause-cases
returns-in_ok-booked-in-Jobs-OneJob-clause-cases c =
    let some = c.if-due-gt0.true in
    let e = c.in_ok-entry-in-Jobs-OneJob.entry in
    let answer = ap (answered c.args.line.line c.args.line.byte) (sym c.enter.ensures.answer) ∙ sym c.in_ok-booked-in-Jobs-OneJob.ensures in
    let place = ap (λ js. set c.args.names.now (length js - 1) e.name) c.jobs.ensures in
    rw c.in-Jobs-OneJob.is-0
    (job_taken c.args.self.now.text.now c.args.line c.args.names.now (held c.args.book.now) e c.in_ok-entry-in-Jobs-OneJob.ensures c.in-Jobs-OneJob.due
    c.in_ok-booked-in-Jobs-OneJob.field-0 _ (held c.enter.new.book) (omega arith) c.requires.lies (held_sound c.args.book.now) c.requires.stands
    (rw c.in-Jobs-OneJob.is-0 at c.requires.due) answer c.enter.ensures.after place)

pub returns-in_ok-booked-in-Bounds-OneBound-clause-cases : goal.returns-in_ok-booked-in-Bounds-OneBound-clause-cases
returns-in_ok-booked-in-Bounds-OneBound-clause-cases c =
    let unread : finished (Bounds c.in-Bounds-OneBound.due) ≡ false = rw c.in-Bounds-OneBound.is-0 at c.requires.open in
    let answer = ap (answered c.args.line.line c.args.line.byte) (sym c.add_bound.ensures.answer) ∙ sym c.in_ok-booked-in-Bounds-OneBound.ensures in
    rw c.in-Bounds-OneBound.is-0
    (bound_taken c.args.self.now.text.now c.args.line c.args.names.now (held c.args.book.now) c.in_ok-bound-in-Bounds-OneBound.bound
    c.in_ok-bound-in-Bounds-OneBound.ensures c.in-Bounds-OneBound.due c.in_ok-booked-in-Bounds-OneBound.field-0 (held c.add_bound.new.self)
    (some_due c.in-Bounds-OneBound.due unread) c.requires.stands answer c.add_bound.ensures.after)

pub returns-in_default-clause-cases : goal.returns-in_default-clause-cases
returns-in_default-clause-cases c =
    let text = c.args.self.now.text.now in
    let ns = c.args.names.now in
    let o = held c.args.book.now in
    let w = c.part.result.0.bytes.now in
    let ws = parts 32 c.part.result.1 in
    let cut = c.part.ensures.is in
    let head = c.head_of.ensures in
    rw c.fault-in_default.ensures (elim c.in_default.branch [
      | in_default-via-in-Top+in_default d ↦
          rw d.in_default.is-0 (stray_at_top text c.args.line ns o w ws cut (λ e. d.in_default.not-JobCount-1 (head ∙ e)))
      | in_default-via-in-Jobs-BoundCount+else-due-eq0 d ↦ (
          let is = d.in-Jobs-BoundCount.is-1 in
          rw d.in-Jobs-BoundCount.is-0
          (stray_in_jobs text c.args.line ns o w ws cut d.in-Jobs-BoundCount.due (λ z e. d.if-due-eq0.false z) (λ some e. unlike_heads (sym is ∙ (head ∙ e)))))
      | in_default-via-in-Jobs-OneJob+else-due-gt0 d ↦ (
          let is = d.in-Jobs-OneJob.is-1 in
          let none = d.if-due-gt0.false in
          rw d.in-Jobs-OneJob.is-0
          (stray_in_jobs text c.args.line ns o w ws cut d.in-Jobs-OneJob.due (λ z e. unlike_heads (sym (head ∙ e) ∙ is)) (λ some e. omega (arith, none, some))))
      | in_default-via-in-Jobs+in_default d ↦
          rw d.in_default.is-0
          (stray_in_jobs text c.args.line ns o w ws cut d.in_default.field-0-0 (λ z e. d.in_default.not-BoundCount-1 (head ∙ e))
          (λ some e. d.in_default.not-OneJob-1 (head ∙ e)))
      | in_default-via-in-Bounds+in_default d ↦ (
          let unread : finished (Bounds d.in_default.field-0-0) ≡ false = rw d.in_default.is-0 at c.requires.open in
          rw d.in_default.is-0
          (stray_in_bounds text c.args.line ns o w ws cut d.in_default.field-0-0 (some_due d.in_default.field-0-0 unread)
          (λ e. d.in_default.not-OneBound-1 (head ∙ e))))
    ])
