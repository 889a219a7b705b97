use Rattle.std.proofs.Common.{sym, subst, arith}
use Rattle.book.specs.Held.{held, held_sound}
use Rattle.book.specs.Sound.{Sound}
use Rattle.book.proofs.Kept.{add_job_keeps}
use Rattle.book.proofs.keeping.Book.add_job.Goals as goal

pub invariant_of-self : goal.invariant_of-self
invariant_of-self c =
    let kept = add_job_keeps (held c.args.self.now) c.args.label (omega arith) (omega arith) (held_sound c.args.self.now) in
    record { room = c.add_job.ensures.room; wellformed = subst Sound (sym c.add_job.ensures.after) kept }
