use Rattle.std.proofs.Common.{is_some, ap, ◌∙◌, rules}
use Rattle.book.specs.Held.{held, held_sound}
use Rattle.book.proofs.Found.{check_found}
use Rattle.sheet.proofs.lines.put_origin.Goals as goal

pub overflow_cast-check : goal.overflow_cast-check
overflow_cast-check c = let s = (held_sound c.args.plan.book.now).few_checks in search rules

pub unwrap-asking-requires : goal.unwrap-asking-requires
unwrap-asking-requires c =
    let b = held c.args.plan.book.now in
    let known = rw c.in-Check.is at c.requires.known in
    ap is_some (c.check_job.ensures ∙ check_found b (held_sound c.args.plan.book.now) c.in-Check.check known.0)
