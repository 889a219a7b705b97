use Rattle.std.proofs.Common.{sym, subst}
use Rattle.book.specs.Held.{held, held_sound}
use Rattle.book.specs.Sound.{Sound}
use Rattle.book.proofs.Kept.{add_bound_keeps}
use Rattle.book.proofs.keeping.Book.add_bound.Goals as goal

pub invariant_of-self : goal.invariant_of-self
invariant_of-self c =
    let kept = add_bound_keeps (held c.args.self.now) c.args.bound (held_sound c.args.self.now) in
    record { room = c.add_bound.ensures.room; wellformed = subst Sound (sym c.add_bound.ensures.after) kept }
