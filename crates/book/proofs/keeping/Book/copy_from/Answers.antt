use Rattle.std.proofs.Common.{sym, subst}
use Rattle.book.specs.Held.{held_sound}
use Rattle.book.specs.Sound.{Sound}
use Rattle.book.proofs.keeping.Book.copy_from.Goals as goal

pub invariant_of-self : goal.invariant_of-self
invariant_of-self c = record { room = c.copy_from.ensures.room; wellformed = subst Sound (sym c.copy_from.ensures.same) (held_sound c.args.other.now) }
