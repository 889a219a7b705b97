use Rattle.std.proofs.Common.{sym, subst}
use Rattle.book.specs.Held.{held, held_sound}
use Rattle.book.specs.Sound.{Sound}
use Rattle.book.proofs.Kept.{withdraw_keeps}
use Rattle.book.proofs.keeping.Book.withdraw.Goals as goal

pub invariant_of-self : goal.invariant_of-self
invariant_of-self c =
    let kept = withdraw_keeps (held c.args.self.now) c.args.n (held_sound c.args.self.now) in
    record { room = c.withdraw.ensures.room; wellformed = subst Sound (sym c.withdraw.ensures.after) kept }
