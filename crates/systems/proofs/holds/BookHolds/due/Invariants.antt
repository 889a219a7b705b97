use Rattle.std.proofs.Common.{[]}
use Rattle.book.specs.Held.{held}
use Rattle.rules.specs.Tables.{Adds}
use Rattle.grades.specs.Systems.{each_below}
use Rattle.systems.proofs.Due.{if_due}
use Rattle.systems.proofs.holds.BookHolds.due.Given as goal

abbrev pub invariant-loop-hold : goal.invariant-loop-hold
invariant-loop-hold l = Adds 164 [] (each_below l.hold-index (if_due (held l.self.book.now) l.case (λ h. h))) l.out
