use Rattle.std.proofs.Common.{◌++◌, subst}
use Rattle.book.specs.Held.{held, held_sound}
use Rattle.rules.specs.Tables.{Adds}
use Rattle.grades.specs.Systems.{bound_holds, start_holds, check_holds, holds}
use Rattle.grades.proofs.Limits.{holds_few}
use Rattle.systems.proofs.Adding.{adds_then, adds_all}
use Rattle.systems.proofs.holds.BookHolds.of.Goals as goal

pub invariant_of-result : goal.invariant_of-result
invariant_of-result c =
    let b = held c.args.book.now in
    let t0 = c.new-all.result in
    let t1 = c.add_bounds.new.out in
    let t2 = c.add_starts.new.out in
    let t3 = c.add_checks.new.out in
    let rest = adds_then 164 t1 (start_holds b) t2 (check_holds b) t3 c.add_starts.ensures c.add_checks.ensures in
    let whole = adds_then 164 t0 (bound_holds b) t1 (start_holds b ++ check_holds b) t3 c.add_bounds.ensures rest in
    record { whole = adds_all 164 (holds b) t3 (subst (λ xs. Adds 164 xs (holds b) t3) c.new-all.ensures whole) (holds_few b (held_sound c.args.book.now)) }
