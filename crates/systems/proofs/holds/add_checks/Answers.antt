use Rattle.book.specs.Held.{held}
use Rattle.grades.specs.Systems.{check_holds_of}
use Rattle.systems.proofs.Adding.{adds_none, adds_more}
use Rattle.systems.proofs.holds.add_checks.Goals as goal

pub loop-j-init : goal.loop-j-init
loop-j-init c = adds_none 164 c.args.out.now

pub loop-j-preserved : goal.loop-j-preserved
loop-j-preserved c =
    adds_more 164 c.args.out.now c.loop-j.out c.add_checks_of.new.out c.loop-j.j
    (check_holds_of (held c.args.book.now)) c.loop-j.invariant c.add_checks_of.ensures
