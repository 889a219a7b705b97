use Rattle.std.proofs.Common.{map}
use Rattle.book.specs.Held.{held}
use Rattle.rules.specs.Rows.{rule_of}
use Rattle.grades.specs.Systems.{unknown_between}
use Rattle.systems.proofs.Adding.{adds_none, adds_more}
use Rattle.systems.proofs.unknown.add_from.Goals as goal

pub loop-other-init : goal.loop-other-init
loop-other-init c = adds_none 8192 (map rule_of c.args.out.now)

pub loop-other-preserved : goal.loop-other-preserved
loop-other-preserved c =
    adds_more 8192 (map rule_of c.args.out.now) (map rule_of c.loop-other.out) (map rule_of c.add_rules.new.out) c.loop-other.other
    (unknown_between (held c.args.book.now) c.args.case) c.loop-other.invariant c.add_rules.ensures
