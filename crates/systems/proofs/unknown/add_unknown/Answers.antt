use Rattle.std.proofs.Common.{map}
use Rattle.book.specs.Held.{held}
use Rattle.rules.specs.Rows.{rule_of}
use Rattle.grades.specs.Systems.{unknown_from}
use Rattle.systems.proofs.Adding.{adds_none, adds_more}
use Rattle.systems.proofs.unknown.add_unknown.Goals as goal

pub loop-case-init : goal.loop-case-init
loop-case-init c = adds_none 8192 (map rule_of c.args.out.now)

pub loop-case-preserved : goal.loop-case-preserved
loop-case-preserved c =
    adds_more 8192 (map rule_of c.args.out.now) (map rule_of c.loop-case.out) (map rule_of c.add_from.new.out) c.loop-case.case
    (unknown_from (held c.args.book.now)) c.loop-case.invariant c.add_from.ensures
