use Rattle.std.proofs.Common.{◌-◌, sum}
use Rattle.rules.specs.Search.{Good}
use Rattle.find.proofs.searching.search.Given as goal

abbrev pub invariant-loop-marks : goal.invariant-loop-marks
invariant-loop-marks g l = Good (g.T.RuleSystem.meaning l.system) 0 l.table.minutes l.table.by

abbrev pub decreases-loop-marks : goal.decreases-loop-marks
decreases-loop-marks g l = 442368000 - sum l.table.minutes
