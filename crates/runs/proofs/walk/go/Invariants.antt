use Rattle.std.proofs.Common.{◌≡◌, ◌-◌, ◌++◌, length}
use Rattle.runs.specs.Recorded.{recorded}
use Rattle.runs.specs.Walks.{outcomes_of}
use Rattle.runs.proofs.walk.go.Given as goal

abbrev pub invariant-loop-walking : goal.invariant-loop-walking
invariant-loop-walking l = record {
  on_sheet : l.run.run.sheet.now ≡ l.initial.run.run.sheet.now;
  heard : outcomes_of (recorded l.run.run.log) ++ l.left ≡ outcomes_of (recorded l.initial.run.run.log) ++ l.outcomes;
}

abbrev pub decreases-loop-walking : goal.decreases-loop-walking
decreases-loop-walking l = 24 - length (recorded l.run.run.log)
