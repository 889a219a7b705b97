use Rattle.std.proofs.Common.{◌≡◌, ◌++◌, ◌≤◌, length}
use Rattle.runs.specs.Recorded.{recorded}
use Rattle.runs.specs.Walks.{outcomes_of}
use Rattle.runs.proofs.walk.give.Given as goal

abbrev pub invariant-loop-yes : goal.invariant-loop-yes
invariant-loop-yes l = record {
  on_sheet : l.run.run.sheet.now ≡ l.initial.run.run.sheet.now;
  heard : outcomes_of (recorded l.run.run.log) ++ l.left ≡ outcomes_of (recorded l.initial.run.run.log) ++ l.outcomes;
  longer : length (recorded l.initial.run.run.log) ≤ length (recorded l.run.run.log);
}

abbrev pub decreases-loop-yes : goal.decreases-loop-yes
decreases-loop-yes l = length l.left
