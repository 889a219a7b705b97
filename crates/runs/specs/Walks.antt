-- What the walk of a whole run promises.
use Rattle.std.specs.Prelude.{◌≡◌, ℕ, ◌<◌, ◌≤◌, Bool, List, [], ◌∷◌, ◌++◌, length, take, Ok, Err, Result}
use Rattle.std.specs.Borrow.{Bor}
use Rattle.walks.specs.declared.parts.Event.{Event}
use Rattle.walks.specs.declared.parts.Event.TheVariants.{Told, Reported}
use Rattle.walks.specs.Law.{Law}
use Rattle.runs.specs.declared.ending.Walked.{Walked}
use Rattle.runs.specs.declared.ending.Lacking.{Lacking}
use Rattle.runs.specs.declared.sheet.RunSheet.{RunSheet}
use Rattle.runs.specs.declared.state.Walking.{Walking}
use Rattle.runs.specs.declared.state.Finished.{Finished}
use Rattle.runs.specs.declared.state.Check.{Check}
use Rattle.runs.specs.declared.state.Closed.{Closed}
use Rattle.runs.specs.Recorded.{recorded}
use Rattle.runs.specs.Sheets.{plan, times}
use Rattle.runs.specs.Steps.{Ran, AsksFor, Closes}

-- the outcomes reported, in the order in which they came
abbrev pub outcomes_of : List Event → List Bool
outcomes_of [] = []
outcomes_of (Told t ∷ log) = outcomes_of log
outcomes_of (Reported r ∷ log) = outcomes_of log ++ (r.yes ∷ [])

-- a run with this log keeps the law, has used all outcomes, and asks for one more check
pub record Lacks (sheet : RunSheet) (outcomes : List Bool) (r : Lacking) : Type 0 where
  pub law : Law (plan sheet) (times sheet) (recorded r.log)
  pub heard : outcomes_of (recorded r.log) ≡ outcomes
  pub asks : AsksFor sheet (recorded r.log) r.check

-- a run with this log was given outcomes: it walks on with some of them left and a longer log, or lacks one more
abbrev pub Gives : RunSheet → List Event → List Bool → Result (Walking × Bor (List Bool)) Lacking → Type 0
Gives sheet log outcomes (Ok (r, left)) =
    (r.run.sheet.now ≡ sheet)
    × (outcomes_of (recorded r.run.log) ++ left.now ≡ outcomes_of log ++ outcomes)
    × (length log < length (recorded r.run.log))
Gives sheet log outcomes (Err lacking) = Lacks sheet (outcomes_of log ++ outcomes) lacking

-- a run with this log went on from outcomes to its end, with some of them left, or lacks one more
abbrev pub Goes : RunSheet → List Event → List Bool → Result (Finished × Bor (List Bool)) Lacking → Type 0
Goes sheet log outcomes (Ok (r, left)) =
    (r.run.sheet.now ≡ sheet)
    × (outcomes_of (recorded r.run.log) ++ left.now ≡ outcomes_of log ++ outcomes)
Goes sheet log outcomes (Err lacking) = Lacks sheet (outcomes_of log ++ outcomes) lacking

-- how a run ended: it was closed, or all outcomes were used and it asks for one more check
abbrev pub EndsSo : RunSheet → List Bool → List Event → ℕ → Result Closed Check → Type 0
EndsSo sheet outcomes log used (Ok closed) = Ran sheet log × Closes log closed
EndsSo sheet outcomes log used (Err check) = AsksFor sheet log check × (used ≡ length outcomes)

-- a walk keeps the law, its reports are the outcomes in their order, as many as it used, and it ended so
pub record WalksSo (sheet : RunSheet) (outcomes : List Bool) (r : Walked) : Type 0 where
  pub law : Law (plan sheet) (times sheet) (recorded r.log)
  pub within : r.used ≤ length outcomes
  pub heard : outcomes_of (recorded r.log) ≡ take r.used outcomes
  pub ends : EndsSo sheet outcomes (recorded r.log) r.used r.ending
