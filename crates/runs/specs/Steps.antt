-- What the calls on a run promise.
use Rattle.std.specs.Prelude.{◌≡◌, ℕ, Bool, List, ◌∷◌, Some, count_ones}
use Rattle.book.specs.Plain.{asking}
use Rattle.walks.specs.declared.parts.Event.{Event}
use Rattle.walks.specs.declared.parts.Event.TheVariants.{Told, Reported}
use Rattle.walks.specs.Logs.{Agreeing, NoneAwaited, Asked, Ended, all_told, last_minute}
use Rattle.walks.specs.Law.{Law, Whole}
use Rattle.runs.specs.declared.sheet.RunSheet.{RunSheet}
use Rattle.runs.specs.declared.state.Run.{Run}
use Rattle.runs.specs.declared.state.Walking.{Walking}
use Rattle.runs.specs.declared.state.Asking.{Asking}
use Rattle.runs.specs.declared.state.Finished.{Finished}
use Rattle.runs.specs.declared.state.Stepped.{Stepped}
use Rattle.runs.specs.declared.state.Stepped.TheVariants.{Walks as StepsOn, Asks as StepsToAsk, Ends}
use Rattle.runs.specs.declared.state.Answered.{Answered}
use Rattle.runs.specs.declared.state.Answered.TheVariants.{Asks as AsksOn, Walks as WalksOn}
use Rattle.runs.specs.declared.state.Check.{Check}
use Rattle.runs.specs.declared.state.Closed.{Closed}
use Rattle.runs.specs.Recorded.{recorded}
use Rattle.runs.specs.Sheets.{plan, times}

-- a run is on this sheet with this log, and keeps the law
pub record Keeps (sheet : RunSheet) (log : List Event) (r : Run) : Type 0 where
  pub on_sheet : r.sheet.now ≡ sheet
  pub has_log : recorded r.log ≡ log
  pub law : Law (plan sheet) (times sheet) log

-- such a run walks: no check is awaited
pub record Walks (sheet : RunSheet) (log : List Event) (r : Walking) : Type 0 where
  pub run : Keeps sheet log r.run
  pub idle : NoneAwaited (plan sheet) log

-- it asks: the check it asks for is the lowest one awaited
pub record Asks (sheet : RunSheet) (log : List Event) (r : Asking) : Type 0 where
  pub run : Keeps sheet log r.run
  pub asks : Asked (plan sheet) log r.check

-- a whole run: it kept the law, no agreeing case has a job left, and each had all its jobs told
pub record Ran (sheet : RunSheet) (log : List Event) : Type 0 where
  pub law : Law (plan sheet) (times sheet) log
  pub ended : Ended (plan sheet) log
  pub whole : (s : ℕ) → Agreeing (plan sheet) log s → Whole (plan sheet) (times sheet) log s

-- a run on this sheet with this log finished, and was a whole run
pub record Finishes (sheet : RunSheet) (log : List Event) (r : Finished) : Type 0 where
  pub run : Keeps sheet log r.run
  pub ran : Ran sheet log

-- a step adds its telling to the log, or finds the run at its end
abbrev pub Steps : RunSheet → List Event → Stepped → Type 0
Steps sheet log (StepsOn t r) = Walks sheet (Told t ∷ log) r
Steps sheet log (StepsToAsk t r) = Asks sheet (Told t ∷ log) r
Steps sheet log (Ends r) = Finishes sheet log r

-- the outcome of check c as an event
abbrev pub reported : ℕ → Bool → Event
reported c outcome = Reported (record { check = c; yes = outcome })

-- a report of check c adds its outcome to the log
abbrev pub Answers : RunSheet → List Event → Answered → Type 0
Answers sheet log (AsksOn r) = Asks sheet log r
Answers sheet log (WalksOn r) = Walks sheet log r

-- a run on a sheet with this log asks for this check, the lowest one awaited, with its job
pub record AsksFor (sheet : RunSheet) (log : List Event) (c : Check) : Type 0 where
  pub job : c.job ≡ asking (plan sheet) c.number
  pub asks : Asked (plan sheet) log c.number

-- the check that a run asks for
pub record AskedOf (r : Asking) (c : Check) : Type 0 where
  pub number : c.number ≡ r.check
  pub asks : AsksFor r.run.sheet.now (recorded r.run.log) c

-- what close answers: how many jobs were told, and the last minute told
pub record Closes (log : List Event) (r : Closed) : Type 0 where
  pub jobs : r.jobs ≡ count_ones (all_told log)
  pub last : last_minute log ≡ Some r.last
