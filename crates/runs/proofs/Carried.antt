-- What a run keeps in its type from one call to the next.
use Rattle.std.proofs.Common.{◌≡◌, ℕ, ◌+◌, ◌<◌, List, ◌∷◌, length, Some, None, Option, refl, sym, subst}
use Rattle.std.proofs.Common.{arith}
use mathlib.Core.Logic.{∥∥₁_elim}
use Rattle.book.specs.Held.{held_sound}
use Rattle.book.specs.Plain.{Plain, Case}
use Rattle.grades.specs.Grades.{Minutes}
use Rattle.grades.proofs.Runs.{runs_alike}
use Rattle.walks.specs.declared.parts.Telling.{Telling}
use Rattle.walks.specs.declared.parts.Report.{Report}
use Rattle.walks.specs.declared.parts.Event.{Event}
use Rattle.walks.specs.declared.parts.Event.TheVariants.{Told, Reported}
use Rattle.walks.specs.Logs.{Lawful, NoneAwaited, Asked, Ended, last_minute}
use Rattle.walks.specs.Standing.{yes_set, heard_set, time, First, Opens}
use Rattle.walks.specs.Sought.{LowestSought}
use Rattle.walks.proofs.Asks.{asked_for, none_asked}
use Rattle.walks.proofs.Laws.{lawful_keep_law, ended_are_whole}
use Rattle.walks.proofs.Reports.{yes_case}
use Rattle.walks.proofs.Single.{lawful_single, ended_single}
use Rattle.walks.proofs.Steps.{tells, ends, few_events, last_of}
use Rattle.runs.specs.declared.state.Run.{Run}
use Rattle.runs.specs.declared.state.Walking.{Walking}
use Rattle.runs.specs.declared.state.Asking.{Asking}
use Rattle.runs.specs.Recorded.{recorded}
use Rattle.runs.specs.Sheets.{plan, times}
use Rattle.runs.specs.Steps.{Keeps, Ran}

-- the plan, the minutes and the log of a run
abbrev pub plan_of : Run → Plain
plan_of r = plan r.sheet.now

abbrev pub times_of : Run → Minutes
times_of r = times r.sheet.now

abbrev pub log_of : Run → List Event
log_of r = recorded r.log

-- what a run carries
module _ (run : Run) where
  -- the check to be asked for, by the sets that the log keeps
  pub asked_next : (c : ℕ) → LowestSought (plan_of run) run.log.just run.log.heard (Some c) → Asked (plan_of run) (log_of run) c
  asked_next c h =
      asked_for (plan_of run) (log_of run) c
      (subst (λ x. LowestSought (plan_of run) x (heard_set (log_of run)) (Some c)) run.log.just_is
      (subst (λ x. LowestSought (plan_of run) run.log.just x (Some c)) run.log.heard_is h))

  pub none_next : LowestSought (plan_of run) run.log.just run.log.heard None → NoneAwaited (plan_of run) (log_of run)
  none_next h =
      none_asked (plan_of run) (log_of run)
      (subst (λ x. LowestSought (plan_of run) x (heard_set (log_of run)) None) run.log.just_is
      (subst (λ x. LowestSought (plan_of run) run.log.just x None) run.log.heard_is h))

  pub keeps : Keeps run.sheet.now (log_of run) run
  keeps = record { on_sheet = refl; has_log = refl; law = lawful_keep_law (plan_of run) (times_of run) (log_of run) run.law }

  -- there is room for one event more
  pub room : (e : Event) → Lawful (plan_of run) (times_of run) (e ∷ log_of run) → length (log_of run) < 24
  room e l =
      let f = few_events (plan_of run) (times_of run) (e ∷ log_of run) l in
      let j = (held_sound run.sheet.now.book).few_jobs in
      let c = (held_sound run.sheet.now.book).few_checks in
      omega arith

  -- a run that is at its end
  pub ran : Ended (plan_of run) (log_of run) → Ran run.sheet.now (log_of run)
  ran e = record {
    law = lawful_keep_law (plan_of run) (times_of run) (log_of run) run.law;
    ended = e;
    whole = ended_are_whole (plan_of run) (times_of run) (log_of run) run.law e;
  }

  -- something was told by then: `start`, at least
  pub last_told : Ended (plan_of run) (log_of run) → (m : ℕ) × (last_minute (log_of run) ≡ Some m) × (time (log_of run) ≡ m + 1)
  last_told e = last_of (plan_of run) (held_sound run.sheet.now.book) (times_of run) (log_of run) run.law e

-- what comes first in the leading case, that of the checks reported yes
module _ (r : Walking) where
  leading : Case (plan_of r.run) r.run.log.yes
  leading = subst (λ s. Case (plan_of r.run) s) (sym r.run.log.yes_is) (yes_case (plan_of r.run) (times_of r.run) (log_of r.run) r.run.law)

  first_come : (next : Option Telling) → Opens (plan_of r.run) (times_of r.run) r.run.log.yes r.run.log.time next →
      First (plan_of r.run) (times_of r.run) (yes_set (log_of r.run)) (time (log_of r.run)) next
  first_come next o =
      subst (λ s. First (plan_of r.run) (times_of r.run) s (time (log_of r.run)) next) r.run.log.yes_is
      (subst (λ f. First (plan_of r.run) (times_of r.run) r.run.log.yes f next) r.run.log.time_is (o leading))

  module _ (next : Option Telling) (opens : Opens (plan_of r.run) (times_of r.run) r.run.log.yes r.run.log.time next) where
    -- it is right to tell it
    pub told : (t : Telling) → next ≡ Some t → Lawful (plan_of r.run) (times_of r.run) (Told t ∷ log_of r.run)
    told t is =
        let first = subst (First (plan_of r.run) (times_of r.run) (yes_set (log_of r.run)) (time (log_of r.run))) is
        (first_come next opens) in
        ∥∥₁_elim r.run.sheet.now.earliest (lawful_single (plan_of r.run) (times_of r.run) (Told t ∷ log_of r.run)) (λ e. (
          r.run.law,
          (
            r.idle,
            tells runs_alike (plan_of r.run) (held_sound r.run.sheet.now.book) (times_of r.run) e.good
                (log_of r.run) r.run.law r.idle t first,
          ),
        ))

    -- with nothing more to come the run is at its end
    pub ended : next ≡ None → Ended (plan_of r.run) (log_of r.run)
    ended is =
        let over = subst (First (plan_of r.run) (times_of r.run) (yes_set (log_of r.run)) (time (log_of r.run))) is
        (first_come next opens) in
        ∥∥₁_elim r.run.sheet.now.earliest (ended_single (plan_of r.run) (log_of r.run)) (λ e.
        ends runs_alike (plan_of r.run) (held_sound r.run.sheet.now.book) (times_of r.run) e.good
        (log_of r.run) r.run.law r.idle over)

-- a report of the check asked for is right
pub heard : (r : Asking) (report : Report) → report.check ≡ r.check →
    Lawful (plan_of r.run) (times_of r.run) (Reported report ∷ log_of r.run)
heard r report e = (r.run.law, subst (λ c. Asked (plan_of r.run) (log_of r.run) c) (sym e) r.asks)

-- what a run that goes on carries over
pub ruleset going_on = (keeps, asked_next, none_next)
