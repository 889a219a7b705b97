-- The worked examples, each a statement of the definitions.
use Rattle.std.specs.Prelude.{◌≡◌, ℕ, ◌+◌, ◌^◌, Bool, true, false, ◌⊎◌, List, [], ◌∷◌, ◌++◌, map, ℤ, pos, negsuc, Some, Ok, Option, count_ones, slice_get}
use Rattle.book.specs.declared.parts.Taken.TheVariants.{NewJob, NewBound}
use Rattle.book.specs.Fed.{fed, answers}
use Rattle.book.specs.Plain.{Plain, cases, new_book, add_check, add_job, add_bound, withdraw}
use Rattle.rules.specs.declared.parts.Origin.{Origin}
use Rattle.rules.specs.declared.parts.Origin.TheVariants.{Bound}
use Rattle.rules.specs.Rules.{Keeps}
use Rattle.rules.specs.Loops.{Loop, total}
use Rattle.grades.specs.Grades.{Minutes, Weak, Strong, Dynamic, Earliest}
use Rattle.grades.specs.Systems.{listed, strong_system, weak_system, strong_origins, weak_origins}
use Rattle.walks.specs.declared.parts.Event.{Event}
use Rattle.walks.specs.declared.parts.Event.TheVariants.{Told, Reported}
use Rattle.walks.specs.Logs.{Lawful, Ended, all_told, last_minute}
use Rattle.examples.specs.Plans.{label, least, most, start, wet, pump, grout, seal}
use Rattle.examples.specs.Plans.{plan, wet_hole, calls, Taken, Refused, written, timetable}

-- no strategy of a grade
abbrev pub Without : (Minutes → Type 0) → Type 0
Without Grade = (minute : Minutes) → Grade minute → ⊥

-- the origins of the rules with these numbers
abbrev pub origins : List Origin → List ℕ → List (Option Origin)
origins all rules = map (slice_get all) rules

-- A new book has one case, and in every grade `start` at minute 0.
abbrev pub at_once : Minutes
at_once = written ((0 ∷ []) ∷ [])

pub record NewBook : Type 0 where
  pub one_case : cases new_book ≡ 1
  pub strong : Earliest new_book (Strong new_book) at_once
  pub dynamic : Earliest new_book (Dynamic new_book) at_once
  pub weak : Earliest new_book (Weak new_book) at_once

-- The plan is what its calls write down in a new book, and each answers the new number. It is dynamic and not strong: in a dry
-- hole grout comes right after the look, in a wet one after the pumping.
pub record WetHole : Type 0 where
  pub answers_are : answers new_book (calls (pos 20) [])
      ≡ map (λ n. Ok (NewJob n)) (1 ∷ 2 ∷ 3 ∷ 4 ∷ []) ++ map (λ n. Ok (NewBound n)) (0 ∷ 1 ∷ 2 ∷ 3 ∷ 4 ∷ [])
  pub plan_is : fed (calls (pos 20) []) ≡ wet_hole
  pub not_strong : Without (Strong wet_hole)
  pub loop : Loop (strong_system wet_hole) (1 ∷ 3 ∷ 4 ∷ 2 ∷ [])
  pub loop_of : origins (strong_origins wet_hole) (1 ∷ 3 ∷ 4 ∷ 2 ∷ []) ≡ Some (Bound 1) ∷ Some (Bound 3) ∷ Some (Bound 4) ∷ Some (Bound 2) ∷ []
  pub sum : total (strong_system wet_hole) (1 ∷ 3 ∷ 4 ∷ 2 ∷ []) ≡ pos 65
  pub dynamic : Earliest wet_hole (Dynamic wet_hole) (timetable 61 61)
  pub listed_as : listed wet_hole (timetable 61 61)
      ≡ pos 0 ∷ pos 60 ∷ negsuc 0 ∷ pos 61 ∷ pos 61 ∷ pos 0 ∷ pos 60 ∷ pos 65 ∷ pos 155 ∷ negsuc 0 ∷ []

-- Were the outcome known in advance, grout would come at minute 0 in a dry hole.
pub record KnownBefore : Type 0 where
  pub weak : Earliest wet_hole (Weak wet_hole) (timetable 0 61)

-- Without bound 4 one timetable serves both outcomes, with grout at 155.
abbrev pub loosened : Plain
loosened = (withdraw wet_hole 4).after

pub record Loosened : Type 0 where
  pub taken : Taken (withdraw wet_hole 4) tt
  pub strong : Earliest loosened (Strong loosened) (timetable 155 61)

-- With grout at most an hour after `start` no timetable fits a wet hole, and so there is no strategy; a table for a dry one there is.
abbrev pub hurried : Plain
hurried = (add_bound wet_hole (most start grout (pos 60))).after

pub record Hurried : Type 0 where
  pub taken : Taken (add_bound wet_hole (most start grout (pos 60))) 5
  pub not_weak : Without (Weak hurried)
  pub dry_kept : Keeps (weak_system hurried 0) (0 ∷ 60 ∷ 0 ∷ 0 ∷ 61 ∷ [])
  pub loop : Loop (weak_system hurried 1) (0 ∷ 3 ∷ 2 ∷ 1 ∷ [])
  pub loop_of : origins (weak_origins hurried 1) (0 ∷ 3 ∷ 2 ∷ 1 ∷ []) ≡ Some (Bound 0) ∷ Some (Bound 5) ∷ Some (Bound 2) ∷ Some (Bound 1) ∷ []
  pub sum : total (weak_system hurried 1) (0 ∷ 3 ∷ 2 ∷ 1 ∷ []) ≡ pos 95
  pub wet_fails : (table : List ℕ) → Keeps (weak_system hurried 1) table → ⊥

-- The seal at most 5 minutes after the look, and so many after the grout: 5 are too many for whoever learns the outcome at the
-- hole, 4 are not.
abbrev pub tight : ℤ → Plain
tight minutes = plan (pos 5) (least grout seal minutes ∷ [])

pub record TightByFive : Type 0 where
  pub plan_is : fed (calls (pos 5) (least grout seal (pos 5) ∷ [])) ≡ tight (pos 5)
  pub weak : Earliest (tight (pos 5)) (Weak (tight (pos 5))) (timetable 0 61)
  pub not_dynamic : Without (Dynamic (tight (pos 5)))

pub record TightByFour : Type 0 where
  pub plan_is : fed (calls (pos 5) (least grout seal (pos 4) ∷ [])) ≡ tight (pos 4)
  pub dynamic : Earliest (tight (pos 4)) (Dynamic (tight (pos 4))) (timetable 61 65)

-- Minutes beyond three days are refused, and so is a bound between two jobs that exclude each other.
pub record BoundsTaken : Type 0 where
  pub three_days : Taken (add_bound wet_hole (least start grout (pos 4320))) 5
  pub three_days_back : Taken (add_bound wet_hole (least start grout (negsuc 4319))) 5
  pub beyond : Refused wet_hole (add_bound wet_hole (least start grout (pos 4321))) 7
  pub beyond_back : Refused wet_hole (add_bound wet_hole (least start grout (negsuc 4320))) 7
  pub exclusive : Refused wet_hole (add_bound wet_hole (least pump seal (pos 0))) 9

-- Check `core` waits for a no of `wet`; a job that waits for a yes of `core` has to wait for that no too.
abbrev pub with_core : Plain
with_core = (add_check wet_hole (label 0 1)).after

pub record LabelsTaken : Type 0 where
  pub core : Taken (add_check wet_hole (label 0 1)) 5
  pub part_missing : Refused with_core (add_job with_core (label 2 0)) 5
  pub whole : Taken (add_job with_core (label 2 1)) 6

-- events of a run: a telling of a minute with a set of jobs, and a report of whether the hole is wet
abbrev pub told : ℕ → ℕ → Event
told minute jobs = Told (record { minute = minute; jobs = jobs })

abbrev pub reported : Bool → Event
reported said = Reported (record { check = 0; yes = said })

-- the run on the plan's sheet where the report is no, and the one where it is yes; a log has the newest event first
abbrev pub dry_run : List Event
dry_run = told 61 (2 ^ grout + 2 ^ seal) ∷ reported false ∷ told 60 (2 ^ wet) ∷ told 0 (2 ^ start) ∷ []

abbrev pub wet_run : List Event
wet_run = told 155 (2 ^ grout) ∷ told 65 (2 ^ pump) ∷ reported true ∷ told 60 (2 ^ wet) ∷ told 0 (2 ^ start) ∷ []

-- Each comes to its end with four jobs told, and no other run does.
pub record Runs : Type 0 where
  pub dry_lawful : Lawful wet_hole (timetable 61 61) dry_run
  pub dry_ended : Ended wet_hole dry_run
  pub dry_jobs : count_ones (all_told dry_run) ≡ 4
  pub dry_last : last_minute dry_run ≡ Some 61
  pub wet_lawful : Lawful wet_hole (timetable 61 61) wet_run
  pub wet_ended : Ended wet_hole wet_run
  pub wet_jobs : count_ones (all_told wet_run) ≡ 4
  pub wet_last : last_minute wet_run ≡ Some 155
  pub no_other : (log : List Event) → Lawful wet_hole (timetable 61 61) log → Ended wet_hole log → (log ≡ dry_run) ⊎ (log ≡ wet_run)

-- The worked examples, all of them.
pub record Worked : Type 0 where
  pub new_book : NewBook
  pub wet_hole : WetHole
  pub known_before : KnownBefore
  pub loosened : Loosened
  pub hurried : Hurried
  pub tight_by_five : TightByFive
  pub tight_by_four : TightByFour
  pub bounds_taken : BoundsTaken
  pub labels_taken : LabelsTaken
  pub runs : Runs
