-- The whole promise, from a new book to the end of a run.
use Rattle.std.specs.Prelude.{◌≡◌, Bool, List, ℤ, vec_items, Option, MatchOption}
use Rattle.book.specs.Plain.{Plain, new_book}
use Rattle.book.specs.Held.{held}
use Rattle.book.specs.Fed.{fed}
use Rattle.rules.specs.declared.parts.Origin.{Origin}
use Rattle.rules.specs.Rules.{System}
use Rattle.find.specs.Answers.{Finds}
use Rattle.walks.specs.Ready.{Ready}
use Rattle.runs.specs.declared.ending.Walked.{Walked}
use Rattle.runs.specs.declared.sheet.RunSheet.{RunSheet}
use Rattle.runs.specs.Sheets.{plan, NoDynamic}
use Rattle.runs.specs.Walks.{WalksSo}
use Rattle.promise.specs.declared.parts.Request.{Request}
use Rattle.promise.specs.declared.outcome.Outcome.{Outcome}
use Rattle.promise.specs.Serving.{desk, AllServed, calls_among}

-- The run: the plan has no dynamic strategy; or a sheet holds this plan with the minutes of its earliest dynamic strategy, and the
-- run that was walked on it keeps the law.
pub record OnSheet (b : Plain) (outcomes : List Bool) (w : Walked) : Type 0 where
  pub sheet : RunSheet
  pub same_plan : plan sheet ≡ b
  pub ready : Ready b sheet.minutes
  pub walks : WalksSo sheet outcomes w

abbrev pub RunKept : Plain → List Bool → Option Walked → Type 0
RunKept b outcomes run = MatchOption run (NoDynamic b) (OnSheet b outcomes)

-- the lists that are lent: the minutes list and the loop list of the verdicts, and the minutes list of the search
pub record Lent : Type 0 where
  pub minutes : List ℤ
  pub loops : List Origin
  pub table : List ℤ

-- What is promised. Each request was served in its turn, from a new book; the book holds what the plain book holds after the same
-- calls; the search answered as find does; the run was kept.
pub record Promise (requests : List Request) (m : System) (outcomes : List Bool) (before after : Lent) (o : Outcome) : Type 0 where
  pub served : AllServed (desk new_book before.minutes before.loops) requests (vec_items o.replies)
      (desk (held o.book) after.minutes after.loops)
  pub book : held o.book ≡ fed (calls_among requests)
  pub found : Finds m before.table after.table o.found
  pub run : RunKept (held o.book) outcomes o.run
