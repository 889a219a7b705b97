-- A run sheet, as its plan and the minutes of its plan.
use Rattle.std.specs.Prelude.{◌≡◌}
use Rattle.book.specs.Held.{held}
use Rattle.book.specs.Plain.{Plain}
use Rattle.grades.specs.Grades.{Minutes, Dynamic}
use Rattle.walks.specs.Ready.{read, Ready}
use Rattle.runs.specs.declared.sheet.RunSheet.{RunSheet}
use Rattle.runs.specs.declared.sheet.Readiness.{Readiness}
use Rattle.runs.specs.declared.sheet.Readiness.TheVariants.{Yes, No}

abbrev pub plan : RunSheet → Plain
plan r = held r.book

abbrev pub times : RunSheet → Minutes
times r = read (plan r) r.minutes

-- a book has no dynamic strategy
abbrev pub NoDynamic : Plain → Type 0
NoDynamic b = (minute : Minutes) → Dynamic b minute → ⊥

-- yes: the sheet holds the book and its earliest dynamic strategy; no: the book has no dynamic strategy, and the sheet is as before
abbrev pub MakesReady : Plain → RunSheet → RunSheet → Readiness → Type 0
MakesReady b before after Yes = (plan after ≡ b) × Ready b after.minutes
MakesReady b before after No = NoDynamic b × (after ≡ before)
