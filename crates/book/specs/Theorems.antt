-- What holds of every plain book.
use Rattle.std.specs.Prelude.{ℕ, ◌<◌, List, length}
use Rattle.std.specs.List.{AllByRecursion}
use Rattle.book.specs.declared.parts.Call.{Call}
use Rattle.book.specs.Labels.{Names}
use Rattle.book.specs.Plain.{Plain, Done, job, asking}
use Rattle.book.specs.Sound.{Sound}
use Rattle.book.specs.Fed.{Handed, fed}

-- a job that is done in a case has every check of its label done there
abbrev pub ChecksDone : Type 0
ChecksDone = (b : Plain) → Sound b → (s j c : ℕ) → j < length b.jobs → Done b s j → Names (job b j).label c → Done b s (asking b c)

-- whatever calls a new plain book is fed, it is sound
abbrev pub StaysSound : Type 0
StaysSound = (calls : List Call) → AllByRecursion Handed calls → Sound (fed calls)
