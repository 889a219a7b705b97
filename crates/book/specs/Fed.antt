-- Whole lists of calls, fed to the plain book.
use Rattle.std.specs.Prelude.{◌<◌, List, [], ◌∷◌, Result}
use Rattle.std.specs.Result.{result_map_both}
use Rattle.book.specs.declared.parts.Label.{Label}
use Rattle.book.specs.declared.parts.Call.{Call}
use Rattle.book.specs.declared.parts.Call.TheVariants.{AddJob, AddCheck, AddBound, Withdraw}
use Rattle.book.specs.declared.parts.Taken.{Taken}
use Rattle.book.specs.declared.parts.Taken.TheVariants.{NewJob, NewBound, Withdrawn}
use Rattle.book.specs.declared.parts.Refusal.{Refusal}
use Rattle.book.specs.Plain.{Plain, new_book, add_job, add_check, add_bound, withdraw}

-- what a call is answered
abbrev pub Answer : Type 0
Answer = Result Taken Refusal

-- the plain book after one call
abbrev pub fed_one : Plain → Call → Plain
fed_one b (AddJob l) = (add_job b l).after
fed_one b (AddCheck l) = (add_check b l).after
fed_one b (AddBound l) = (add_bound b l).after
fed_one b (Withdraw n) = (withdraw b n).after

-- what it answers: the number that a call of the plain book answers, as a job's or a bound's; a refusal as it is
abbrev pub answered : {A : Type 0} → (A → Taken) → Result A Refusal → Answer
answered f r = result_map_both f (λ e. e) r

abbrev pub answer_one : Plain → Call → Answer
answer_one b (AddJob l) = answered NewJob (add_job b l).answer
answer_one b (AddCheck l) = answered NewJob (add_check b l).answer
answer_one b (AddBound l) = answered NewBound (add_bound b l).answer
answer_one b (Withdraw n) = answered (λ _. Withdrawn) (withdraw b n).answer

-- the plain book after a list of calls, first to last, and what they answer
abbrev pub fed_from : Plain → List Call → Plain
fed_from b [] = b
fed_from b (c ∷ cs) = fed_from (fed_one b c) cs

abbrev pub answers : Plain → List Call → List Answer
answers b [] = []
answers b (c ∷ cs) = answer_one b c ∷ answers (fed_one b c) cs

-- from a new book
abbrev pub fed : List Call → Plain
fed cs = fed_from new_book cs

-- labels are handed over as two sets of eight checks
abbrev pub ByteSets : Label → Type 0
ByteSets l = (l.yes < 256) × (l.no < 256)

abbrev pub Handed : Call → Type 0
Handed (AddJob l) = ByteSets l
Handed (AddCheck l) = ByteSets l
Handed (AddBound l) = Unit {0}
Handed (Withdraw n) = Unit {0}
