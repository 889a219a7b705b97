-- The book that a plan sets down: its lines are fed to the plain book, one after another.
use Rattle.std.specs.Prelude.{ℕ, ◌^◌, List, [], ◌∷◌, Some, None, Ok, Err, Option, Result, bit_or}
use Rattle.book.specs.declared.parts.Label.{Label}
use Rattle.book.specs.declared.parts.Bound.{Bound}
use Rattle.book.specs.declared.parts.Refusal.{Refusal}
use Rattle.book.specs.Plain.{Plain, Outcome, empty_label, new_book, add_job, add_check, add_bound}
use Rattle.format.specs.declared.parts.Work.{Work}
use Rattle.format.specs.declared.parts.Work.TheVariants.{Job, Check}
use Rattle.format.specs.declared.parts.Sign.{Sign}
use Rattle.format.specs.declared.parts.Sign.TheVariants.{Plus, Minus}
use Rattle.format.specs.Format.{Want, JobLine, BoundLine, PlanText, Known, at_first, after, after_all, job_number, check_number}

abbrev pub or_zero : Option ℕ → ℕ
or_zero None = 0
or_zero (Some n) = n

-- a label with one more check wanted: the same check twice is the same bit
abbrev pub wanting : Label → Sign → ℕ → Label
wanting l Plus c = record { yes = bit_or l.yes (2 ^ c); no = l.no }
wanting l Minus c = record { yes = l.yes; no = bit_or l.no (2 ^ c) }

-- the label that label words give, after those of l
abbrev pub label_from : Label → List Known → List Want → Label
label_from l ks [] = l
label_from l ks (a ∷ xs) = label_from (wanting l a.sign (or_zero (check_number ks a.name))) ks xs

abbrev pub label_in : List Known → List Want → Label
label_in ks xs = label_from empty_label ks xs

abbrev pub bound_in : List Known → BoundLine → Bound
bound_in ks b = record { kind = b.kind; first = or_zero (job_number ks b.first); second = or_zero (job_number ks b.second); minutes = b.minutes }

-- what the book does with a line
abbrev pub add : Work → Plain → Label → Outcome ℕ
add Job b l = add_job b l
add Check b l = add_check b l

abbrev pub call_job : List Known → Plain → JobLine → Outcome ℕ
call_job ks b j = add j.work b (label_in ks j.wants)

abbrev pub call_bound : List Known → Plain → BoundLine → Outcome ℕ
call_bound ks b l = add_bound b (bound_in ks l)

-- and with several
abbrev pub book_after_jobs : List Known → Plain → List JobLine → Plain
book_after_jobs ks b [] = b
book_after_jobs ks b (j ∷ js) = book_after_jobs (after ks j) (call_job ks b j).after js

abbrev pub book_after_bounds : List Known → Plain → List BoundLine → Plain
book_after_bounds ks b [] = b
book_after_bounds ks b (l ∷ ls) = book_after_bounds ks (call_bound ks b l).after ls

-- the book takes a line, each of several, and a whole plan
abbrev pub Accepts : {A : Type 0} → Result A Refusal → Type 0
Accepts (Ok a) = Unit {0}
Accepts (Err r) = ⊥

abbrev pub TakesJobs : List Known → Plain → List JobLine → Type 0
TakesJobs ks b [] = Unit {0}
TakesJobs ks b (j ∷ js) = Accepts (call_job ks b j).answer × TakesJobs (after ks j) (call_job ks b j).after js

abbrev pub TakesBounds : List Known → Plain → List BoundLine → Type 0
TakesBounds ks b [] = Unit {0}
TakesBounds ks b (l ∷ ls) = Accepts (call_bound ks b l).answer × TakesBounds ks (call_bound ks b l).after ls

abbrev pub BookTakes : PlanText → Type 0
BookTakes p = TakesJobs at_first new_book p.jobs × TakesBounds (after_all at_first p.jobs) (book_after_jobs at_first new_book p.jobs) p.bounds

-- the book that a plan sets down
abbrev pub book_of : PlanText → Plain
book_of p = book_after_bounds (after_all at_first p.jobs) (book_after_jobs at_first new_book p.jobs) p.bounds
