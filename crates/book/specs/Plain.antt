-- The plain book: a list of jobs and a list of bounds, and what each call does to them and answers.
use Rattle.std.specs.Prelude.{ℕ, ◌^◌, ◌<◌, Bool, cond, not, ◌&&◌, ◌||◌, List, [], ◌∷◌, ◌++◌, length, pos, Some, None, Ok}
use Rattle.std.specs.Prelude.{Err, vec_items, Option, Result, is_some, ◌==◌, nat_eq, nat_le, slice_index_or, unsigned_abs}
use Rattle.std.specs.List.{remove, count_by, position_or_len}
use Rattle.std.specs.Option.{option_eq}
use Rattle.book.specs.declared.parts.Label.{Label}
use Rattle.book.specs.declared.parts.Job.{Job}
use Rattle.book.specs.declared.parts.Kind.TheVariants.{Least}
use Rattle.book.specs.declared.parts.Bound.{Bound}
use Rattle.book.specs.declared.parts.Table.{Table}
use Rattle.book.specs.declared.parts.Refusal.{Refusal}
use Rattle.book.specs.declared.parts.Refusal.TheVariants.{JobsFull, ChecksFull, UnknownCheck, BothWays, PartMissing}
use Rattle.book.specs.declared.parts.Refusal.TheVariants.{UnknownJob, MinutesBeyond, SameJob, Exclusive, BoundsFull, UnknownBound}
use Rattle.book.specs.Labels.{Meets, wants_yes, wants_no, names, any_below}

pub record Plain : Type 0 where
  pub jobs : List Job
  pub bounds : List Bound

-- what a book's two lists hold
abbrev pub plain : Table → Plain
plain t = record { jobs = vec_items t.jobs; bounds = vec_items t.bounds }

abbrev pub empty_label : Label
empty_label = record { yes = 0; no = 0 }

abbrev pub no_job : Job
no_job = record { label = empty_label; check = None }

abbrev pub no_bound : Bound
no_bound = record { kind = Least; first = 0; second = 0; minutes = pos 0 }

-- a new book holds `start` alone: job 0, with an empty label, and no check
abbrev pub new_book : Plain
new_book = record { jobs = no_job ∷ []; bounds = [] }

abbrev pub job : Plain → ℕ → Job
job b j = slice_index_or b.jobs j no_job

abbrev pub bound : Plain → ℕ → Bound
bound b i = slice_index_or b.bounds i no_bound

-- how many of the jobs are checks
abbrev pub checks : Plain → ℕ
checks b = count_by (λ j. is_some j.check) b.jobs

-- with k checks there are 2 to the k cases
abbrev pub cases : Plain → ℕ
cases b = 2 ^ checks b

-- the job is check c
abbrev pub is_check : Job → ℕ → Bool
is_check j c = option_eq nat_eq j.check (Some c)

-- the number of the job that is check c (past the last job where there is none)
abbrev pub asking : Plain → ℕ → ℕ
asking b c = position_or_len (λ j. is_check j c) b.jobs

-- a case of the book, and a job done in a case: the case meets its whole label
abbrev pub Case : Plain → ℕ → Type 0
Case b s = s < cases b

abbrev pub Done : Plain → ℕ → ℕ → Type 0
Done b s j = Meets (job b j).label s

-- Refusals. Each has its number, and each call a table of rows: the first row that applies is the refusal.
abbrev pub number : Refusal → ℕ
number JobsFull = 1
number ChecksFull = 2
number UnknownCheck = 3
number BothWays = 4
number PartMissing = 5
number UnknownJob = 6
number MinutesBeyond = 7
number SameJob = 8
number Exclusive = 9
number BoundsFull = 10
number UnknownBound = 11

pub record Row : Type 0 where
  pub applies : Bool
  pub refusal : Refusal

abbrev pub row : Bool → Refusal → Row
row t r = record { applies = t; refusal = r }

abbrev pub first_row : List Row → Option Refusal
first_row [] = None
first_row (r ∷ rs) = cond r.applies (Some r.refusal) (first_row rs)

-- the label names a check that is not in the book
abbrev pub names_unknown : Plain → Label → Bool
names_unknown b l = any_below 8 (λ k. names l k && nat_le (checks b) k)

-- it wants a check both yes and no
abbrev pub both_ways : Label → Bool
both_ways l = any_below 8 (λ k. wants_yes l k && wants_no l k)

-- it lacks part of another label
abbrev pub lacks : Label → Label → Bool
lacks l m = any_below 8 (λ k. (wants_yes m k && not (wants_yes l k)) || (wants_no m k && not (wants_no l k)))

-- it lacks part of the label of a check that it names
unfoldable pub part_missing : Plain → Label → Bool
part_missing b l = any_below 8 (λ c. names l c && lacks l (job b (asking b c)).label)

-- one label wants yes of a check, the other no
abbrev pub exclude : Label → Label → Bool
exclude l m = any_below 8 (λ k. (wants_yes l k && wants_no m k) || (wants_no l k && wants_yes m k))

abbrev pub full_jobs : Plain → Bool
full_jobs b = nat_le 20 (length b.jobs)

abbrev pub job_refusal : Plain → Label → Option Refusal
job_refusal b l =
    first_row (
    row (full_jobs b) JobsFull
    ∷ row (names_unknown b l) UnknownCheck
    ∷ row (both_ways l) BothWays
    ∷ row (part_missing b l) PartMissing
    ∷ []
    )

abbrev pub check_refusal : Plain → Label → Option Refusal
check_refusal b l =
    first_row (
    row (full_jobs b) JobsFull
    ∷ row (nat_le 4 (checks b)) ChecksFull
    ∷ row (names_unknown b l) UnknownCheck
    ∷ row (both_ways l) BothWays
    ∷ row (part_missing b l) PartMissing
    ∷ []
    )

abbrev pub bound_refusal : Plain → Bound → Option Refusal
bound_refusal b l =
    first_row (
    row (nat_le (length b.jobs) l.first || nat_le (length b.jobs) l.second) UnknownJob
    ∷ row (nat_le 4321 (unsigned_abs l.minutes)) MinutesBeyond
    ∷ row (l.first == l.second) SameJob
    ∷ row (exclude (job b l.first).label (job b l.second).label) Exclusive
    ∷ row (nat_le 64 (length b.bounds)) BoundsFull
    ∷ []
    )

abbrev pub withdraw_refusal : Plain → ℕ → Option Refusal
withdraw_refusal b n = first_row (row (nat_le (length b.bounds) n) UnknownBound ∷ [])

-- what a call answers and the book after it: a refusal alters nothing
pub record Outcome (A : Type 0) : Type 0 where
  pub answer : Result A Refusal
  pub after : Plain

abbrev pub unless : {A : Type 0} → Option Refusal → A → Plain → Plain → Outcome A
unless None a after before = record { answer = Ok a; after = after }
unless (Some r) a after before = record { answer = Err r; after = before }

abbrev pub with_job : Plain → Job → Plain
with_job b j = record { jobs = b.jobs ++ (j ∷ []); bounds = b.bounds }

abbrev pub with_bound : Plain → Bound → Plain
with_bound b l = record { jobs = b.jobs; bounds = b.bounds ++ (l ∷ []) }

-- without bound n; later bounds move down by one
abbrev pub without_bound : Plain → ℕ → Plain
without_bound b n = record { jobs = b.jobs; bounds = remove b.bounds n }

-- the four calls: adding answers the new job's or bound's number
abbrev pub add_job : Plain → Label → Outcome ℕ
add_job b l = unless (job_refusal b l) (length b.jobs) (with_job b (record { label = l; check = None })) b

abbrev pub add_check : Plain → Label → Outcome ℕ
add_check b l = unless (check_refusal b l) (length b.jobs) (with_job b (record { label = l; check = Some (checks b) })) b

abbrev pub add_bound : Plain → Bound → Outcome ℕ
add_bound b l = unless (bound_refusal b l) (length b.bounds) (with_bound b l) b

abbrev pub withdraw : Plain → ℕ → Outcome (Unit {0})
withdraw b n = unless (withdraw_refusal b n) tt (without_bound b n) b
