-- A plan text by its form: its lines, their words, its bytes, and what a well-formed one keeps.
use Rattle.std.specs.Prelude.{◌≡◌, ℕ, ◌+◌, ◌<◌, ◌≤◌, Bool, true, false, cond, ◌&&◌, ◌⊎◌, List, [], ◌∷◌, ◌++◌, map, length, ℤ, Some, None}
use Rattle.std.specs.Prelude.{codes, decimal, Option, ◌==◌, slice_index_or, unsigned_abs}
use Rattle.std.specs.Fmt.{signed_decimal}
use Rattle.book.specs.declared.parts.Kind.{Kind}
use Rattle.book.specs.declared.parts.Kind.TheVariants.{Least, Most}
use Rattle.format.specs.declared.parts.Work.{Work}
use Rattle.format.specs.declared.parts.Work.TheVariants.{Job, Check}
use Rattle.format.specs.declared.parts.Sign.{Sign}
use Rattle.format.specs.declared.parts.Sign.TheVariants.{Plus, Minus}

-- a label word: +NAME wants yes of a check, -NAME wants no
pub record Want : Type 0 where
  pub sign : Sign
  pub name : List ℕ

-- a line of the jobs section, and one of the bounds section
pub record JobLine : Type 0 where
  pub work : Work
  pub name : List ℕ
  pub wants : List Want

pub record BoundLine : Type 0 where
  pub kind : Kind
  pub first : List ℕ
  pub second : List ℕ
  pub minutes : ℤ

pub record PlanText : Type 0 where
  pub jobs : List JobLine
  pub bounds : List BoundLine

-- the words of a line

abbrev pub work_word : Work → List ℕ
work_word Job = codes "job"
work_word Check = codes "check"

abbrev pub kind_word : Kind → List ℕ
kind_word Least = codes "least"
kind_word Most = codes "most"

abbrev pub sign_byte : Sign → ℕ
sign_byte Plus = 43
sign_byte Minus = 45

abbrev pub want_word : Want → List ℕ
want_word a = sign_byte a.sign ∷ a.name

abbrev pub job_words : JobLine → List (List ℕ)
job_words j = work_word j.work ∷ (j.name ∷ map want_word j.wants)

abbrev pub bound_words : BoundLine → List (List ℕ)
bound_words b = kind_word b.kind ∷ (b.first ∷ (b.second ∷ (signed_decimal b.minutes ∷ [])))

abbrev pub count_words : List ℕ → ℕ → List (List ℕ)
count_words key n = key ∷ (decimal n ∷ [])

-- the lines of a plan, each as its words
abbrev pub plan_lines : PlanText → List (List (List ℕ))
plan_lines p =
    count_words (codes "jobs") (length p.jobs)
    ∷ (map job_words p.jobs ++ (count_words (codes "bounds") (length p.bounds) ∷ map bound_words p.bounds))

-- words with one space between two of them
abbrev pub spaced : List (List ℕ) → List ℕ
spaced [] = []
spaced (w ∷ []) = w
spaced (w ∷ (v ∷ vs)) = w ++ (32 ∷ spaced (v ∷ vs))

-- lines with a line feed after each
abbrev pub ended : List (List (List ℕ)) → List ℕ
ended [] = []
ended (l ∷ ls) = spaced l ++ (10 ∷ ended ls)

-- the writing-out of a plan
abbrev pub written : PlanText → List ℕ
written p = ended (plan_lines p)

-- What a well-formed plan keeps.

module _ {A : Type 0} (P : A → Type 0) where
  abbrev pub Every : List A → Type 0
  Every [] = Unit {0}
  Every (x ∷ xs) = P x × Every xs

  abbrev pub SomeOf : List A → Type 0
  SomeOf [] = ⊥
  SomeOf (x ∷ xs) = P x ⊎ SomeOf xs

-- a name is 1 to 8 letters from a to z
abbrev pub Letter : ℕ → Type 0
Letter c = (97 ≤ c) × (c ≤ 122)

pub record NameForm (w : List ℕ) : Type 0 where
  pub some : 1 ≤ length w
  pub few : length w ≤ 8
  pub letters : Every Letter w

-- words that a sheet has a use for
abbrev pub reserved_words : List (List ℕ)
reserved_words = codes "start" ∷ (codes "case" ∷ (codes "cases" ∷ (codes "table" ∷ (codes "loop" ∷ []))))

-- a job that earlier lines name, with its check number if it is a check
pub record Known : Type 0 where
  pub name : List ℕ
  pub check : Option ℕ

abbrev pub start_known : Known
start_known = record { name = codes "start"; check = None }

abbrev pub at_first : List Known
at_first = start_known ∷ []

-- how many of them are checks
abbrev pub one_if : Option ℕ → ℕ
one_if None = 0
one_if (Some c) = 1

abbrev pub checks_in : List Known → ℕ
checks_in [] = 0
checks_in (k ∷ ks) = one_if k.check + checks_in ks

abbrev pub numbered : Work → ℕ → Option ℕ
numbered Job c = None
numbered Check c = Some c

-- the jobs known after a line, and after several
abbrev pub after : List Known → JobLine → List Known
after ks j = ks ++ (record { name = j.name; check = numbered j.work (checks_in ks) } ∷ [])

abbrev pub after_all : List Known → List JobLine → List Known
after_all ks [] = ks
after_all ks (j ∷ js) = after_all (after ks j) js

-- whether two words are the same
abbrev pub same : List ℕ → List ℕ → Bool
same [] [] = true
same [] (y ∷ ys) = false
same (x ∷ xs) [] = false
same (x ∷ xs) (y ∷ ys) = x == y && same xs ys

-- the number of the job that has a name, the first known being number n
abbrev pub job_from : ℕ → List Known → List ℕ → Option ℕ
job_from n [] w = None
job_from n (k ∷ ks) w = cond (same k.name w) (Some n) (job_from (n + 1) ks w)

abbrev pub job_number : List Known → List ℕ → Option ℕ
job_number ks w = job_from 0 ks w

-- the number of the check that has a name
abbrev pub check_of : List Known → Option ℕ → Option ℕ
check_of ks None = None
check_of ks (Some j) = (slice_index_or ks j start_known).check

abbrev pub check_number : List Known → List ℕ → Option ℕ
check_number ks w = check_of ks (job_number ks w)

-- a label word names a check of an earlier line
pub record GoodWant (ks : List Known) (a : Want) : Type 0 where
  pub form : NameForm a.name
  pub is_check : (c : ℕ) × (check_number ks a.name ≡ Some c)

-- a new name is no earlier job's, and not reserved
pub record GoodJob (ks : List Known) (j : JobLine) : Type 0 where
  pub form : NameForm j.name
  pub fresh : job_number ks j.name ≡ None
  pub free : SomeOf (λ (r : List ℕ). r ≡ j.name) reserved_words → ⊥
  pub labelled : Every (GoodWant ks) j.wants

abbrev pub GoodJobs : List Known → List JobLine → Type 0
GoodJobs ks [] = Unit {0}
GoodJobs ks (j ∷ js) = GoodJob ks j × GoodJobs (after ks j) js

-- a bound names two jobs, and its minutes have at most five digits
pub record GoodBound (ks : List Known) (b : BoundLine) : Type 0 where
  pub first_form : NameForm b.first
  pub first_is : (j : ℕ) × (job_number ks b.first ≡ Some j)
  pub second_form : NameForm b.second
  pub second_is : (j : ℕ) × (job_number ks b.second ≡ Some j)
  pub small : unsigned_abs b.minutes < 100000

-- a plan whose names fit a name list of so many places
pub record WellFormed (room : ℕ) (p : PlanText) : Type 0 where
  pub few_jobs : length p.jobs ≤ 99
  pub fits : length p.jobs ≤ room
  pub few_bounds : length p.bounds ≤ 99
  pub jobs_good : GoodJobs at_first p.jobs
  pub bounds_good : Every (GoodBound (after_all at_first p.jobs)) p.bounds
  pub short : length (written p) ≤ 8192
