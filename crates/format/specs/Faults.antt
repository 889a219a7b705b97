-- What a text gives, line by line: what its lines say, or its first fault.
use Rattle.std.specs.Prelude.{ℕ, zero, suc, ◌+◌, ◌-◌, ◌*◌, Bool, true, false, cond, not, ◌&&◌, ◌||◌, List, [], ◌∷◌, ◌++◌, length, take, ℤ}
use Rattle.std.specs.Prelude.{pos, neg_ℤ, Some, None, Ok, Err, codes, Option, Result, ◌==◌, nat_le, slice_index}
use Rattle.book.specs.declared.parts.Kind.{Kind}
use Rattle.book.specs.declared.parts.Kind.TheVariants.{Least, Most}
use Rattle.book.specs.declared.parts.Refusal.{Refusal}
use Rattle.book.specs.Plain.{Plain, new_book, number}
use Rattle.format.specs.declared.parts.Work.{Work}
use Rattle.format.specs.declared.parts.Work.TheVariants.{Job, Check}
use Rattle.format.specs.declared.parts.Sign.{Sign}
use Rattle.format.specs.declared.parts.Sign.TheVariants.{Plus, Minus}
use Rattle.format.specs.declared.parts.FileFault.{FileFault}
use Rattle.format.specs.declared.parts.FileFault.TheVariants.{TooLong, Unfinished, WrongLine, NotANumber, BadName, NameTaken, NameReserved}
use Rattle.format.specs.declared.parts.FileFault.TheVariants.{UnknownName, Trailing, NamesShort}
use Rattle.format.specs.declared.parts.Reason.{Reason}
use Rattle.format.specs.declared.parts.Reason.TheVariants.{File, Book}
use Rattle.format.specs.declared.parts.Fault.{Fault}
use Rattle.format.specs.declared.parts.NamePlace.{NamePlace}
use Rattle.format.specs.Format.{Want, JobLine, BoundLine, PlanText, Known, at_first, after, same, job_number, check_number}
use Rattle.format.specs.Format.{reserved_words}
use Rattle.format.specs.Entered.{call_job, call_bound}

-- each fault's number
abbrev pub file_number : FileFault → ℕ
file_number TooLong = 15
file_number Unfinished = 16
file_number WrongLine = 17
file_number NotANumber = 18
file_number BadName = 19
file_number NameTaken = 20
file_number NameReserved = 21
file_number UnknownName = 22
file_number Trailing = 23
file_number NamesShort = 24

abbrev pub reason_number : Reason → ℕ
reason_number (File f) = file_number f
reason_number (Book r) = number r

-- a fault of the file on line l at byte b
abbrev pub fault_at : FileFault → ℕ → ℕ → Fault
fault_at f l b = record { reason = File f; line = l; byte = b }

abbrev pub fault : {A : Type 0} → FileFault → ℕ → ℕ → Result A Fault
fault f l b = Err (fault_at f l b)

-- the next step, where there is no fault so far
abbrev pub then : {A B : Type 0} → Result A Fault → (A → Result B Fault) → Result B Fault
then (Ok a) f = f a
then (Err e) f = Err e

abbrev pub given : {A : Type 0} → Option A → Fault → Result A Fault
given (Some a) e = Ok a
given None e = Err e

-- what the book refuses is a fault of the line
abbrev pub booked : {A B : Type 0} → ℕ → ℕ → Result A Refusal → B → Result B Fault
booked l b (Ok a) x = Ok x
booked l b (Err r) x = Err (record { reason = Book r; line = l; byte = b })

-- Tests on words.

abbrev pub letters : List ℕ → Bool
letters [] = true
letters (c ∷ cs) = (nat_le 97 c && nat_le c 122) && letters cs

abbrev pub name_form : List ℕ → Bool
name_form w = nat_le 1 (length w) && (nat_le (length w) 8 && letters w)

abbrev pub among : List ℕ → List (List ℕ) → Bool
among w [] = false
among w (r ∷ rs) = same r w || among w rs

abbrev pub digits : List ℕ → Bool
digits [] = true
digits (c ∷ cs) = (nat_le 48 c && nat_le c 57) && digits cs

abbrev pub number_after : ℕ → List ℕ → ℕ
number_after n [] = n
number_after n (c ∷ cs) = number_after (10 * n + (c - 48)) cs

-- 1 to k digits, and no 0 before others
abbrev pub natural_form : ℕ → List ℕ → Bool
natural_form k w = digits w && (nat_le 1 (length w) && (nat_le (length w) k && (nat_le (length w) 1 || not (slice_index w 0 == 48))))

abbrev pub natural_of : ℕ → List ℕ → Option ℕ
natural_of k w = cond (natural_form k w) (Some (number_after 0 w)) None

-- 1 to 5 digits after an optional minus sign, and no -0
abbrev pub minutes_of : List ℕ → Option ℤ
minutes_of [] = None
minutes_of (c ∷ cs) =
    cond (c == 45)
    (cond (natural_form 5 cs && not (number_after 0 cs == 0)) (Some (neg_ℤ (pos (number_after 0 cs)))) None)
    (cond (natural_form 5 (c ∷ cs)) (Some (pos (number_after 0 (c ∷ cs)))) None)

-- Words as what they stand for; l is the line, b the word's first byte.

abbrev pub work_of : List ℕ → Option Work
work_of w = cond (same w (codes "job")) (Some Job) (cond (same w (codes "check")) (Some Check) None)

abbrev pub kind_of : List ℕ → Option Kind
kind_of w = cond (same w (codes "least")) (Some Least) (cond (same w (codes "most")) (Some Most) None)

-- a new name, where a job of that name was found or not: in form, then no job's, then not reserved
abbrev pub unless_taken : {A : Type 0} → Option ℕ → Fault → Result A Fault → Result A Fault
unless_taken (Some j) e r = Err e
unless_taken None e r = r

abbrev pub new_as : Option ℕ → ℕ → ℕ → List ℕ → Result (List ℕ) Fault
new_as found l b w =
    cond (name_form w) (unless_taken found (fault_at NameTaken l b) (cond (among w reserved_words) (fault NameReserved l b) (Ok w))) (fault BadName l b)

abbrev pub new_name : List Known → ℕ → ℕ → List ℕ → Result (List ℕ) Fault
new_name ks l b w = new_as (job_number ks w) l b w

-- the job that a word names, and the check
abbrev pub named_as : Option ℕ → ℕ → ℕ → List ℕ → Result ℕ Fault
named_as found l b w = cond (name_form w) (given found (fault_at UnknownName l b)) (fault BadName l b)

abbrev pub job_named : List Known → ℕ → ℕ → List ℕ → Result ℕ Fault
job_named ks l b w = named_as (job_number ks w) l b w

abbrev pub check_named : List Known → ℕ → ℕ → List ℕ → Result ℕ Fault
check_named ks l b w = named_as (check_number ks w) l b w

abbrev pub sign_of : ℕ → Option Sign
sign_of c = cond (c == 43) (Some Plus) (cond (c == 45) (Some Minus) None)

abbrev pub want_of : List Known → ℕ → ℕ → List ℕ → Result Want Fault
want_of ks l b [] = fault BadName l b
want_of ks l b (c ∷ w) = then (given (sign_of c) (fault_at BadName l b)) (λ s. then (check_named ks l b w) (λ k. Ok (record { sign = s; name = w })))

abbrev pub wants_of : List Known → ℕ → ℕ → List (List ℕ) → Result (List Want) Fault
wants_of ks l b [] = Ok []
wants_of ks l b (w ∷ ws) = then (want_of ks l b w) (λ a. then (wants_of ks l (b + length w + 1) ws) (λ xs. Ok (a ∷ xs)))

-- Lines, from their words.

abbrev pub count_of : List ℕ → ℕ → ℕ → List (List ℕ) → Result ℕ Fault
count_of key l b [] = fault WrongLine l b
count_of key l b (w ∷ []) = fault WrongLine l b
count_of key l b (w ∷ (v ∷ [])) = cond (same w key) (given (natural_of 2 v) (fault_at NotANumber l (b + length w + 1))) (fault WrongLine l b)
count_of key l b (w ∷ (v ∷ (u ∷ us))) = fault WrongLine l b

-- the count of jobs, which the name list has room for
abbrev pub jobs_count : ℕ → ℕ → ℕ → List (List ℕ) → Result ℕ Fault
jobs_count room l b ws = then (count_of (codes "jobs") l b ws) (λ n. cond (nat_le n room) (Ok n) (fault NamesShort l b))

abbrev pub job_line : List Known → ℕ → ℕ → List (List ℕ) → Result JobLine Fault
job_line ks l b [] = fault WrongLine l b
job_line ks l b (w ∷ []) = fault WrongLine l b
job_line ks l b (w ∷ (v ∷ vs)) =
    then (given (work_of w) (fault_at WrongLine l b)) (λ k.
    then (new_name ks l (b + length w + 1) v) (λ n.
    then (wants_of ks l (b + length w + length v + 2) vs) (λ xs.
    Ok (record { work = k; name = n; wants = xs }))))

abbrev pub bound_line : List Known → ℕ → ℕ → List (List ℕ) → Result BoundLine Fault
bound_line ks l b [] = fault WrongLine l b
bound_line ks l b (w ∷ []) = fault WrongLine l b
bound_line ks l b (w ∷ (v ∷ [])) = fault WrongLine l b
bound_line ks l b (w ∷ (v ∷ (u ∷ []))) = fault WrongLine l b
bound_line ks l b (w ∷ (v ∷ (u ∷ (t ∷ [])))) =
    then (given (kind_of w) (fault_at WrongLine l b)) (λ k.
    then (job_named ks l (b + length w + 1) v) (λ i.
    then (job_named ks l (b + length w + length v + 2) u) (λ j.
    then (given (minutes_of t) (fault_at NotANumber l (b + length w + length v + length u + 3))) (λ z.
    Ok (record { kind = k; first = v; second = u; minutes = z })))))
bound_line ks l b (w ∷ (v ∷ (u ∷ (t ∷ (r ∷ rs))))) = fault WrongLine l b

-- What has been read: the lines so far, the jobs that they name, and the book that they set down.
pub record Reading : Type 0 where
  pub plan : PlanText
  pub known : List Known
  pub book : Plain

abbrev pub nothing_read : Reading
nothing_read = record { plan = record { jobs = []; bounds = [] }; known = at_first; book = new_book }

abbrev pub with_job_line : Reading → JobLine → Reading
with_job_line s j = record {
  plan = record { jobs = s.plan.jobs ++ (j ∷ []); bounds = s.plan.bounds };
  known = after s.known j;
  book = (call_job s.known s.book j).after;
}

abbrev pub with_bound_line : Reading → BoundLine → Reading
with_bound_line s x = record {
  plan = record { jobs = s.plan.jobs; bounds = s.plan.bounds ++ (x ∷ []) };
  known = s.known;
  book = (call_bound s.known s.book x).after;
}

-- the words of a line first, then the book
abbrev pub job_of : List Known → Plain → ℕ → ℕ → List (List ℕ) → Result JobLine Fault
job_of ks o l b ws = then (job_line ks l b ws) (λ j. booked l b (call_job ks o j).answer j)

abbrev pub bound_of : List Known → Plain → ℕ → ℕ → List (List ℕ) → Result BoundLine Fault
bound_of ks o l b ws = then (bound_line ks l b ws) (λ x. booked l b (call_bound ks o x).answer x)

-- Lines, from a text.

-- the pieces of a text between bytes c
abbrev pub onto : ℕ → List (List ℕ) → List (List ℕ)
onto x [] = (x ∷ []) ∷ []
onto x (w ∷ ws) = (x ∷ w) ∷ ws

abbrev pub cut : ℕ → List ℕ → List (List ℕ)
cut c [] = [] ∷ []
cut c (x ∷ xs) = cond (x == c) ([] ∷ cut c xs) (onto x (cut c xs))

-- what is left of a text, from this line and byte on; its last piece has no line feed
pub record Rest : Type 0 where
  pub line : ℕ
  pub byte : ℕ
  pub left : List (List ℕ)

-- something read, and the rest after it
pub record Past (A : Type 0) : Type 0 where
  pub got : A
  pub next : Rest

abbrev pub line_in : ℕ → ℕ → List (List ℕ) → Result (Past (List (List ℕ))) Fault
line_in l b [] = fault Unfinished l b
line_in l b (x ∷ []) = fault Unfinished l (b + length x)
line_in l b (x ∷ (y ∷ ys)) = Ok (record { got = cut 32 x; next = record { line = suc l; byte = b + length x + 1; left = y ∷ ys } })

abbrev pub a_line : {A : Type 0} → (ℕ → ℕ → List (List ℕ) → Result A Fault) → Rest → Result (Past A) Fault
a_line f p = then (line_in p.line p.byte p.left) (λ t. then (f p.line p.byte t.got) (λ a. Ok (record { got = a; next = t.next })))

abbrev pub at_end : Reading → ℕ → ℕ → List (List ℕ) → Result Reading Fault
at_end s l b ([] ∷ []) = Ok s
at_end s l b [] = fault Trailing l b
at_end s l b ([] ∷ (y ∷ ys)) = fault Trailing l b
at_end s l b ((x ∷ xs) ∷ ys) = fault Trailing l b

-- the rest of a text with so many lines of bounds due, of jobs due, and from the top
abbrev pub from_bounds : ℕ → Reading → Rest → Result Reading Fault
from_bounds zero s p = at_end s p.line p.byte p.left
from_bounds (suc k) s p = then (a_line (bound_of s.known s.book) p) (λ r. from_bounds k (with_bound_line s r.got) r.next)

abbrev pub from_jobs : ℕ → Reading → Rest → Result Reading Fault
from_jobs zero s p = then (a_line (count_of (codes "bounds")) p) (λ r. from_bounds r.got s r.next)
from_jobs (suc k) s p = then (a_line (job_of s.known s.book) p) (λ r. from_jobs k (with_job_line s r.got) r.next)

abbrev pub from_top : ℕ → Reading → Rest → Result Reading Fault
from_top room s p = then (a_line (jobs_count room) p) (λ r. from_jobs r.got s r.next)

-- what a text gives to a reader whose name list has so many places
abbrev pub outcome : ℕ → List ℕ → Result Reading Fault
outcome room bytes = cond (nat_le (length bytes) 8192) (from_top room nothing_read (record { line = 1; byte = 0; left = cut 10 bytes })) (fault TooLong 0 0)

-- The names of jobs, as places in the text: the second word of each line that begins with `job` or `check`.
abbrev pub if_work : Option Work → NamePlace → List NamePlace
if_work (Some k) n = n ∷ []
if_work None n = []

abbrev pub line_name : ℕ → List (List ℕ) → List NamePlace
line_name b [] = []
line_name b (w ∷ []) = []
line_name b (w ∷ (v ∷ vs)) = if_work (work_of w) (record { byte = b + length w + 1; length = length v })

abbrev pub job_names : ℕ → List (List ℕ) → List NamePlace
job_names b [] = []
job_names b (x ∷ xs) = line_name b (cut 32 x) ++ job_names (b + length x + 1) xs

-- the names of a whole text, and of its lines before line l
abbrev pub names_of : List ℕ → List NamePlace
names_of bytes = job_names 0 (cut 10 bytes)

abbrev pub names_before : ℕ → List ℕ → List NamePlace
names_before l bytes = job_names 0 (take (l - 1) (cut 10 bytes))
