-- How long a sheet can be: its names have at most 8 letters, its minutes at most 10 digits.
use Rattle.std.proofs.Common.{◌≡◌, ℕ, zero, suc, ◌+◌, ◌*◌, ◌^◌, ◌<◌, ◌≤◌, Bool, true, false, cond, List, [], ◌∷◌, length, get_or, take, drop, ℤ, pos, negsuc}
use Rattle.std.proofs.Common.{All, decimal, add-one, refl, ap, ◌∙◌, ◌⊎◌, inl, inr, arith, length-append, length-take}
use lib.Signed.{mag}
use Rattle.std.proofs.lemmas.List.Elements.{All-get_or}
use Rattle.std.proofs.lemmas.Fmt.{length-decimal-le}
use Rattle.std.specs.List.{count_by}
use Rattle.std.proofs.lemmas.List.{take_all}
use Rattle.std.proofs.lemmas.List.Sums.{count_by-le-length, count_by_more_yes, count_by_more_no}
use Rattle.format.specs.declared.parts.NamePlace.{NamePlace}
use Rattle.format.specs.declared.parts.Fault.{Fault}
use Rattle.format.specs.declared.parts.FileFault.{FileFault}
use Rattle.format.specs.declared.parts.FileFault.TheVariants.{TooLong, Unfinished, WrongLine, NotANumber, BadName, NameTaken, NameReserved}
use Rattle.format.specs.declared.parts.FileFault.TheVariants.{UnknownName, Trailing, NamesShort}
use Rattle.format.specs.declared.parts.Reason.{Reason}
use Rattle.format.specs.declared.parts.Reason.TheVariants.{File, Book}
use Rattle.format.specs.Faults.{file_number, reason_number}
use Rattle.format.specs.Names.{no_place, name_of, AllNamesIn}
use Rattle.book.specs.declared.parts.Refusal.{Refusal}
use Rattle.book.specs.declared.parts.Refusal.TheVariants.{JobsFull, ChecksFull, UnknownCheck, BothWays, PartMissing, UnknownJob}
use Rattle.book.specs.declared.parts.Refusal.TheVariants.{MinutesBeyond, SameJob, Exclusive, BoundsFull, UnknownBound}
use Rattle.book.specs.Plain.{Plain, asking, number}
use Rattle.book.specs.Sound.{Sound}
use Rattle.rules.specs.declared.parts.Origin.{Origin}
use Rattle.rules.specs.declared.parts.Origin.TheVariants.{Bound, Start, Check}
use Rattle.sheet.specs.declared.grade.Grade.{Grade}
use Rattle.sheet.specs.declared.grade.Grade.TheVariants.{Strong, Dynamic, Weak}
use Rattle.sheet.specs.Sheet.{layer_word, fault_line, answer_word, verdict_lines, grade_word, job_line, job_lines, jobs_done, is_done}
use Rattle.sheet.specs.Sheet.{row_of, case_lines, cases_lines, table_lines, Within, origin_line, origin_lines, loop_lines}

digits_2 : (n : ℕ) → n < 100 → length (decimal n) ≤ 2
digits_2 n h = length-decimal-le 2 n (omega arith) h (omega arith)

digits_10 : (n : ℕ) → n < 2 ^ 31 → length (decimal n) ≤ 10
digits_10 n h = length-decimal-le 10 n (omega arith) (omega arith) (omega arith)

-- every name has at most 8 letters
abbrev pub ShortNames : (ℕ → List ℕ) → Type 0
ShortNames name = (j : ℕ) → length (name j) ≤ 8

nat_le_or : (j n : ℕ) → (j < n) ⊎ (n ≤ j)
nat_le_or j zero = inr (omega arith)
nat_le_or zero (suc n) = inl (omega arith)
nat_le_or (suc j) (suc n) = elim (nat_le_or j n) [ inl l ↦ inl (omega arith) | inr l ↦ inr (omega arith) ]

past_places : (places : List NamePlace) (j : ℕ) → length places ≤ j → get_or places j no_place ≡ no_place
past_places [] j h = refl
past_places (p ∷ ps) zero h = absurd (omega arith)
past_places (p ∷ ps) (suc j) h = past_places ps j (omega arith)

pub names_short : (text : List ℕ) (places : List NamePlace) → AllNamesIn text places → ShortNames (name_of text places)
names_short text places h zero = omega arith
names_short text places h (suc j) =
    let p = get_or places j no_place in
    let cut = length-take p.length (drop p.byte text) in
    elim (nat_le_or j (length places)) as (λ _. length (take p.length (drop p.byte text)) ≤ 8) [
      | inl l ↦ omega (arith, (h j l).short, cut)
      | inr l ↦ rw (past_places places j l) (omega arith)
    ]

pub job_fits : (name : List ℕ) (z : ℤ) → mag z < 2 ^ 31 → length name ≤ 8 → length (job_line name z) ≤ 20
job_fits name (pos m) h n = let d = digits_10 m h in simp length-append (omega arith)
job_fits name (negsuc m) h n = omega arith

pub jobs_fit : (name : ℕ → List ℕ) (row : List ℤ) (i : ℕ) (n : List ℕ) (z : ℤ) → length (job_lines name row i) ≤ 20 * i → n ≡ name i → z ≡ get_or row i (pos 0)
    → length (job_line n z) ≤ 20 → length (job_lines name row (i + 1)) ≤ 20 * (i + 1)
jobs_fit name row i n z more p q one =
    let line : length (job_line (name i) (get_or row i (pos 0))) ≤ 20 = rw (p, q) at one in
    rw (add-one i) (rw (length-append (job_lines name row i) (job_line (name i) (get_or row i (pos 0)))) (omega arith))

-- the jobs done are those of the row that are done
one_more : (row : List ℤ) (n : ℕ) (t : Bool) → n < length row → is_done (get_or row n (pos 0)) ≡ t
    → count_by is_done (take (n + 1) row) ≡ count_by is_done (take n row) + cond t 1 0
one_more row n true h e = count_by_more_yes is_done row n (pos 0) h e
one_more row n false h e = omega (arith, count_by_more_no is_done row n (pos 0) h e)

counted : (row : List ℤ) (n : ℕ) → n ≤ length row → jobs_done row n ≡ count_by is_done (take n row)
unfolding jobs_done
counted row zero h = refl
counted row (suc n) h =
    let more = one_more row n (is_done (get_or row n (pos 0))) (omega arith) refl in
    let here = counted row n (omega arith) in
    let next : count_by is_done (take (n + 1) row) ≡ count_by is_done (take (suc n) row) = ap (λ k. count_by is_done (take k row)) (add-one n) in
    omega (arith, more, here, next)

pub all_counted : (row : List ℤ) → jobs_done row (length row) ≡ count_by is_done row
all_counted row = counted row (length row) (omega arith) ∙ ap (count_by is_done) (take_all (length row) row (omega arith))

pub case_fits : (name : ℕ → List ℕ) (case : ℕ) (row : List ℤ) → case < 2 ^ 8 → length row < 2 ^ 64 → length (job_lines name row (length row)) ≤ 20 * length row
    → length (case_lines name (length row) case row) ≤ 35 + 20 * length row
case_fits name case row l long lines =
    let count : jobs_done row (length row) ≤ length row = omega (arith, all_counted row, count_by-le-length is_done row) in
    let a = length-decimal-le 3 case (omega arith) (omega arith) (omega arith) in
    let b = length-decimal-le 20 (jobs_done row (length row)) (omega arith) (omega arith) (omega arith) in
    simp length-append (omega arith)

pub cases_fit : (name : ℕ → List ℕ) (jobs : ℕ) (minutes : List ℤ) (s k : ℕ) (row : List ℤ) → jobs ≤ 20 → length (cases_lines name jobs minutes s) ≤ 435 * s
    → row ≡ row_of minutes jobs s → k ≡ jobs → length (case_lines name k s row) ≤ 35 + 20 * k → length (cases_lines name jobs minutes (s + 1)) ≤ 435 * (s + 1)
cases_fit name jobs minutes s k row few more p q one =
    let lines : length (case_lines name jobs s (row_of minutes jobs s)) ≤ 35 + 20 * jobs = rw (p, q) at one in
    rw (add-one s) (rw (length-append (cases_lines name jobs minutes s) (case_lines name jobs s (row_of minutes jobs s))) (omega arith))

answer_fits : (b : Bool) → length (answer_word b) ≤ 3
answer_fits true = omega arith
answer_fits false = omega arith

pub verdicts_fit : (strong dynamic weak : Bool) → length (verdict_lines strong dynamic weak) ≤ 32
verdicts_fit strong dynamic weak =
    let a = answer_fits strong in
    let b = answer_fits dynamic in
    let c = answer_fits weak in
    simp length-append (omega arith)

grade_fits : (g : Grade) → length (grade_word g) ≤ 7
grade_fits Strong = omega arith
grade_fits Dynamic = omega arith
grade_fits Weak = omega arith

pub table_fits : (g : Grade) (name : ℕ → List ℕ) (jobs : ℕ) (minutes : List ℤ) (cases : ℕ) → cases ≤ 16 →
    length (cases_lines name jobs minutes cases) ≤ 6960 → length (table_lines g name jobs minutes cases) ≤ 7000
table_fits g name jobs minutes cases l lines =
    let a = digits_2 cases (omega arith) in
    let w = grade_fits g in
    simp length-append (omega arith)

origin_fits : (b : Plain) (name : ℕ → List ℕ) (o : Origin) → Sound b → ShortNames name → Within b o → length (origin_line b name o) ≤ 24
origin_fits b name (Bound n) s names h = let d = digits_2 n (omega (arith, s.few_bounds)) in simp length-append (omega arith)
origin_fits b name (Start j) s names h = let a = names j in simp length-append (omega arith)
origin_fits b name (Check c j) s names h =
    let a = names (asking b c) in
    let d = names j in
    simp length-append (omega arith)

origins_fit : (b : Plain) (name : ℕ → List ℕ) (origins : List Origin) (n : ℕ) → Sound b → ShortNames name
    → ((i : ℕ) → i < n → Within b (get_or origins i (Bound 0))) → length (origin_lines b name origins n) ≤ 24 * n
origins_fit b name origins zero s names h = omega arith
origins_fit b name origins (suc n) s names h =
    let more = origins_fit b name origins n s names (λ i l. h i (omega arith)) in
    let one = origin_fits b name (get_or origins n (Bound 0)) s names (h n (omega arith)) in
    rw (length-append (origin_lines b name origins n) (origin_line b name (get_or origins n (Bound 0)))) (omega arith)

pub loop_fits : (b : Plain) (name : ℕ → List ℕ) (case : ℕ) (origins : List Origin) → Sound b → ShortNames name
    → All (Within b) origins → case < 16 → length origins ≤ 20 → length (loop_lines b name case origins) ≤ 7000
loop_fits b name case origins s names h l few =
    let lines = origins_fit b name origins (length origins) s names (λ i k. All-get_or (Within b) origins i (Bound 0) k h) in
    let a = digits_2 case (omega arith) in
    let d = digits_2 (length origins) (omega arith) in
    simp length-append (omega arith)

-- a fault's number has two digits, and its line and byte at most 20
book_number : (r : Refusal) → number r < 100
book_number JobsFull = omega arith
book_number ChecksFull = omega arith
book_number UnknownCheck = omega arith
book_number BothWays = omega arith
book_number PartMissing = omega arith
book_number UnknownJob = omega arith
book_number MinutesBeyond = omega arith
book_number SameJob = omega arith
book_number Exclusive = omega arith
book_number BoundsFull = omega arith
book_number UnknownBound = omega arith

file_number_fits : (f : FileFault) → file_number f < 100
file_number_fits TooLong = omega arith
file_number_fits Unfinished = omega arith
file_number_fits WrongLine = omega arith
file_number_fits NotANumber = omega arith
file_number_fits BadName = omega arith
file_number_fits NameTaken = omega arith
file_number_fits NameReserved = omega arith
file_number_fits UnknownName = omega arith
file_number_fits Trailing = omega arith
file_number_fits NamesShort = omega arith

reason_fits : (r : Reason) → (length (decimal (reason_number r)) ≤ 2) × (length (layer_word r) ≤ 4)
reason_fits (File f) = (digits_2 (file_number f) (file_number_fits f), omega arith)
reason_fits (Book r) = (digits_2 (number r) (book_number r), omega arith)

pub fault_fits : (f : Fault) → f.line < 2 ^ 64 → f.byte < 2 ^ 64 → length (fault_line f) ≤ 8192
fault_fits f h k =
    let (number, layer) = reason_fits f.reason in
    let a = length-decimal-le 20 f.line (omega arith) (omega arith) h in
    let b = length-decimal-le 20 f.byte (omega arith) (omega arith) k in
    simp length-append (omega arith)
