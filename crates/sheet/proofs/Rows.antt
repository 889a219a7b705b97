-- Lines put one after another, and one job or case more.
use Rattle.std.proofs.Common.{Result, OnOk, Ok, Err, ◌≡◌, ℕ, ◌+◌, ◌*◌, ◌<◌, ◌≤◌, List, ◌++◌, get_or, ℤ, pos}
use Rattle.std.proofs.Common.{◌∙◌, append_assoc, mul-le-mul_right, suc-mul, add-one}
use Rattle.sheet.specs.Sheet.{job_line, job_lines, case_lines, cases_lines, row_of}

-- two texts put at the end of a page
pub joins : (page a b one two : List ℕ) → one ≡ page ++ a → two ≡ one ++ b → two ≡ page ++ (a ++ b)
joins page a b one two p q = q ∙ rw p (append_assoc page a b)

-- one job more
pub one_more : (name : ℕ → List ℕ) (row : List ℤ) (i : ℕ) (page one two n : List ℕ) (z : ℤ) → one ≡ page ++ job_lines name row i → n ≡ name i →
    z ≡ get_or row i (pos 0) → two ≡ one ++ job_line n z → two ≡ page ++ job_lines name row (i + 1)
one_more name row i page one two n z a p q b =
    rw (add-one i) (joins page (job_lines name row i) (job_line (name i) (get_or row i (pos 0))) one two a (rw (p, q) at b))

-- a row lies within the table
pub row_fits : (s n jobs : ℕ) → s < n → s * jobs + jobs ≤ n * jobs
row_fits s n jobs h = let m = mul-le-mul_right jobs h in rw suc-mul at m

-- one case more
pub case_more : (name : ℕ → List ℕ) (jobs : ℕ) (minutes : List ℤ) (s k : ℕ) (page one two : List ℕ) (row : List ℤ) →
    one ≡ page ++ cases_lines name jobs minutes s → row ≡ row_of minutes jobs s → k ≡ jobs → two ≡ one ++ case_lines name k s row →
    two ≡ page ++ cases_lines name jobs minutes (s + 1)
case_more name jobs minutes s k page one two row a p q b =
    rw (add-one s) (joins page (cases_lines name jobs minutes s) (case_lines name jobs s (row_of minutes jobs s)) one two a (rw (p, q) at b))

-- both clauses of a call that is answered as it is, and a fact that holds whatever it answers
pub on_ok_both : {T E : Type 0} {P Q R : Type 0} (r : Result T E) → (P → Q → R) → OnOk r P → OnOk r Q → OnOk r R
on_ok_both (Ok a) f p q = f p q
on_ok_both (Err e) f p q = tt

pub on_ok_anyway : {T E : Type 0} {P : Type 0} (r : Result T E) → P → OnOk r P
on_ok_anyway (Ok a) p = p
on_ok_anyway (Err e) p = tt
