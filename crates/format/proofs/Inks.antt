-- The words of a plan have no space and no line feed in them.
use Rattle.std.proofs.Common.{◌≡◌, ℕ, suc, ◌<◌, ◌≤◌, Bool, true, ◌&&◌, leb, List, [], ◌∷◌, ◌++◌, map, ℤ, pos, negsuc, nat_abs, codes}
use Rattle.std.proofs.Common.{decimal, refl, arith}
use Rattle.std.specs.Fmt.{signed_decimal}
use Rattle.std.proofs.lemmas.Bool.{and_parts, leb-true}
use Rattle.book.specs.declared.parts.Kind.{Kind}
use Rattle.book.specs.declared.parts.Kind.TheVariants.{Least, Most}
use Rattle.format.specs.declared.parts.Work.{Work}
use Rattle.format.specs.declared.parts.Work.TheVariants.{Job, Check}
use Rattle.format.specs.declared.parts.Sign.{Sign}
use Rattle.format.specs.declared.parts.Sign.TheVariants.{Plus, Minus}
use Rattle.format.specs.Format.{Want, JobLine, BoundLine, Known, Every, Letter, GoodWant, GoodJob, GoodJobs, GoodBound, after}
use Rattle.format.specs.Format.{work_word, kind_word, sign_byte, want_word, job_words, bound_words, count_words, spaced}
use Rattle.format.specs.Faults.{digits}
use Rattle.format.proofs.Cuts.{Free}
use Rattle.format.proofs.Numbers.{digits_of}

abbrev pub Inky : List ℕ → Type 0
Inky w = Every (λ x. 32 < x) w

inky : List ℕ → Bool
inky [] = true
inky (c ∷ cs) = leb 33 c && inky cs

inky_true : (w : List ℕ) → inky w ≡ true → Inky w
unfolding inky
inky_true [] t = tt
inky_true (c ∷ cs) t = let p = and_parts (leb 33 c) (inky cs) t in let h = leb-true 33 c p.0 in (omega arith, inky_true cs p.1)

pub jobs_inky : Inky (codes "jobs")
unfolding inky
jobs_inky = inky_true (codes "jobs") refl

pub bounds_inky : Inky (codes "bounds")
unfolding inky
bounds_inky = inky_true (codes "bounds") refl

work_inky : (k : Work) → Inky (work_word k)
unfolding inky
work_inky Job = inky_true (codes "job") refl
work_inky Check = inky_true (codes "check") refl

kind_inky : (k : Kind) → Inky (kind_word k)
unfolding inky
kind_inky Least = inky_true (codes "least") refl
kind_inky Most = inky_true (codes "most") refl

name_inky : (w : List ℕ) → Every Letter w → Inky w
name_inky [] e = tt
name_inky (c ∷ cs) e = (omega (arith, e.0.0), name_inky cs e.1)

digits_inky : (w : List ℕ) → digits w ≡ true → Inky w
digits_inky [] t = tt
digits_inky (c ∷ cs) t = let p = and_parts (leb 48 c && leb c 57) (digits cs) t in let h = leb-true 48 c (and_parts (leb 48 c) (leb c 57) p.0).0 in
    (omega arith, digits_inky cs p.1)

signed_inky : (z : ℤ) → nat_abs z < 100000 → Inky (signed_decimal z)
signed_inky (pos n) h = digits_inky (decimal n) (digits_of n h)
signed_inky (negsuc n) h = (omega arith, digits_inky (decimal (suc n)) (digits_of (suc n) h))

sign_inky : (s : Sign) → 32 < sign_byte s
sign_inky Plus = omega arith
sign_inky Minus = omega arith

wants_inky : (ks : List Known) (xs : List Want) → Every (GoodWant ks) xs → Every Inky (map want_word xs)
wants_inky ks [] g = tt
wants_inky ks (a ∷ xs) g = ((sign_inky a.sign, name_inky a.name g.0.form.letters), wants_inky ks xs g.1)

pub job_inky : (ks : List Known) (j : JobLine) → GoodJob ks j → Every Inky (job_words j)
job_inky ks j g = (work_inky j.work, (name_inky j.name g.form.letters, wants_inky ks j.wants g.labelled))

pub bound_inky : (ks : List Known) (b : BoundLine) → GoodBound ks b → Every Inky (bound_words b)
bound_inky ks b g = (
  kind_inky b.kind,
  (
    name_inky b.first g.first_form.letters,
    (name_inky b.second g.second_form.letters, (signed_inky b.minutes g.small, tt)),
  ),
)

pub count_inky : (key : List ℕ) (n : ℕ) → Inky key → n ≤ 99 → Every Inky (count_words key n)
count_inky key n k h = (k, (digits_inky (decimal n) (digits_of n (omega arith)), tt))

pub free : (c : ℕ) (w : List ℕ) → c ≤ 32 → Inky w → Free c w
free c [] h i = tt
free c (x ∷ w) h i = let y = i.0 in (λ e. omega arith, free c w h i.1)

pub frees : (c : ℕ) (ws : List (List ℕ)) → c ≤ 32 → Every Inky ws → Every (Free c) ws
frees c [] h i = tt
frees c (w ∷ ws) h i = (free c w h i.0, frees c ws h i.1)

free_append : (c : ℕ) (a b : List ℕ) → Free c a → Free c b → Free c (a ++ b)
free_append c [] b f g = g
free_append c (x ∷ a) b f g = (f.0, free_append c a b f.1 g)

pub free_spaced : (ws : List (List ℕ)) → Every Inky ws → Free 10 (spaced ws)
free_spaced [] i = tt
free_spaced (w ∷ []) i = free 10 w (omega arith) i.0
free_spaced (w ∷ (v ∷ vs)) i = free_append 10 w (32 ∷ spaced (v ∷ vs)) (free 10 w (omega arith) i.0) (λ e. omega arith, free_spaced (v ∷ vs) i.1)

pub free_lines : (ls : List (List (List ℕ))) → Every (Every Inky) ls → Every (λ l. Free 10 (spaced l)) ls
free_lines [] i = tt
free_lines (l ∷ ls) i = (free_spaced l i.0, free_lines ls i.1)

pub all_jobs : (ks : List Known) (js : List JobLine) (ls : List (List (List ℕ))) → GoodJobs ks js → Every (Every Inky) ls
    → Every (Every Inky) (map job_words js ++ ls)
all_jobs ks [] ls g i = i
all_jobs ks (j ∷ js) ls g i = (job_inky ks j g.0, all_jobs (after ks j) js ls g.1 i)

pub all_bounds : (ks : List Known) (bs : List BoundLine) → Every (GoodBound ks) bs → Every (Every Inky) (map bound_words bs)
all_bounds ks [] g = tt
all_bounds ks (b ∷ bs) g = (bound_inky ks b g.0, all_bounds ks bs g.1)
