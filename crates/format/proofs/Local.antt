-- A fault is there by its own line and those before it.
use Rattle.std.proofs.Common.{◌≡◌, ℕ, zero, suc, ◌+◌, ◌<◌, ◌≤◌, ◌⊎◌, List, [], ◌∷◌, ◌++◌, length, Ok, Err, codes, Result, sym, refl, ap}
use Rattle.std.proofs.Common.{◌∙◌, subst, inl, inr, ⊎_elim, append_assoc, append-nil, arith, length-append}
use Rattle.std.proofs.lemmas.Bool.{le-leb, cases_lt}
use Rattle.format.specs.declared.parts.FileFault.TheVariants.{Unfinished, Trailing}
use Rattle.format.specs.declared.parts.Reason.TheVariants.{File}
use Rattle.format.specs.declared.parts.Fault.{Fault}
use Rattle.format.specs.Format.{Every, JobLine, BoundLine}
use Rattle.format.specs.Faults.{fault, then, cut, Rest, Past, line_in, a_line, count_of, jobs_count, job_of, bound_of}
use Rattle.format.specs.Faults.{Reading, nothing_read, with_job_line, with_bound_line, at_end, from_bounds, from_jobs, from_top, outcome}
use Rattle.format.specs.Theorems.{Line, fed, Alike, FaultsByLines, FirstFault, LinesBefore}
use Rattle.format.proofs.Steps.{no_fault, no_ok, same_ok, same_err, then_ok, then_err, then_is, then_no}
use Rattle.format.proofs.Cuts.{cut_piece, some_cut}
use Rattle.format.proofs.OnLine.{On, on_job, on_bound, on_count, on_jobs_count}

abbrev At : ℕ → ℕ → List (List ℕ) → Rest
At l b ls = record { line = l; byte = b; left = ls }

-- the faults of a reader come by its lines
record Ends (B : Type 0) (R : Rest → Result B Fault) : Type 0 where
  err_later : (p : Rest) (f : Fault) → R p ≡ Err f → p.line ≤ f.line
  err : (l b : ℕ) (ls s t : List (List ℕ)) (f : Fault) → 1 ≤ length s → 1 ≤ length t → R (At l b (ls ++ s)) ≡ Err f → f.line < l + length ls
      → R (At l b (ls ++ t)) ≡ Err f
  stops : (l b : ℕ) (ls s : List (List ℕ)) (f : Fault) → 1 ≤ length s → R (At l b (ls ++ s)) ≡ Err f → f.line ≡ l + length ls
      → (f.reason ≡ File Trailing → ⊥) → R (At l b (ls ++ ([] ∷ []))) ≡ fault Unfinished (l + length ls) (b + length (fed ls))

-- and so does what it reads
record Goes (A : Type 0) (R : Rest → Result (Past A) Fault) : Type 0 where
  ends : Ends (Past A) R
  ok_later : (p : Rest) (r : Past A) → R p ≡ Ok r → p.line ≤ r.next.line
  ok : (l b : ℕ) (ls s t : List (List ℕ)) (r : Past A) → 1 ≤ length s → 1 ≤ length t → R (At l b (ls ++ s)) ≡ Ok r → r.next.line ≤ l + length ls →
      (ks : List (List ℕ)) × (r.next.left ≡ ks ++ s) × (r.next.line + length ks ≡ l + length ls) ×
      (R (At l b (ls ++ t)) ≡ Ok (record { got = r.got; next = At r.next.line r.next.byte (ks ++ t) })) ×
      (r.next.byte + length (fed ks) ≡ b + length (fed ls))

same_fault : {A : Type 0} (l m b c : ℕ) → l ≡ m → b ≡ c → fault {A = A} Unfinished l b ≡ fault Unfinished m c
same_fault l m b c e q = cc

module _ {A B : Type 0} (R : Rest → Result (Past A) Fault) (g : Goes A R) where
  bind_ends : (S : A → Rest → Result B Fault) → ((a : A) → Ends B (S a)) → Ends B (λ p. then (R p) (λ r. S r.got r.next))
  bind_ends S h = record {
    err_later = λ p f q. later p f (then_err (R p) _ f q);
    err = λ l b ls s t f hs ht q k. fails l b ls s t f hs ht k (then_err (R (At l b (ls ++ s))) _ f q);
    stops = λ l b ls s f hs q k nn. halts l b ls s f hs k nn (then_err (R (At l b (ls ++ s))) _ f q);
  }
    where
      later : (p : Rest) (f : Fault) → (R p ≡ Err f) ⊎ ((r : Past A) × (R p ≡ Ok r) × (S r.got r.next ≡ Err f)) → p.line ≤ f.line
      later p f (inl q) = g.ends.err_later p f q
      later p f (inr (r, q, e)) = let x = g.ok_later p r q in let y = (h r.got).err_later r.next f e in omega arith

      fails : (l b : ℕ) (ls s t : List (List ℕ)) (f : Fault) → 1 ≤ length s → 1 ≤ length t → f.line < l + length ls
          → (R (At l b (ls ++ s)) ≡ Err f) ⊎ ((r : Past A) × (R (At l b (ls ++ s)) ≡ Ok r) × (S r.got r.next ≡ Err f))
          → then (R (At l b (ls ++ t))) (λ r. S r.got r.next) ≡ Err f
      fails l b ls s t f hs ht k (inl q) = then_no (R (At l b (ls ++ t))) _ f (g.ends.err l b ls s t f hs ht q k)
      fails l b ls s t f hs ht k (inr (r, q, e)) =
          let y = (h r.got).err_later r.next f e in
          let (ks, e1, e2, e3, e5) = g.ok l b ls s t r hs ht q (omega arith) in
          let e4 = subst (λ z. S r.got (At r.next.line r.next.byte z) ≡ Err f) e1 e in
          then_is (R (At l b (ls ++ t))) _ _ e3 ∙ (h r.got).err r.next.line r.next.byte ks s t f hs ht e4 (omega arith)

      halts : (l b : ℕ) (ls s : List (List ℕ)) (f : Fault) → 1 ≤ length s → f.line ≡ l + length ls → (f.reason ≡ File Trailing → ⊥)
          → (R (At l b (ls ++ s)) ≡ Err f) ⊎ ((r : Past A) × (R (At l b (ls ++ s)) ≡ Ok r) × (S r.got r.next ≡ Err f))
          → then (R (At l b (ls ++ ([] ∷ [])))) (λ r. S r.got r.next) ≡ fault Unfinished (l + length ls) (b + length (fed ls))
      halts l b ls s f hs k nn (inl q) = then_no (R (At l b (ls ++ ([] ∷ [])))) _ _ (g.ends.stops l b ls s f hs q k nn)
      halts l b ls s f hs k nn (inr (r, q, e)) =
          let y = (h r.got).err_later r.next f e in
          let (ks, e1, e2, e3, e5) = g.ok l b ls s ([] ∷ []) r hs (omega arith) q (omega arith) in
          let e4 = subst (λ z. S r.got (At r.next.line r.next.byte z) ≡ Err f) e1 e in
          then_is (R (At l b (ls ++ ([] ∷ [])))) _ _ e3 ∙ ((h r.got).stops r.next.line r.next.byte ks s f hs e4 (omega arith) nn ∙ same_fault
          _ _ _ _ e2 e5)

line_at : (l b : ℕ) (x : List ℕ) (zs : List (List ℕ)) → 1 ≤ length zs → line_in l b (x ∷ zs) ≡ Ok
    (record { got = cut 32 x; next = At (suc l) (b + length x + 1) zs })
line_at l b x [] h = absurd (omega arith)
line_at l b x (y ∷ ys) h = refl

some_after : (xs ys : List (List ℕ)) → 1 ≤ length ys → 1 ≤ length (xs ++ ys)
some_after [] ys h = h
some_after (x ∷ xs) ys h = omega arith

line_later : (l b : ℕ) (ls : List (List ℕ)) (t : Past (List (List ℕ))) → line_in l b ls ≡ Ok t → suc l ≤ t.next.line
line_later l b [] t q = no_fault _ t q
line_later l b (x ∷ []) t q = no_fault _ t q
line_later l b (x ∷ (y ∷ ys)) t q = let e = ap (λ v. v.next.line) (same_ok _ t q) in omega arith

line_fault : (l b : ℕ) (ls : List (List ℕ)) (f : Fault) → line_in l b ls ≡ Err f → f.line ≡ l
line_fault l b [] f q = sym (ap (λ v. v.line) (same_err _ f q))
line_fault l b (x ∷ []) f q = sym (ap (λ v. v.line) (same_err _ f q))
line_fault l b (x ∷ (y ∷ ys)) f q = no_ok _ f q

module _ {A : Type 0} (F : ℕ → ℕ → List (List ℕ) → Result A Fault) (on : (l b : ℕ) (ws : List (List ℕ)) → On l (F l b ws)) where
  after_line : (l b : ℕ) (x : List ℕ) (zs : List (List ℕ)) → 1 ≤ length zs → a_line F (At l b (x ∷ zs)) ≡ then {B = Past A} (F l b (cut 32 x))
      (λ a. Ok (record { got = a; next = At (suc l) (b + length x + 1) zs }))
  after_line l b x zs h = then_is (line_in l b (x ∷ zs)) _ _ (line_at l b x zs h)

  strictly : (p : Rest) (r : Past A) → a_line F p ≡ Ok r → suc p.line ≤ r.next.line
  strictly p r q =
      let (t, x, y) = then_ok (line_in p.line p.byte p.left) _ r q in
      let (a, z, w) = then_ok (F p.line p.byte t.got) _ r y in
      let e = ap (λ v. v.next.line) (same_ok _ r w) in
      let k = line_later p.line p.byte p.left t x in
      omega arith

  on_the_line : (p : Rest) (f : Fault) → a_line F p ≡ Err f → f.line ≡ p.line
  on_the_line p f q = go (then_err (line_in p.line p.byte p.left) _ f q)
    where
      inner : (t : Past (List (List ℕ))) → (F p.line p.byte t.got ≡ Err f) ⊎
          ((a : A) × (F p.line p.byte t.got ≡ Ok a) × (◌≡◌ {A = Result (Past A) Fault} (Ok (record { got = a; next = t.next })) (Err f))) →
          f.line ≡ p.line
      inner t (inl e) = on p.line p.byte t.got f e
      inner t (inr (a, e, z)) = no_ok _ f z

      go : (line_in p.line p.byte p.left ≡ Err f) ⊎
          ((t : Past (List (List ℕ))) × (line_in p.line p.byte p.left ≡ Ok t) ×
          (then {B = Past A} (F p.line p.byte t.got) (λ a. Ok (record { got = a; next = t.next })) ≡ Err f)) → f.line ≡ p.line
      go (inl e) = line_fault p.line p.byte p.left f e
      go (inr (t, e, z)) = inner t (then_err (F p.line p.byte t.got) _ f z)

  fails_alike : (l b : ℕ) (ls s t : List (List ℕ)) (f : Fault) → 1 ≤ length s → 1 ≤ length t → a_line F (At l b (ls ++ s)) ≡ Err f
      → f.line < l + length ls → a_line F (At l b (ls ++ t)) ≡ Err f
  fails_alike l b [] s t f hs ht q k = let e = on_the_line (At l b s) f q in absurd (omega arith)
  fails_alike l b (x ∷ ls) s t f hs ht q k = after_line l b x (ls ++ t) (some_after ls t ht) ∙ go
      (then_err (F l b (cut 32 x)) _ f (sym (after_line l b x (ls ++ s) (some_after ls s hs)) ∙ q))
    where
      go : (F l b (cut 32 x) ≡ Err f) ⊎ ((a : A) × (F l b (cut 32 x) ≡ Ok a) ×
          (◌≡◌ {A = Result (Past A) Fault} (Ok (record { got = a; next = At (suc l) (b + length x + 1) (ls ++ s) })) (Err f))) → then {B = Past A}
          (F l b (cut 32 x)) (λ a. Ok (record { got = a; next = At (suc l) (b + length x + 1) (ls ++ t) })) ≡ Err f
      go (inl e) = then_no (F l b (cut 32 x)) _ f e
      go (inr (a, e, z)) = no_ok _ f z

  goes_alike : (l b : ℕ) (ls s t : List (List ℕ)) (r : Past A) → 1 ≤ length s → 1 ≤ length t → a_line F (At l b (ls ++ s)) ≡ Ok r → r.next.line ≤ l +
      length ls → (ks : List (List ℕ)) × (r.next.left ≡ ks ++ s) × (r.next.line + length ks ≡ l + length ls) ×
      (a_line F (At l b (ls ++ t)) ≡ Ok (record { got = r.got; next = At r.next.line r.next.byte (ks ++ t) })) ×
      (r.next.byte + length (fed ks) ≡ b + length (fed ls))
  goes_alike l b [] s t r hs ht q k = let e = strictly (At l b s) r q in absurd (omega arith)
  goes_alike l b (x ∷ ls) s t r hs ht q k =
      let (a, y, z) = then_ok (F l b (cut 32 x)) _ r (sym (after_line l b x (ls ++ s) (some_after ls s hs)) ∙ q) in
      let e = same_ok (record { got = a; next = At (suc l) (b + length x + 1) (ls ++ s) }) r z in
      let n = ap (λ v. v.next.line) e in (
        ls,
        sym (ap (λ v. v.next.left) e),
        omega arith,
        after_line l b x (ls ++ t) (some_after ls t ht) ∙ then_is (F l b (cut 32 x)) _ a y ∙ ap
            (λ v. Ok (record { got = v.got; next = At v.next.line v.next.byte (ls ++ t) })) e,
        omega
            (arith, ap (λ v. v.next.byte) e, length-append x (10 ∷ fed ls)),
      )

  stops_there : (l b : ℕ) (ls s : List (List ℕ)) (f : Fault) → 1 ≤ length s → a_line F (At l b (ls ++ s)) ≡ Err f → f.line ≡ l + length ls
      → (f.reason ≡ File Trailing → ⊥) → a_line F (At l b (ls ++ ([] ∷ []))) ≡ fault Unfinished (l + length ls) (b + length (fed ls))
  stops_there l b [] s f hs q k nn = same_fault l (l + 0) (b + 0) (b + 0) (omega arith) refl
  stops_there l b (x ∷ ls) s f hs q k nn = let e = on_the_line (At l b (x ∷ (ls ++ s))) f q in absurd (omega arith)

  line_goes : Goes A (a_line F)
  line_goes = record {
    ends = record { err_later = λ p f q. let e = on_the_line p f q in omega arith; err = fails_alike; stops = stops_there };
    ok_later = λ p r q. let e = strictly p r q in omega arith;
    ok = goes_alike;
  }

end_on : (s : Reading) (l b : ℕ) (ls : List (List ℕ)) (f : Fault) → at_end s l b ls ≡ Err f → f.line ≡ l
end_on s l b ([] ∷ []) f q = no_ok s f q
end_on s l b [] f q = sym (ap (λ v. v.line) (same_err _ f q))
end_on s l b ([] ∷ (y ∷ ys)) f q = sym (ap (λ v. v.line) (same_err _ f q))
end_on s l b ((x ∷ xs) ∷ ys) f q = sym (ap (λ v. v.line) (same_err _ f q))

end_at : (s : Reading) (l b : ℕ) (x : List ℕ) (zs : List (List ℕ)) → 1 ≤ length zs → at_end s l b (x ∷ zs) ≡ fault Trailing l b
end_at s l b [] [] h = absurd (omega arith)
end_at s l b [] (z ∷ zs) h = refl
end_at s l b (c ∷ x) zs h = refl

end_reason : (s : Reading) (l b : ℕ) (ls : List (List ℕ)) (f : Fault) → at_end s l b ls ≡ Err f → f.reason ≡ File Trailing
end_reason s l b ([] ∷ []) f q = no_ok s f q
end_reason s l b [] f q = sym (ap (λ v. v.reason) (same_err _ f q))
end_reason s l b ([] ∷ (y ∷ ys)) f q = sym (ap (λ v. v.reason) (same_err _ f q))
end_reason s l b ((x ∷ xs) ∷ ys) f q = sym (ap (λ v. v.reason) (same_err _ f q))

end_alike : (s : Reading) (l b : ℕ) (ls xs ys : List (List ℕ)) (f : Fault) → 1 ≤ length xs → 1 ≤ length ys → at_end s l b (ls ++ xs) ≡ Err f
    → f.line < l + length ls → at_end s l b (ls ++ ys) ≡ Err f
end_alike s l b [] xs ys f hs ht q k = let e = end_on s l b xs f q in absurd (omega arith)
end_alike s l b (x ∷ ls) xs ys f hs ht q k = end_at s l b x (ls ++ ys) (some_after ls ys ht) ∙ sym (end_at s l b x (ls ++ xs) (some_after ls xs hs)) ∙ q

bounds_end : (k : ℕ) (s : Reading) → Ends Reading (from_bounds k s)
bounds_end zero s = record {
  err_later = λ p f q. let e = end_on s p.line p.byte p.left f q in omega arith;
  err = end_alike s;
  stops = λ l b ls xs f hs q k nn. absurd (nn (end_reason s l b (ls ++ xs) f q));
}
bounds_end (suc k) s =
    let F = bound_of s.known s.book in
    let more = λ (x : BoundLine). bounds_end k (with_bound_line s x) in
    bind_ends (a_line F) (line_goes F (on_bound s.known s.book)) (λ x. from_bounds k (with_bound_line s x)) more

jobs_end : (k : ℕ) (s : Reading) → Ends Reading (from_jobs k s)
jobs_end zero s =
    let F = count_of (codes "bounds") in
    bind_ends (a_line F) (line_goes F (on_count (codes "bounds"))) (λ m. from_bounds m s) (λ m. bounds_end m s)
jobs_end (suc k) s =
    let F = job_of s.known s.book in
    let more = λ (j : JobLine). jobs_end k (with_job_line s j) in
    bind_ends (a_line F) (line_goes F (on_job s.known s.book)) (λ j. from_jobs k (with_job_line s j)) more

text_ends : (room : ℕ) (s : Reading) → Ends Reading (from_top room s)
text_ends room s = bind_ends (a_line (jobs_count room)) (line_goes (jobs_count room) (on_jobs_count room)) (λ n. from_jobs n s) (λ n. jobs_end n s)

cut_fed : (ls : List (List ℕ)) (xs : List ℕ) → Every Line ls → cut 10 (fed ls ++ xs) ≡ ls ++ cut 10 xs
cut_fed [] xs h = refl
cut_fed (l ∷ ls) xs h = ap (cut 10) (append_assoc l (10 ∷ fed ls) xs) ∙ cut_piece 10 l (fed ls ++ xs) h.0 ∙ ap (λ t. l ∷ t) (cut_fed ls xs h.1)

cut_long : (xs : List ℕ) → 1 ≤ length (cut 10 xs)
cut_long xs = let s = some_cut 10 xs in omega (arith, ap length s.2)

from_lines : (room : ℕ) (ls : List (List ℕ)) (xs : List ℕ) → Every Line ls → length (fed ls ++ xs) ≤ 8192
    → outcome room (fed ls ++ xs) ≡ from_top room nothing_read (At 1 0 (ls ++ cut 10 xs))
from_lines room ls xs h k = rw (le-leb (length (fed ls ++ xs)) 8192 k, cut_fed ls xs h) refl

pub faults_by_lines : FaultsByLines
faults_by_lines room ls xs ys f a q l =
    from_lines room ls ys a.lines a.short_too
    ∙ (text_ends room nothing_read).err 1 0 ls (cut 10 xs) (cut 10 ys) f (cut_long xs) (cut_long ys)
    (sym (from_lines room ls xs a.lines a.short) ∙ q) (omega arith)

pub first_fault : FirstFault
first_fault room ls xs ys f g a q l r =
    let swapped : Alike ls ys xs = record { lines = a.lines; short = a.short_too; short_too = a.short } in
    ⊎_elim
    (λ (s : length ls < g.line). s)
    (λ (s : g.line ≤ length ls). let e = ap (λ v. v.line) (same_err f g (sym q ∙ faults_by_lines room ls ys xs g swapped r s)) in absurd (omega arith))
    (cases_lt (length ls) g.line)

pub lines_before : LinesBefore
lines_before room ls xs f a q l nn =
    let e = append-nil (fed ls) in
    let k : length (fed ls ++ []) ≤ 8192 = omega (arith, ap length e, length-append (fed ls) xs, a.short) in
    let stop = (text_ends room nothing_read).stops 1 0 ls (cut 10 xs) f (cut_long xs) (sym (from_lines room ls xs a.lines a.short) ∙ q) (omega arith) nn in
    ap (outcome room) (sym e) ∙ (from_lines room ls [] a.lines k ∙ (stop ∙ same_fault _ f.line _ (length (fed ls)) (omega arith) (omega arith)))
