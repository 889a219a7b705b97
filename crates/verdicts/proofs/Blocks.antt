-- The minutes list, filled case by case.
use Rattle.std.proofs.Common.{◌≡◌, ℕ, zero, suc, ◌+◌, ◌-◌, ◌*◌, ◌<◌, ◌≤◌, Bool, cond, List, [], ◌∷◌, ◌++◌, map, length, get_or, take, drop}
use Rattle.std.proofs.Common.{set, replicate, ℤ, pos, negsuc, Decides, sym, refl, ap, ◌∙◌, ⊎_elim, append_assoc, append-nil, add-zero}
use Rattle.std.proofs.Common.{suc-mul, zero-mul, add-one, arith, length-append, length-drop}
use lib.ListN.{length-map}
use Rattle.std.proofs.lemmas.List.{take-append-drop, drop_all, drop_more, set_at, take_at, drop_at, drop-drop, length-take-le}
use Rattle.std.proofs.lemmas.List.{get_or_append_left, get_or-append_right, get_or-map, get_or_past, drop-replicate}
use Rattle.std.proofs.lemmas.Bool.{cases_lt}
use borrow.Rule.Slice.PartMut.{put_mid}
use Rattle.std.proofs.lemmas.Bool.Decides.{same_from_decides}
use Rattle.book.specs.declared.parts.Label.{Label}
use Rattle.book.specs.Labels.{Meets}
use Rattle.book.specs.Plain.{Plain}
use Rattle.rules.specs.Rules.{at}
use Rattle.book.specs.Done.{met_by, done}
use Rattle.book.proofs.Tests.{met_by_decides}
use Rattle.grades.specs.Systems.{each_below}
use Rattle.verdicts.specs.Filling.{block}

-- one more element of a front that is written
pub wrote : {X : Type 0} (a e : List X) (i : ℕ) (y : X) → length a ≡ i → i < length e → set (a ++ drop i e) i y ≡ (a ++ (y ∷ [])) ++ drop (i + 1) e
wrote a e i y l h = rw (drop_more e i y h) (set_at a _ (drop (i + 1) e) y i l ∙ sym (append_assoc a (y ∷ []) (drop (i + 1) e)))

-- lists that are made number by number
pub each_length : {X : Type 0} (n k : ℕ) (f : ℕ → List X) → ((i : ℕ) → length (f i) ≡ k) → length (each_below n f) ≡ n * k
each_length zero k f h = sym (zero-mul k)
each_length (suc n) k f h = length-append (each_below n f) (f n) ∙ omega (arith, each_length n k f h, h n, suc-mul n k)

pub each_same : {X : Type 0} (n : ℕ) (f g : ℕ → List X) → ((i : ℕ) → i < n → f i ≡ g i) → each_below n f ≡ each_below n g
each_same zero f g h = refl
each_same (suc n) f g h =
    let front = each_same n f g (λ i l. h i (omega arith)) in
    let last = h n (omega arith) in
    cc

pub each_ones : {X : Type 0} (n : ℕ) (f : ℕ → X) → length (each_below n (λ i. f i ∷ [])) ≡ n
each_ones n f = each_length n 1 (λ i. f i ∷ []) (λ i. refl) ∙ omega arith

-- one more number of a block that begins at `first`
pub row_more : (f : ℕ → ℤ) (before minutes : List ℤ) (first j : ℕ) → first + j < length before →
    minutes ≡ (take first before ++ each_below j (λ i. f i ∷ [])) ++ drop (first + j) before →
    set minutes (first + j) (f j) ≡ (take first before ++ each_below (j + 1) (λ i. f i ∷ [])) ++ drop (first + (j + 1)) before
row_more f before minutes first j h e =
    let row = each_below j (λ i. f i ∷ []) in
    let front = take first before ++ row in
    let sized : length front ≡ first + j =
    length-append (take first before) row ∙ omega (arith, length-take-le first before (omega arith), each_ones j f) in
    let put = wrote front before (first + j) (f j) sized h in
    let more : each_below (j + 1) (λ i. f i ∷ []) ≡ row ++ (f j ∷ []) = rw (add-one j) refl in
    let along = append_assoc (take first before) row (f j ∷ []) in
    let on : first + j + 1 ≡ first + (j + 1) = omega arith in
    cc

-- one more block
pub blocks_more : (g : ℕ → List ℤ) (n s : ℕ) (before minutes after : List ℤ) → ((i : ℕ) → length (g i) ≡ n) →
    minutes ≡ each_below s g ++ drop (s * n) before → after ≡ (take (s * n) minutes ++ g s) ++ drop (s * n + n) minutes →
    after ≡ each_below (s + 1) g ++ drop ((s + 1) * n) before
blocks_more g n s before minutes after each e f =
    let front = each_below s g in
    let sized = each_length s n g each in
    let kept : take (s * n) minutes ≡ front = ap (take (s * n)) e ∙ take_at front (drop (s * n) before) (s * n) sized in
    let rest : drop (s * n) minutes ≡ drop (s * n) before = ap (drop (s * n)) e ∙ drop_at front (drop (s * n) before) (s * n) sized in
    let past : drop (s * n + n) minutes ≡ drop (s * n + n) before =
    sym (drop-drop n (s * n) minutes) ∙ (ap (drop n) rest ∙ drop-drop n (s * n) before) in
    let more : each_below (s + 1) g ≡ front ++ g s = rw (add-one s) refl in
    let on : s * n + n ≡ (s + 1) * n = rw (add-one s, suc-mul s n) refl in
    cc

-- a table that is written over the front of zeros is read at every place
pub read_found : (table : List ℕ) (k j : ℕ) → get_or (map pos table ++ drop (length table) (replicate k (pos 0))) j (pos 0) ≡ pos (at table j)
read_found table k j =
    ⊎_elim
    (λ (h : j < length table). let l : j < length (map pos table) = rw (length-map table pos) h in
    get_or_append_left (map pos table) _ (pos 0) j l ∙ get_or-map pos table j 0 (pos 0) h)
    (λ (h : length table ≤ j).
    get_or-append_right (map pos table) _ (length table) j (pos 0) (length-map table pos) h
    ∙ (ap (λ xs. get_or xs (j - length table) (pos 0)) (drop-replicate (length table) k (pos 0))
    ∙ (zeros (k - length table) (j - length table) ∙ ap pos (sym (get_or_past table j 0 h)))))
    (cases_lt j (length table))
  where
    zeros : (n i : ℕ) → get_or (replicate n (pos 0)) i (pos 0) ≡ pos 0
    zeros zero i = refl
    zeros (suc n) zero = refl
    zeros (suc n) (suc i) = zeros n i

-- a test that decides whether the case meets the label chooses what is shown
pub shown_is : (l : Label) (s : ℕ) (r : Bool) (x : ℤ) → Decides r (Meets l s) → cond r x (negsuc 0) ≡ cond (met_by l s) x (negsuc 0)
shown_is l s r x d = ap (λ t. cond t x (negsuc 0)) (same_from_decides r (met_by l s) d (met_by_decides l s))

-- before its first number is written, a list is as it was
pub row_starts : {X : Type 0} (before : List X) (first : ℕ) → before ≡ (take first before ++ []) ++ drop (first + 0) before
row_starts before first = rw (append-nil (take first before), add-zero first) (sym (take-append-drop first before))

pub block_length : (b : Plain) (table : List ℤ) (from s : ℕ) → length (block b table from s) ≡ length b.jobs
block_length b table from s = each_ones (length b.jobs) (λ j. cond (done b s j) (get_or table (from + j) (pos 0)) (negsuc 0))

-- what stands from an index on, where all from there on was written
pub put_rest : {X : Type 0} (xs ys : List X) (a : ℕ) → a ≤ length xs → drop a (put_mid a (length xs - a) xs ys) ≡ ys
put_rest xs ys a h =
    drop_at (take a xs) _ a (length-take-le a xs h)
    ∙ (ap (λ rest. ys ++ rest) (drop_all (length xs - a) (drop a xs) (rw (length-drop a xs) (omega arith))) ∙ append-nil ys)
