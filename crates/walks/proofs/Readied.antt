-- A list of minutes that makes a sheet ready: its rows, the list of a new book, and a list that a verdict filled.
use Rattle.std.proofs.Common.{◌≡◌, ℕ, zero, suc, ◌+◌, ◌-◌, ◌*◌, ◌<◌, ◌≤◌, Bool, true, false, cond, ◌⊎◌, List, [], ◌∷◌, ◌++◌, length, get_or}
use Rattle.std.proofs.Common.{take, drop, replicate, ℤ, pos, negsuc, Some, None, Option, sym, refl, ap, ◌∙◌, subst, inl, inr, suc-mul}
use Rattle.std.proofs.Common.{zero-mul, arith, length-append, get_or-drop, get_or-take}
use native.Mathlib.Decide.{dec_lt}
use Rattle.std.specs.List.{Contains}
use Rattle.std.proofs.lemmas.Nat.{mul-add-lt, mul-le}
use Rattle.std.proofs.lemmas.List.Elements.{All-contains}
use Rattle.std.proofs.lemmas.List.{get_or_append_left, get_or-append_right, take_at}
use Rattle.book.specs.Labels.{bit}
use Rattle.book.specs.Done.{done}
use Rattle.book.specs.Plain.{Plain, bound, checks, asking, cases, Case, Done, new_book}
use Rattle.book.specs.Sound.{Sound}
use Rattle.book.proofs.Tests.{done_decides}
use Rattle.grades.specs.Grades.{Minutes, Strategy, Dynamic, Earliest, Agrees, Within}
use Rattle.grades.specs.Systems.{each_below, place, shown, listed}
use Rattle.grades.specs.Theorems.{Alike}
use Rattle.grades.proofs.Strategies.{start_done, check_done}
use Rattle.grades.proofs.Limits.{few_cases}
use Rattle.walks.specs.declared.parts.Telling.{Telling}
use Rattle.walks.specs.Logs.{Comes}
use Rattle.walks.specs.Standing.{Begins, Over, First}
use Rattle.walks.specs.Rows.{natural, Shows, minutes_from, FirstFrom}
use Rattle.walks.specs.Ready.{value, read, Ready}
use Rattle.walks.proofs.Sets.{bit_of_none}
use Rattle.walks.proofs.Scanned.{shown_in, in_shown}

-- lists made number by number, and row by row
each_length : {X : Type 0} (n k : ℕ) (f : ℕ → List X) → ((i : ℕ) → length (f i) ≡ k) → length (each_below n f) ≡ n * k
each_length zero k f h = sym (zero-mul k)
each_length (suc n) k f h = length-append (each_below n f) (f n) ∙ omega (arith, each_length n k f h, h n, suc-mul n k)

one_length : (n : ℕ) (f : ℕ → ℤ) → length (each_below n (λ i. f i ∷ [])) ≡ n
one_length n f = each_length n 1 (λ i. f i ∷ []) (λ i. refl) ∙ omega arith

one_at : (n : ℕ) (f : ℕ → ℤ) (j : ℕ) → j < n → get_or (each_below n (λ i. f i ∷ [])) j (pos 0) ≡ f j
one_at zero f j h = absurd (omega arith)
one_at (suc n) f j h = by (dec_lt j n) (one_at n f j)
  where
    by : Dec (j < n) → (j < n → get_or (each_below n (λ i. f i ∷ [])) j (pos 0) ≡ f j) → get_or (each_below n (λ i. f i ∷ []) ++ (f n ∷ [])) j (pos 0) ≡ f j
    by (yes l) r = let s = one_length n f in get_or_append_left (each_below n (λ i. f i ∷ [])) (f n ∷ []) (pos 0) j (omega arith) ∙ r l
    by (no l) r =
        let e : j ≡ n = omega arith in
        let z : j - n ≡ 0 = omega arith in
        get_or-append_right (each_below n (λ i. f i ∷ [])) (f n ∷ []) n j (pos 0) (one_length n f) (omega arith)
        ∙ (ap (λ k. get_or (f n ∷ []) k (pos 0)) z ∙ ap f (sym e))

row_at : (m n : ℕ) (g : ℕ → ℕ → ℤ) (s j : ℕ) → s < m → j < n → get_or (each_below m (λ t. each_below n (λ i. g t i ∷ []))) (s * n + j) (pos 0) ≡ g s j
row_at zero n g s j h l = absurd (omega arith)
row_at (suc m) n g s j h l = by (dec_lt s m) (λ k. row_at m n g s j k l)
  where
    sized : length (each_below m (λ t. each_below n (λ i. g t i ∷ []))) ≡ m * n
    sized = each_length m n (λ t. each_below n (λ i. g t i ∷ [])) (λ t. one_length n (g t))

    by : Dec (s < m) → (s < m → get_or (each_below m (λ t. each_below n (λ i. g t i ∷ []))) (s * n + j) (pos 0) ≡ g s j)
        → get_or (each_below m (λ t. each_below n (λ i. g t i ∷ [])) ++ each_below n (λ i. g m i ∷ [])) (s * n + j) (pos 0) ≡ g s j
    by (yes k) r =
        let p = mul-add-lt s n j m k l in
        let z = sized in
        get_or_append_left (each_below m (λ t. each_below n (λ i. g t i ∷ []))) (each_below n (λ i. g m i ∷ [])) (pos 0) (s * n + j) (omega arith) ∙ r k
    by (no k) r =
        let e : s ≡ m = omega arith in
        let x = ap (λ t. t * n) e in
        let z : s * n + j - m * n ≡ j = omega arith in
        get_or-append_right (each_below m (λ t. each_below n (λ i. g t i ∷ []))) (each_below n (λ i. g m i ∷ [])) (m * n) (s * n + j) (pos 0) sized
        (omega arith)
        ∙ (ap (λ k. get_or (each_below n (λ i. g m i ∷ [])) k (pos 0)) z ∙ (one_at n (g m) j l ∙ ap (λ t. g t j) (sym e)))

each_same : {X : Type 0} (n : ℕ) (f g : ℕ → List X) → ((i : ℕ) → i < n → f i ≡ g i) → each_below n f ≡ each_below n g
each_same zero f g h = refl
each_same (suc n) f g h =
    let front = each_same n f g (λ i l. h i (omega arith)) in
    let last = h n (omega arith) in
    cc

-- a number that shows a job's minute
shows_done : (t : Bool) (m v : ℕ) → natural (cond t (pos m) (negsuc 0)) ≡ Some v → (t ≡ true) × (m ≡ v)
shows_done true m v e = (refl, cc)
shows_done false m v e = absurd (cc)

-- the rows of a list that begins with the minutes of a strategy
module _ (b : Plain) (M : Minutes) (list : List ℤ) (begins : take (cases b * length b.jobs) list ≡ listed b M) where
  number_at : (s j : ℕ) → Case b s → j < length b.jobs → get_or list (place b s j) (pos 0) ≡ shown b M s j
  number_at s j h l =
      let p = mul-add-lt s (length b.jobs) j (cases b) h l in
      let k : place b s j < cases b * length b.jobs = omega arith in
      sym (get_or-take (cases b * length b.jobs) list (place b s j) (pos 0) k)
      ∙ (ap (λ xs. get_or xs (place b s j) (pos 0)) begins ∙ row_at (cases b) (length b.jobs) (shown b M) s j h l)

  -- the row of case s shows exactly when its jobs come
  module _ (s : ℕ) (h : Case b s) (row : List ℤ) (is : row ≡ take (length b.jobs) (drop (s * length b.jobs) list)) where
    in_row : (j : ℕ) → j < length b.jobs → get_or row j (pos 0) ≡ shown b M s j
    in_row j l =
        ap (λ xs. get_or xs j (pos 0)) is
        ∙ (get_or-take (length b.jobs) (drop (s * length b.jobs) list) j (pos 0) l ∙ (get_or-drop (s * length b.jobs) list j (pos 0) ∙ number_at s j h l))

    shows_comes : (j v : ℕ) → j < length b.jobs → Shows row j v → Comes b M s j v
    shows_comes j v l e =
        let k = shows_done (done b s j) (M s j) v (ap natural (sym (in_row j l)) ∙ e) in
        (l, (done_decides b s j).0 k.0, k.1)

    comes_shows : (j v : ℕ) → Comes b M s j v → Shows row j v
    comes_shows j v c =
        let t = (done_decides b s j).1 c.1 in
        ap natural (in_row j c.0 ∙ ap (λ x. cond x (pos (M s j)) (negsuc 0)) t) ∙ ap Some c.2

    module _ (long : length row ≡ length b.jobs) (from : ℕ) where
      -- the minute of a job of the case is among those of the row
      among : (j : ℕ) → j < length b.jobs → Done b s j → from ≤ M s j → Contains (minutes_from row from) (M s j)
      among j l d k = shown_in from row j (M s j) (subst (λ n. j < n) (sym long) l) (comes_shows j (M s j) (l, d, refl)) k

      -- the least minute of the row with its jobs is what comes first in the case
      begins_with : (t : Telling) → FirstFrom row from (Some t) → Begins b M s from t
      begins_with t f = record {
        late = (in_shown row from t.minute f.0.0).0;
        some = λ e.
            let shown = (in_shown row from t.minute f.0.0).1 in
            let one = (f.1 shown.0).1 (shown.1, shown.2) in
            let x = ap (λ n. bit n shown.0) e in
            let z = bit_of_none shown.0 in
            omega arith;
        exactly = λ j. (
          λ k. let x = (f.1 j).0 k in shows_comes j t.minute (subst (λ n. j < n) long x.0) x.1,
          λ c. (f.1 j).1 (subst (λ n. j < n) (sym long) c.0, comes_shows j t.minute c),
        );
        least = λ j l d k. All-contains (λ v. t.minute ≤ v) (minutes_from row from) (M s j) f.0.1 (among j l d k);
      }

      over_with : FirstFrom row from None → Over b M s from
      over_with f j l d = by (dec_lt (M s j) from)
        where
          by : Dec (M s j < from) → M s j < from
          by (yes p) = p
          by (no p) =
              let c = subst (λ vs. Contains vs (M s j)) f (among j l d (omega arith)) in
              absurd (omega (arith, c.1))

      pub first_with : (r : Option Telling) → FirstFrom row from r → First b M s from r
      first_with None f = over_with f
      first_with (Some t) f = begins_with t f

-- where a case's row lies in a list of 320 numbers
pub row_fits : (b : Plain) → Sound b → (s : ℕ) → Case b s → s * length b.jobs + length b.jobs ≤ 320
row_fits b sound s h =
    let m = sound.few_jobs in
    let k = few_cases b sound in
    let p : suc s * length b.jobs ≤ 16 * 20 = mul-le (suc s) (length b.jobs) 16 20 (omega arith) m in
    let q = suc-mul s (length b.jobs) in
    omega arith

-- a sheet has room for the minutes of every book
pub size_fits : (b : Plain) → Sound b → cases b * length b.jobs ≤ 320
size_fits b sound = mul-le (cases b) (length b.jobs) 16 20 (few_cases b sound) sound.few_jobs

-- strategies that agree on the jobs done are alike
module _ (b : Plain) (sound : Sound b) (M N : Minutes) (same : Alike b M N) where
  check_same : (s : ℕ) → Case b s → (c : ℕ) → c < checks b → Done b s (asking b c) → M s (asking b c) ≡ N s (asking b c)
  check_same s h c l d = same s h (asking b c) (sound.asked c l).0 d

  strategy_like : Strategy b M → Strategy b N
  strategy_like g = record {
    start = λ s h. sym (same s h 0 sound.some (start_done b sound s)) ∙ g.start s h;
    bounds = λ s h i l d.
        let first = same s h (bound b i).first (sound.each_bound i l).first_in d.0 in
        let second = same s h (bound b i).second (sound.each_bound i l).second_in d.1 in
        subst (λ x. Within (bound b i).kind (bound b i).minutes (N s (bound b i).first) x) second
        (subst (λ x. Within (bound b i).kind (bound b i).minutes x (M s (bound b i).second)) first (g.bounds s h i l d));
    not_before = λ s h j l d.
        let x = g.not_before s h j l d in
        let y = same s h 0 sound.some (start_done b sound s) in
        let z = same s h j l d in
        omega arith;
    after_checks = λ s h j l d c n.
        let x = g.after_checks s h j l d c n in
        let y = check_same s h c ((sound.each_job j l).known c n).0 (check_done b sound s j l d c n) in
        let z = same s h j l d in
        omega arith;
  }

  agrees_back : (s t : ℕ) → Case b s → (j : ℕ) → j < length b.jobs → Done b s j → Agrees b N t s j → Agrees b M t s j
  agrees_back s t h j l d a c k =
      let x = check_same s h c k.is k.done in
      let y = same s h j l d in
      let z = k.before in
      a c (record { is = k.is; done = k.done; before = omega arith })

  dynamic_like : Dynamic b M → Dynamic b N
  dynamic_like g = record {
    strategy = strategy_like g.strategy;
    same = λ s t h k j l d e a.
        sym (same s h j l d) ∙ (g.same s t h k j l d e (either s t h k j l d e a) ∙ same t k j l e);
  }
    where
      either : (s t : ℕ) → Case b s → Case b t → (j : ℕ) → j < length b.jobs → Done b s j → Done b t j →
          (Agrees b N t s j ⊎ Agrees b N s t j) → (Agrees b M t s j ⊎ Agrees b M s t j)
      either s t h k j l d e (inl a) = inl (agrees_back s t h j l d a)
      either s t h k j l d e (inr a) = inr (agrees_back t s k j l e a)

  earliest_like : Earliest b (Dynamic b) M → Earliest b (Dynamic b) N
  earliest_like g = record {
    good = dynamic_like g.good;
    first = λ other o s h j l d. let x = g.first other o s h j l d in let y = same s h j l d in omega arith;
  }

-- a list that a verdict filled with the earliest strategy makes a sheet ready
module _ (b : Plain) (sound : Sound b) (M : Minutes) (g : Earliest b (Dynamic b) M) (list rest : List ℤ) (is : list ≡ listed b M ++ rest) where
  front : take (cases b * length b.jobs) list ≡ listed b M
  front =
      ap (take (cases b * length b.jobs)) is
      ∙ take_at (listed b M) rest (cases b * length b.jobs)
      (each_length (cases b) (length b.jobs) (λ s. each_below (length b.jobs) (λ j. shown b M s j ∷ []))
      (λ s. one_length (length b.jobs) (shown b M s)))

  read_same : Alike b M (read b list)
  read_same s h j l d =
      let t = (done_decides b s j).1 d in
      sym (ap value (number_at b M list front s j h l ∙ ap (λ x. cond x (pos (M s j)) (negsuc 0)) t))

  shown_same : (s : ℕ) → Case b s → (j : ℕ) → j < length b.jobs → shown b M s j ≡ shown b (read b list) s j
  shown_same s h j l = by (done b s j) refl
    where
      by : (t : Bool) → done b s j ≡ t → cond (done b s j) (pos (M s j)) (negsuc 0) ≡ cond (done b s j) (pos (read b list s j)) (negsuc 0)
      by true e = ap (λ v. cond (done b s j) (pos v) (negsuc 0)) (read_same s h j l ((done_decides b s j).0 e))
      by false e = ap (λ x. cond x (pos (M s j)) (negsuc 0)) e ∙ sym (ap (λ x. cond x (pos (read b list s j)) (negsuc 0)) e)

  pub filled_ready : Ready b list
  filled_ready = record {
    earliest = earliest_like b sound M (read b list) read_same g;
    shown = front ∙ each_same (cases b) _ _ (λ s h. each_same (length b.jobs) _ _ (λ j l. ap (λ z. z ∷ []) (shown_same s h j l)));
  }

-- a new book has its one job at minute 0
pub new_ready : Sound new_book → Ready new_book (replicate 320 (pos 0))
new_ready sound = filled_ready new_book sound (λ s j. 0) earliest (replicate 320 (pos 0)) (replicate 319 (pos 0)) refl
  where
    earliest : Earliest new_book (Dynamic new_book) (λ s j. 0)
    earliest = record {
      good = record {
        strategy = record {
          start = λ s h. refl;
          bounds = λ s h i l d. absurd (omega arith);
          not_before = λ s h j l d. omega arith;
          after_checks = λ s h j l d c n. let k = ((sound.each_job j l).known c n).0 in absurd (omega arith);
        };
        same = λ s t h k j l d e a. refl;
      };
      first = λ other o s h j l d. omega arith;
    }
