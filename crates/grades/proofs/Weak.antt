-- The tables of the weak systems are the strategies.
use Rattle.std.proofs.Common.{◌≡◌, ℕ, ◌<◌, cond, List, [], map, length, ap, ◌∙◌, arith}
use native.Mathlib.Decide.{dec_lt}
use Rattle.std.specs.List.{range_with_len}
use Rattle.std.proofs.lemmas.List.FromFn.{get_or-map-range_with_len, length-map-range_with_len}
use Rattle.book.specs.Plain.{Plain, cases, Case, Done}
use Rattle.book.specs.Sound.{Sound}
use Rattle.book.specs.Done.{done}
use Rattle.rules.specs.Rules.{Keeps, Kept, Least, at, no_rule}
use Rattle.grades.specs.Grades.{Minutes, Counts, Weak}
use Rattle.grades.specs.Systems.{weak_system, weak_rules, strong_reads, weak_reads}
use Rattle.grades.specs.Theorems.{AlikeIn, WeakTheorem, WeakTables}
use Rattle.grades.proofs.Lists.{every_at, at_every}
use Rattle.book.proofs.Tests.{done_decides}
use Rattle.grades.proofs.Props.{Holding, weak_holding, holding_weak}
use Rattle.grades.proofs.Strategies.{start_done, strategy_of, holding_of, lower_holding}
use Rattle.grades.proofs.Single.{Single, lowered, lowered_keeps, lowered_zero, least_zero}

module _ (b : Plain) (sound : Sound b) where
  into : (s : ℕ) (table : List ℕ) → Keeps (weak_system b s) table → Holding b (Counts b s) (Done b s) (λ j. at table j)
  into s table keeps = weak_holding b s (λ j. j) table (at_every (Kept table) (weak_rules b s (λ j. j)) no_rule keeps.each)

  back : (s : ℕ) (table : List ℕ) → length table ≡ length b.jobs → Holding b (Counts b s) (Done b s) (λ j. at table j) → Keeps (weak_system b s) table
  back s table sized k = record {
    sized = sized;
    each = every_at (Kept table) (weak_rules b s (λ j. j)) no_rule (holding_weak b s (λ j. j) table k);
  }

  single : (s : ℕ) → Single b (Counts b s) (Done b s) (weak_system b s)
  single s = record { joins = λ i p. p; start = start_done b sound s; into = into s; back = back s }

  from_zero : (s : ℕ) (table : List ℕ) → Least (weak_system b s) table → at table 0 ≡ 0
  from_zero s = least_zero b sound (Counts b s) (Done b s) (weak_system b s) (single s)

  tables_are : (tables : ℕ → List ℕ) → ((s : ℕ) → Case b s → Keeps (weak_system b s) (tables s) × (at (tables s) 0 ≡ 0)) → Weak b (weak_reads tables)
  tables_are tables k = strategy_of b sound (weak_reads tables) (λ s h. into s (tables s) (k s h).0) (λ s h. (k s h).1)

  -- the minutes of a case, 0 at the jobs not done
  row : Minutes → ℕ → List ℕ
  row M s = map (λ j. cond (done b s j) (M s j) 0) (range_with_len 0 (length b.jobs))

  row_at : (M : Minutes) (s : ℕ) → AlikeIn b s (strong_reads (row M s)) M
  unfolding row
  row_at M s j h p =
      get_or-map-range_with_len (λ i. cond (done b s i) (M s i) 0) 0 (length b.jobs) j j 0 h (omega arith)
      ∙ ap (λ r. cond r (M s j) 0) ((done_decides b s j).1 p)

  row_length : (M : Minutes) (s : ℕ) → length (row M s) ≡ length b.jobs
  unfolding row
  row_length M s = length-map-range_with_len (λ i. cond (done b s i) (M s i) 0) 0 (length b.jobs)

  are_tables : (M : Minutes) → Weak b M → (s : ℕ) → Case b s
      → (table : List ℕ) × Keeps (weak_system b s) table × (at table 0 ≡ 0) × AlikeIn b s (strong_reads table) M
  are_tables M w s h =
      let k = lower_holding b sound (Counts b s) (Done b s) (λ i p. p) (M s) (λ j. at (row M s) j) 0
      (λ j i p. omega (arith, row_at M s j i p)) (holding_of b M w s h) in
      (row M s, back s (row M s) (row_length M s) k, row_at M s 0 sound.some (start_done b sound s) ∙ w.start s h, row_at M s)

  -- the table of a case, where the number is one
  pick : ((s : ℕ) → Case b s → (table : List ℕ) × Keeps (weak_system b s) table) → (s : ℕ) → Dec (s < cases b) → List ℕ
  pick f s (yes h) = lowered (f s h).0
  pick f s (no h) = []

  pick_keeps : (f : (s : ℕ) → Case b s → (table : List ℕ) × Keeps (weak_system b s) table) (s : ℕ) (d : Dec (s < cases b))
      → Case b s → Keeps (weak_system b s) (pick f s d) × (at (pick f s d) 0 ≡ 0)
  unfolding pick
  pick_keeps f s (yes h) g = (
    lowered_keeps b sound (Counts b s) (Done b s) (weak_system b s) (single s) (f s h).0 (f s h).1,
    lowered_zero b sound (Counts b s) (Done b s) (weak_system b s) (single s) (f s h).0,
  )
  pick_keeps f s (no h) g = absurd (h g)

  all : WeakTheorem b
  all = record {
    tables_are = tables_are;
    are_tables = are_tables;
    least_from_zero = from_zero;
    least_is_earliest = λ tables l. record {
      good = tables_are tables (λ s h. ((l s h).keeps, from_zero s (tables s) (l s h)));
      first = λ other w s h j i p. let t = are_tables other w s h in omega (arith, (l s h).least t.0 t.1 j, t.3 j i p);
    };
    verdict = (
      λ f.
          let ts : ℕ → List ℕ = λ s. pick f s (dec_lt s (cases b)) in
          (weak_reads ts, tables_are ts (λ s h. pick_keeps f s (dec_lt s (cases b)) h)),
      λ w s h. let t = are_tables w.0 w.1 s h in (t.0, t.1),
    );
  }

pub weak_tables : WeakTables
weak_tables = all
