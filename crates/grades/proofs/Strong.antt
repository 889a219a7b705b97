-- The tables of the strong system are the strong strategies.
use Rattle.std.proofs.Common.{◌≡◌, ℕ, ◌%◌, ◌^◌, ◌<◌, max, List, map, length, refl, ◌∙◌, inl, inr, arith}
use lib.Bits.{bit_or}
use Rattle.std.specs.List.{range_with_len}
use Rattle.std.proofs.lemmas.Nat.{mod_below, pow_pos}
use Rattle.std.proofs.lemmas.List.FromFn.{get_or-map-range_with_len, length-map-range_with_len}
use Rattle.book.specs.Labels.{bit, Names, WantsYes, Exclude}
use Rattle.book.specs.Plain.{Plain, job, bound, checks, asking, Case, Done}
use Rattle.book.specs.Sound.{Sound}
use Rattle.rules.specs.declared.parts.Origin.{Origin}
use Rattle.rules.specs.declared.parts.Origin.TheVariants.{Bound, Start, Check}
use Rattle.rules.specs.Rules.{Keeps, Kept, Least, at, no_rule}
use Rattle.grades.specs.Grades.{Minutes, KeepsBound, Strong}
use Rattle.grades.specs.Systems.{holds, rule_of, strong_system, strong_reads}
use Rattle.grades.specs.Theorems.{Alike, StrongTheorem, StrongTables}
use Rattle.book.proofs.Bits.{bit-bit_or}
use Rattle.grades.proofs.Bits.{bit_cut}
use Rattle.grades.proofs.Lists.{every_at, at_every, every_like, every_map, map_every}
use Rattle.grades.proofs.Tests.{Due}
use Rattle.grades.proofs.Props.{Here, Holding, holding, held_all, kept_hold, hold_kept}
use Rattle.grades.proofs.Strategies.{start_done, check_done, strategy_of}
use Rattle.grades.proofs.Single.{Single, lowered, lowered_keeps, lowered_zero, least_zero}

-- every bound counts, and every job
abbrev pub Any : ℕ → Type 0
Any j = Unit {0}

any_due : (b : Plain) (o : Origin) → Due b Any Any o
any_due b (Bound i) = tt
any_due b (Start j) = (tt, tt)
any_due b (Check c j) = (tt, tt)

module _ (b : Plain) (sound : Sound b) where
  -- a case that does two jobs that do not exclude each other: yes where one of them wants yes
  both : ℕ → ℕ → ℕ
  both i j = bit_or (job b i).label.yes (job b j).label.yes % 2 ^ checks b

  both_case : (i j : ℕ) → Case b (both i j)
  unfolding both
  both_case i j = mod_below (bit_or (job b i).label.yes (job b j).label.yes) (2 ^ checks b) (pow_pos (checks b))

  both_bit : (i j c : ℕ) → c < checks b → bit (both i j) c ≡ max (bit (job b i).label.yes c) (bit (job b j).label.yes c)
  unfolding both
  both_bit i j c h =
      bit_cut (checks b) c (bit_or (job b i).label.yes (job b j).label.yes) h ∙ bit-bit_or (job b i).label.yes (job b j).label.yes c

  -- a check that a label names is one of the book's
  named : (j : ℕ) → j < length b.jobs → (c : ℕ) → Names (job b j).label c → c < checks b
  named j h c n = ((sound.each_job j h).known c n).0

  both_first : (i j : ℕ) → i < length b.jobs → (Exclude (job b i).label (job b j).label → ⊥) → Done b (both i j) i
  both_first i j h apart c l = (
    λ y. omega (arith, both_bit i j c (named i h c (inl y))),
    λ n.
        let p : WantsYes (job b i).label c → ⊥ = λ y. (sound.each_job i h).one_way c y n in
        let q : WantsYes (job b j).label c → ⊥ = λ y. apart (c, l, inr (n, y)) in
        omega (arith, both_bit i j c (named i h c (inr n))),
  )

  both_second : (i j : ℕ) → j < length b.jobs → (Exclude (job b i).label (job b j).label → ⊥) → Done b (both i j) j
  both_second i j h apart c l = (
    λ y. omega (arith, both_bit i j c (named j h c (inl y))),
    λ n.
        let p : WantsYes (job b j).label c → ⊥ = λ y. (sound.each_job j h).one_way c y n in
        let q : WantsYes (job b i).label c → ⊥ = λ y. apart (c, l, inl (y, n)) in
        omega (arith, both_bit i j c (named j h c (inr n))),
  )

  not_apart : (j : ℕ) → j < length b.jobs → Exclude (job b j).label (job b j).label → ⊥
  not_apart j h (c, l, inl (y, n)) = (sound.each_job j h).one_way c y n
  not_apart j h (c, l, inr (n, y)) = (sound.each_job j h).one_way c y n

  -- some case does each job
  own_done : (j : ℕ) → j < length b.jobs → Done b (both j j) j
  own_done j h = both_first j j h (not_apart j h)

  into : (table : List ℕ) → Keeps (strong_system b) table → Holding b Any Any (λ j. at table j)
  into table keeps =
      holding b Any Any (λ j. at table j)
      (every_like (λ h. Kept table (rule_of (λ j. j) h)) (Here b Any Any (λ j. at table j)) (λ h k _. kept_hold table (λ j. j) h k) (holds b)
      (map_every (Kept table) (rule_of (λ j. j)) (holds b)
      (at_every (Kept table) (map (rule_of (λ j. j)) (holds b)) no_rule keeps.each)))

  back : (table : List ℕ) → length table ≡ length b.jobs → Holding b Any Any (λ j. at table j) → Keeps (strong_system b) table
  back table sized k = record {
    sized = sized;
    each = every_at (Kept table) (map (rule_of (λ j. j)) (holds b)) no_rule
        (every_map (Kept table) (rule_of (λ j. j)) (holds b)
        (every_like (Here b Any Any (λ j. at table j)) (λ h. Kept table (rule_of (λ j. j) h))
        (λ h k. hold_kept table (λ j. j) h (k (any_due b h.origin))) (holds b)
        (held_all b Any Any (λ j. at table j) k)));
  }

  single : Single b Any Any (strong_system b)
  single = record { joins = λ i p. (tt, tt); start = tt; into = into; back = back }

  from_zero : (table : List ℕ) → Least (strong_system b) table → at table 0 ≡ 0
  from_zero = least_zero b sound Any Any (strong_system b) single

  tables_are : (table : List ℕ) → Keeps (strong_system b) table → at table 0 ≡ 0 → Strong b (strong_reads table)
  tables_are table keeps zero =
      let k = into table keeps in
      record {
        strategy = strategy_of b sound (strong_reads table) (λ s h. record {
          bounds = λ i l p. k.bounds i l tt;
          start = λ j i p q. k.start j i tt tt;
          label = λ j i c l n p q. k.label j i c l n tt tt;
        }) (λ s h. zero);
        same = λ s t h g j i p q. refl;
      }

  row : Minutes → List ℕ
  row M = map (λ j. M (both j j) j) (range_with_len 0 (length b.jobs))

  row_own : (M : Minutes) (j : ℕ) → j < length b.jobs → at (row M) j ≡ M (both j j) j
  unfolding row
  row_own M j h = get_or-map-range_with_len (λ i. M (both i i) i) 0 (length b.jobs) j j 0 h (omega arith)

  row_length : (M : Minutes) → length (row M) ≡ length b.jobs
  unfolding row
  row_length M = length-map-range_with_len (λ i. M (both i i) i) 0 (length b.jobs)

  row_at : (M : Minutes) → Strong b M → Alike b (strong_reads (row M)) M
  row_at M d s h j i p = row_own M j i ∙ d.same (both j j) s (both_case j j) h j i (own_done j i) p

  row_bound : (M : Minutes) → Strong b M → (i : ℕ) → i < length b.bounds → KeepsBound (bound b i) (λ j. at (row M) j)
  row_bound M d i l =
      let x = sound.each_bound i l in
      let f = (bound b i).first in
      let g = (bound b i).second in
      let s = both f g in
      let c = both_case f g in
      let df = both_first f g x.first_in x.together in
      let dg = both_second f g x.second_in x.together in
      rw (row_at M d s c f x.first_in df, row_at M d s c g x.second_in dg) (d.strategy.bounds s c i l (df, dg))

  row_holding : (M : Minutes) → Strong b M → Holding b Any Any (λ j. at (row M) j)
  row_holding M d = record {
    bounds = λ i l p. row_bound M d i l;
    start = λ j i p q.
        let s = both j j in
        let c = both_case j j in
        let own = own_done j i in
        omega (arith, row_at M d s c j i own, row_at M d s c 0 sound.some (start_done b sound s), d.strategy.not_before s c j i own);
    label = λ j i k l n p q.
        let s = both j j in
        let c = both_case j j in
        let own = own_done j i in
        let at_check = row_at M d s c (asking b k) (sound.asked k l).0 (check_done b sound s j i own k n) in
        omega (arith, row_at M d s c j i own, at_check, d.strategy.after_checks s c j i own k n);
  }

  are_tables : (M : Minutes) → Strong b M → (table : List ℕ) × Keeps (strong_system b) table × (at table 0 ≡ 0) × Alike b (strong_reads table) M
  are_tables M d =
      let s = both 0 0 in
      let c = both_case 0 0 in
      (row M, back (row M) (row_length M) (row_holding M d), row_at M d s c 0 sound.some (start_done b sound s) ∙ d.strategy.start s c, row_at M d)

  all : StrongTheorem b
  all = record {
    tables_are = tables_are;
    are_tables = are_tables;
    least_from_zero = from_zero;
    least_is_earliest = λ table l. record {
      good = tables_are table l.keeps (from_zero table l);
      first = λ other w s h j i p. let t = are_tables other w in omega (arith, l.least t.0 t.1 j, t.3 s h j i p);
    };
    verdict = (
      λ t.
          let keeps = lowered_keeps b sound Any Any (strong_system b) single t.0 t.1 in
          let zero = lowered_zero b sound Any Any (strong_system b) single t.0 in
          (strong_reads (lowered t.0), tables_are (lowered t.0) keeps zero),
      λ w. let t = are_tables w.0 w.1 in (t.0, t.1),
    );
  }

pub strong_tables : StrongTables
strong_tables = all
