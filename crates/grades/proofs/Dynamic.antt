-- The tables of the dynamic system are the dynamic strategies.
use Rattle.std.proofs.Common.{◌≡◌, ℕ, ◌+◌, ◌-◌, ◌*◌, ◌/◌, ◌%◌, ◌<◌, ◌≤◌, cond, ◌⊎◌, List, map, length, sym, ap, ◌∙◌, ap₂, inl, inr, arith}
use native.Mathlib.Decide.{ℕ_discrete}
use lib.Arith.{digits_lt}
use lib.ListN.{length-map}
use Rattle.std.specs.List.{range_with_len}
use Rattle.std.proofs.lemmas.Nat.{div-mul-add, mod-mul-add, pow_pos}
use Rattle.std.proofs.lemmas.List.FromFn.{get_or-map-range_with_len, length-map-range_with_len}
use Rattle.book.specs.Labels.{bit, names, Names}
use Rattle.book.specs.Plain.{Plain, job, checks, cases, asking, Done}
use Rattle.book.specs.Sound.{Sound}
use Rattle.book.specs.Done.{done}
use Rattle.rules.specs.Rules.{Keeps, Least, at}
use Rattle.grades.specs.Grades.{Minutes, delay, Counts, Agrees, Dynamic}
use Rattle.grades.specs.Systems.{place, dynamic_system, reads, FromZero}
use Rattle.grades.specs.Theorems.{Alike, DynamicTheorem, DynamicTables, GradesInOrder}
use Rattle.grades.proofs.Core.{Tells, look, settled, waiting}
use Rattle.book.proofs.Tests.{dec_of, dec_done, done_decides, names_decides}
use Rattle.grades.proofs.Strategies.{start_done, check_done, strategy_of, holding_of, lower_holding, at_lowered}
use Rattle.grades.proofs.Props.{Holding, Dynamically, Waiting, delay_some, keeps_dynamically, dynamically_keeps}

abbrev Telling : Plain → Minutes → ℕ → ℕ → ℕ → Type 0
Telling b M s t c = Tells (checks b) bit (asking b) (delay b) (delay_some b) (Done b) M s t c

abbrev Splits : Plain → ℕ → ℕ → ℕ → ℕ → Type 0
Splits b s t c d = (bit t d ≡ bit s d → ⊥) × Names (job b (asking b c)).label d

module _ (b : Plain) (sound : Sound b) where
  -- a check done in t and not in s has in its label a check that tells the two apart
  earlier : (M : Minutes) (s t : ℕ) → Holding b (Counts b t) (Done b t) (M t) → (c : ℕ) → Telling b M t s c → (Done b s (asking b c) → ⊥)
      → (d : ℕ) × Telling b M t s d × (M t (asking b d) + delay b d ≤ M t (asking b c))
  earlier M s t hold c tells undone = go (look (checks b) (Splits b s t c) dec)
    where
      dec : (d : ℕ) → Dec (Splits b s t c d)
      dec d = by (ℕ_discrete (bit t d) (bit s d)) (dec_of (names (job b (asking b c)).label d) (names_decides (job b (asking b c)).label d))
        where
          by : Dec (bit t d ≡ bit s d) → Dec (Names (job b (asking b c)).label d) → Dec (Splits b s t c d)
          by (yes e) n = no (λ x. x.0 e)
          by (no e) (yes n) = yes (e, n)
          by (no e) (no n) = no (λ x. n x.1)

      same : ((d : ℕ) → d < checks b → Splits b s t c d → ⊥) → (d : ℕ) → Names (job b (asking b c)).label d → bit t d ≡ bit s d
      same none d n = by (ℕ_discrete (bit t d) (bit s d))
        where
          by : Dec (bit t d ≡ bit s d) → bit t d ≡ bit s d
          by (yes e) = e
          by (no e) = absurd (none d ((sound.each_job (asking b c) (sound.asked c tells.is).0).known d n).0 (e, n))

      go : ((d : ℕ) × (d < checks b) × Splits b s t c d) ⊎ ((d : ℕ) → d < checks b → Splits b s t c d → ⊥)
          → (d : ℕ) × Telling b M t s d × (M t (asking b d) + delay b d ≤ M t (asking b c))
      go (inl (d, h, p)) =
          let i = (sound.asked c tells.is).0 in
          let does = check_done b sound t (asking b c) i tells.does d p.1 in
          (d, record { is = h; apart = p.0; does = does }, hold.label (asking b c) i d h p.1 tells.does does)
      go (inr none) =
          absurd (undone (λ d h. (λ y. sym (same none d (inl y)) ∙ (tells.does d h).0 y, λ z. sym (same none d (inr z)) ∙ (tells.does d h).1 z)))

  -- the rules give the grade
  to_dynamic : (M : Minutes) → Dynamically b M → ((s : ℕ) → s < cases b → M s 0 ≡ 0) → Dynamic b M
  to_dynamic M k from = record {
    strategy = strategy_of b sound M k.inside from;
    same = λ s t h g j i p q a. by s t h g j i p q a (ℕ_discrete s t);
  }
    where
      one : (s t : ℕ) → s < cases b → t < cases b → (s ≡ t → ⊥) → (j : ℕ) → j < length b.jobs → Done b s j → Done b t j → Agrees b M t s j → M s j ≡ M t j
      one s t h g ne j i p q agrees =
          let back : t ≡ s → ⊥ = λ e. ne (sym e) in
          settled (checks b) bit (asking b) (delay b) (delay_some b) (Done b) M s t j (dec_done b s)
          (k.across s t h g ne j i p q) (k.across t s g h back j i q p)
          (λ c w d. k.across t s g h back (asking b c) (sound.asked c w.is).0 w.does d)
          (earlier M s t (k.inside t g))
          (λ c l d m. agrees c (record { is = l; done = d; before = m }))

      by : (s t : ℕ) → s < cases b → t < cases b → (j : ℕ) → j < length b.jobs → Done b s j → Done b t j
          → (Agrees b M t s j ⊎ Agrees b M s t j) → Dec (s ≡ t) → M s j ≡ M t j
      by s t h g j i p q a (yes e) = ap (λ x. M x j) e
      by s t h g j i p q (inl a) (no ne) = one s t h g ne j i p q a
      by s t h g j i p q (inr a) (no ne) = sym (one t s g h (λ e. ne (sym e)) j i q p a)

  -- the grade gives the rules
  from_dynamic : (M : Minutes) → Dynamic b M → Dynamically b M
  from_dynamic M d = record {
    inside = holding_of b M d.strategy;
    across = λ s t h g ne j i p q.
        waiting (checks b) bit (asking b) (delay b) (delay_some b) (Done b) M s t j (dec_done b s)
        (λ agree. d.same s t h g j i p q (inl (λ c known. agree c known.is known.done known.before)));
  }

  -- minutes that lie lower by one number at each job done keep the rules still
  lower : (M N : Minutes) (low : ℕ) → ((s : ℕ) → s < cases b → (j : ℕ) → j < length b.jobs → Done b s j → N s j + low ≡ M s j)
      → Dynamically b M → Dynamically b N
  lower M N low e k = record {
    inside = λ s h. lower_holding b sound (Counts b s) (Done b s) (λ i p. p) (M s) (N s) low (e s h) (k.inside s h);
    across = λ s t h g ne j i p q. moved s t h g j i p q (k.across s t h g ne j i p q);
  }
    where
      moved : (s t : ℕ) → s < cases b → t < cases b → (j : ℕ) → j < length b.jobs → Done b s j → Done b t j → Waiting b M s t j → Waiting b N s t j
      moved s t h g j i p q (inl l) = inl (omega (arith, e s h j i p, e t g j i q))
      moved s t h g j i p q (inr (c, w, l)) =
          inr (c, record { is = w.is; apart = w.apart; does = w.does }, omega (arith, e s h j i p, e s h (asking b c) (sound.asked c w.is).0 w.does))

  -- all starts are at one minute
  start_after : (M : Minutes) → Dynamically b M → (s t : ℕ) → s < cases b → t < cases b → M t 0 ≤ M s 0
  start_after M k s t h g = by (ℕ_discrete s t)
    where
      waits : Waiting b M s t 0 → M t 0 ≤ M s 0
      waits (inl l) = l
      waits (inr (c, w, l)) =
          let after = (k.inside s h).start (asking b c) (sound.asked c w.is).0 w.does (start_done b sound s) in
          absurd (omega (arith, after, delay_some b c))

      by : Dec (s ≡ t) → M t 0 ≤ M s 0
      by (yes e) = rw e (omega arith)
      by (no ne) = waits (k.across s t h g ne 0 sound.some (start_done b sound s) (start_done b sound t))

  -- minutes as a table: 0 at the jobs not done
  shown_at : Minutes → ℕ → ℕ → ℕ
  shown_at M s j = cond (done b s j) (M s j) 0

  written : Minutes → List ℕ
  written M = map (λ p. shown_at M (p / length b.jobs) (p % length b.jobs)) (range_with_len 0 (cases b * length b.jobs))

  written_length : (M : Minutes) → length (written M) ≡ cases b * length b.jobs
  unfolding written
  written_length M = length-map-range_with_len (λ p. shown_at M (p / length b.jobs) (p % length b.jobs)) 0 (cases b * length b.jobs)

  reads_written : (M : Minutes) → Alike b (reads b (written M)) M
  unfolding written shown_at
  reads_written M s h j i p =
      let n = length b.jobs in
      get_or-map-range_with_len (λ q. shown_at M (q / n) (q % n)) 0 (cases b * n) (place b s j) (place b s j) 0 (digits_lt h i) (omega arith)
      ∙ (ap₂ (shown_at M) (div-mul-add s n j i) (mod-mul-add s n j i) ∙ ap (λ r. cond r (M s j) 0) ((done_decides b s j).1 p))

  tables_are : (table : List ℕ) → Keeps (dynamic_system b) table → FromZero b table → Dynamic b (reads b table)
  tables_are table keeps from = to_dynamic (reads b table) (keeps_dynamically b table keeps) from

  are_tables : (M : Minutes) → Dynamic b M → (table : List ℕ) × Keeps (dynamic_system b) table × FromZero b table × Alike b (reads b table) M
  are_tables M d = (
    written M,
    dynamically_keeps b (written M) (written_length M)
        (lower M (reads b (written M)) 0 (λ s h j i p. omega (arith, reads_written M s h j i p)) (from_dynamic M d)),
    λ s h. reads_written M s h 0 sound.some (start_done b sound s) ∙ d.strategy.start s h,
    reads_written M,
  )

  -- the table lowered by the minute of its starts
  lowered : List ℕ → List ℕ
  lowered table = map (λ v. v - at table (place b 0 0)) table

  lowered_keeps : (table : List ℕ) → Keeps (dynamic_system b) table → Keeps (dynamic_system b) (lowered table) × FromZero b (lowered table)
  unfolding lowered
  lowered_keeps table keeps =
      let low = at table (place b 0 0) in
      let M = reads b table in
      let k = keeps_dynamically b table keeps in
      let first : 0 < cases b = pow_pos (checks b) in (
        dynamically_keeps b (lowered table) (length-map table (λ v. v - low) ∙ keeps.sized)
            (lower M (reads b (lowered table)) low (λ s h j i p.
            let after = (k.inside s h).start j i p (start_done b sound s) in
            omega (arith, at_lowered table low (place b s j), start_after M k s 0 h first, after)) k),
        λ s h. omega (arith, at_lowered table low (place b s 0), start_after M k 0 s first h),
      )

  from_zero : (table : List ℕ) → Least (dynamic_system b) table → FromZero b table
  from_zero table least s h =
      let l = lowered_keeps table least.keeps in omega (arith, least.least (lowered table) l.0 (place b s 0), l.1 s h)

  all : DynamicTheorem b
  all = record {
    tables_are = tables_are;
    are_tables = are_tables;
    least_from_zero = from_zero;
    least_is_earliest = λ table l. record {
      good = tables_are table l.keeps (from_zero table l);
      first = λ other w s h j i p. let t = are_tables other w in omega (arith, l.least t.0 t.1 (place b s j), t.3 s h j i p);
    };
    verdict = (
      λ t. let l = lowered_keeps t.0 t.1 in (reads b (lowered t.0), tables_are (lowered t.0) l.0 l.1),
      λ w. let t = are_tables w.0 w.1 in (t.0, t.1),
    );
  }

pub dynamic_tables : DynamicTables
dynamic_tables = all

pub grades_in_order : GradesInOrder
grades_in_order b M = (λ d. record { strategy = d.strategy; same = λ s t h g j i p q a. d.same s t h g j i p q }, λ d. d.strategy)
