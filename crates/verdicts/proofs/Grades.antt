-- From the tables of a grade's rules to its strategies, as the minutes list has them.
use Rattle.std.proofs.Common.{◌≡◌, ℕ, suc, ◌+◌, ◌*◌, ◌<◌, ◌≤◌, cond, eqb, List, [], ◌∷◌, ◌++◌, map, length, get_or, take, drop, replicate}
use Rattle.std.proofs.Common.{ℤ, pos, negsuc, Ok, Result, sym, ap, ◌∙◌, subst, ⊎_elim, mul-le-mul_right, suc-mul, mul-le-mul, mul-zero}
use Rattle.std.proofs.Common.{zero-add, arith, pow_mono}
use lib.ListN.{length-map}
use Rattle.std.proofs.lemmas.List.{get_or_append_left, get_or-map, get_or-take, get_or-drop}
use Rattle.std.proofs.lemmas.Bool.{cases_lt}
use Rattle.std.proofs.lemmas.Bool.Decides.{nat_tests}
use Rattle.book.specs.Done.{done}
use Rattle.book.specs.Plain.{Plain, Case, cases}
use Rattle.book.specs.Sound.{Sound}
use Rattle.rules.specs.Rules.{System, Least, at}
use Rattle.rules.specs.declared.parts.Origin.{Origin}
use Rattle.find.specs.declared.answers.Explained.{Explained}
use Rattle.find.specs.declared.answers.Explained.TheVariants as explained
use Rattle.find.specs.declared.answers.Found.{Found}
use Rattle.find.specs.declared.answers.Found.TheVariants as found
use Rattle.find.specs.declared.answers.Refusal.{Refusal}
use Rattle.find.specs.declared.answers.Refusal.TheVariants.{MinutesShort, LoopShort}
use Rattle.find.specs.Answers.{Finds, Explains, Looped, TooShort}
use Rattle.grades.specs.Grades.{Minutes, Strong, Weak, Dynamic}
use Rattle.grades.specs.Systems.{strong_system, weak_system, dynamic_system, strong_origins, weak_origins, strong_reads, weak_reads, reads, listed}
use Rattle.grades.proofs.Strong.{strong_tables}
use Rattle.grades.proofs.Weak.{weak_tables}
use Rattle.grades.proofs.Dynamic.{dynamic_tables}
use Rattle.verdicts.specs.declared.answers.StrongAnswer.{StrongAnswer}
use Rattle.verdicts.specs.declared.answers.DynamicAnswer.{DynamicAnswer}
use Rattle.verdicts.specs.Filling.{blocks, StrongEnds, DynamicEnds, WeakTables}
use Rattle.verdicts.specs.Searches.{part}
use Rattle.verdicts.specs.Verdicts.{size, ListsEarliest, NoStrategy, LowestFailing, StrongSays, DynamicSays}
use Rattle.verdicts.proofs.Blocks.{each_same, read_found}

-- the blocks of a table that has the minutes of a strategy are what the strategy lists
same_blocks : (b : Plain) (found : List ℤ) (apart : ℕ) (minute : Minutes) →
    ((s : ℕ) → s < cases b → (j : ℕ) → j < length b.jobs → get_or found (s * apart + j) (pos 0) ≡ pos (minute s j)) →
    blocks b found apart ≡ listed b minute
same_blocks b found apart minute read =
    each_same (cases b) _ _
    (λ s h. each_same (length b.jobs) _ _ (λ j k. ap (λ z. cond (done b s j) z (negsuc 0) ∷ []) (read s h j k)))

-- an answer of the search, at the rules, the origins and the answer that it is known to be for
pub means : {m k : System} {from to : List Origin} (before after : List ℤ) (loops loops_after : List Origin) {r q : Result Explained Refusal} →
    m ≡ k → from ≡ to → r ≡ q → Explains m from before after loops loops_after r → Explains k to before after loops loops_after q
means {k = k} {from = from} {to = to} before after loops loops_after {r = r} e f g x =
    subst (λ a. Explains k to before after loops loops_after a) g
    (subst (λ os. Explains k os before after loops loops_after r) f (subst (λ m. Explains m from before after loops loops_after r) e x))

-- the tables of the cases below s, and that of s
below : (t s : ℕ) (x y : List ℕ) → t < s → cond (eqb t s) x y ≡ y
below t s x y h = grind (arith, nat_tests)

here : (s : ℕ) (x y : List ℕ) → cond (eqb s s) x y ≡ x
here s x y = grind (arith, nat_tests)

module _ (b : Plain) (sound : Sound b) where
  -- the numbers that a search writes over zeros
  over_zeros : (places k : ℕ) (table : List ℕ) (found : List ℤ) → length table ≡ places →
      found ≡ map pos table ++ drop places (replicate k (pos 0)) → (j : ℕ) → get_or found j (pos 0) ≡ pos (at table j)
  over_zeros places k table found sized e j =
      ap (λ xs. get_or xs j (pos 0)) (e ∙ ap (λ n. map pos table ++ drop n (replicate k (pos 0))) (sym sized)) ∙ read_found table k j

  -- what the search of the strong rules comes to makes the verdict
  pub strong_ends : (answer : Explained) (before after found : List ℤ) (loops loops_after : List Origin) (r : StrongAnswer) →
      Explains (strong_system b) (strong_origins b) (replicate 20 (pos 0)) found loops loops_after (Ok answer) →
      StrongEnds answer b found before after r → StrongSays b before after loops loops_after r
  strong_ends explained.Table before after found loops loops_after r (_, _, (table, least, e), same) (is, out) =
      let read = over_zeros (length b.jobs) 20 table found least.keeps.sized e in
      let listing = same_blocks b found 0 (strong_reads table) (λ s h j k. rw (mul-zero s, zero-add j) (read j)) in
      let earliest = (strong_tables b sound).least_is_earliest table least in
      subst (StrongSays b before after loops loops_after) (sym is)
      ((strong_reads table, earliest, out ∙ ap (λ xs. xs ++ drop (size b) before) listing), same)
  strong_ends (explained.Loop n) before after found loops loops_after r (_, _, none, _, looped) (is, out) =
      let no_strategy : NoStrategy (Strong b) =
      λ minute d. let (table, keeps) = (strong_tables b sound).verdict.1 (minute, d) in none table keeps in
      subst (StrongSays b before after loops loops_after) (sym is) (no_strategy, looped, out)

  -- a table of 320 numbers has room for the jobs of every case
  pub part_fits : (s : ℕ) → Case b s → part b s + length b.jobs ≤ 320
  part_fits s h =
      let few : cases b ≤ 16 = pow_mono sound.few_checks in
      let some : suc s ≤ 16 = omega arith in
      omega (arith, mul-le-mul some sound.few_jobs, suc-mul s (length b.jobs))

  pub size_fits : size b ≤ 320
  size_fits = let few : cases b ≤ 16 = pow_mono sound.few_checks in omega (arith, mul-le-mul few sound.few_jobs)

  -- there is always room for the search of the rules of a job's one place
  pub never_short : (m : System) (minutes records : ℕ) (e : Refusal) → m.places ≡ length b.jobs → length b.jobs ≤ minutes → 20 ≤ records →
      TooShort m minutes records e → ⊥
  never_short m minutes records MinutesShort p h k short = omega arith
  never_short m minutes records LoopShort p h k (_, short) = omega (arith, sound.few_jobs)

  -- what the search of the dynamic rules comes to makes the verdict
  pub dynamic_ends : (answer : Found) (before after found : List ℤ) (r : DynamicAnswer) →
      Finds (dynamic_system b) (replicate 320 (pos 0)) found (Ok answer) → DynamicEnds answer b found before after r → DynamicSays b before after r
  dynamic_ends found.Table before after found r (_, (table, least, e)) (is, out) =
      let read = over_zeros (size b) 320 table found least.keeps.sized e in
      let listing = same_blocks b found (length b.jobs) (reads b table) (λ s h j k. read (s * length b.jobs + j)) in
      let earliest = (dynamic_tables b sound).least_is_earliest table least in
      subst (DynamicSays b before after) (sym is) (reads b table, earliest, out ∙ ap (λ xs. xs ++ drop (size b) before) listing)
  dynamic_ends found.NoTable before after found r (_, none, _) (is, out) =
      let no_strategy : NoStrategy (Dynamic b) =
      λ minute d. let (table, keeps) = (dynamic_tables b sound).verdict.1 (minute, d) in none table keeps in
      subst (DynamicSays b before after) (sym is) (no_strategy, out)

  -- the searches of the weak rules, case by case
  pub weak_listed : (before after found : List ℤ) → WeakTables b (cases b) found →
      after ≡ blocks b found (length b.jobs) ++ drop (size b) before → ListsEarliest b (Weak b) before after
  weak_listed before after found all out =
      let listing = same_blocks b found (length b.jobs) (weak_reads all.tables) all.read in
      (weak_reads all.tables, (weak_tables b sound).least_is_earliest all.tables all.least, out ∙ ap (λ xs. xs ++ drop (size b) before) listing)

  pub weak_loop : (s : ℕ) (minutes found found_after : List ℤ) (loops loops_after : List Origin) (n : ℕ) → Case b s → WeakTables b s minutes →
      Explains (weak_system b s) (weak_origins b s) found found_after loops loops_after (Ok (explained.Loop n)) →
      NoStrategy (Weak b) × LowestFailing b s × Looped (weak_system b s) (weak_origins b s) loops loops_after n
  weak_loop s minutes found found_after loops loops_after n h lower (_, _, none, _, looped) = (
    λ minute d. let (table, keeps) = (weak_tables b sound).verdict.1 (minute, d) s h in none table keeps,
    record { is = h; fails = none; lower = λ t l. (lower.tables t, (lower.least t l).keeps) },
    looped,
  )

  pub weak_starts : (found : List ℤ) → WeakTables b 0 found
  weak_starts found = record { tables = λ s. []; least = λ s h. absurd (omega arith); read = λ s h. absurd (omega arith) }

  -- one case more: the search has written its table over the list from the case's place on
  pub weak_more : (s : ℕ) (minutes after : List ℤ) (loops loops_after : List Origin) → WeakTables b s minutes →
      Explains (weak_system b s) (weak_origins b s) (drop (part b s) minutes) (drop (part b s) after) loops loops_after (Ok explained.Table) →
      take (part b s) after ≡ take (part b s) minutes → WeakTables b (s + 1) after
  weak_more s minutes after loops loops_after all (_, _, (table, least, e), same) front = record {
    tables = λ t. cond (eqb t s) table (all.tables t);
    least = λ t h. ⊎_elim (λ (l : t < s). old_least t l) (λ (l : s ≤ t). new_least t (omega arith)) (cases_lt t s);
    read = λ t h j k. ⊎_elim (λ (l : t < s). old_read t l j k) (λ (l : s ≤ t). new_read t (omega arith) j k) (cases_lt t s);
  }
    where
      old_least : (t : ℕ) → t < s → Least (weak_system b t) (cond (eqb t s) table (all.tables t))
      old_least t l = subst (Least (weak_system b t)) (sym (below t s table (all.tables t) l)) (all.least t l)

      new_least : (t : ℕ) → s ≡ t → Least (weak_system b t) (cond (eqb t s) table (all.tables t))
      new_least t q =
          subst (λ u. Least (weak_system b u) (cond (eqb u s) table (all.tables u))) q
          (subst (Least (weak_system b s)) (sym (here s table (all.tables s))) least)

      old_read : (t : ℕ) → t < s → (j : ℕ) → j < length b.jobs →
          get_or after (t * length b.jobs + j) (pos 0) ≡ pos (at (cond (eqb t s) table (all.tables t)) j)
      old_read t l j k =
          let n = length b.jobs in
          let part : suc t * n ≤ s * n = mul-le-mul_right n l in
          let i : t * n + j < s * n = omega (arith, suc-mul t n) in
          sym (get_or-take (s * n) after (t * n + j) (pos 0) i)
          ∙ (ap (λ xs. get_or xs (t * n + j) (pos 0)) front
          ∙ (get_or-take (s * n) minutes (t * n + j) (pos 0) i
          ∙ (all.read t l j k ∙ ap (λ xs. pos (at xs j)) (sym (below t s table (all.tables t) l)))))

      new_read : (t : ℕ) → s ≡ t → (j : ℕ) → j < length b.jobs →
          get_or after (t * length b.jobs + j) (pos 0) ≡ pos (at (cond (eqb t s) table (all.tables t)) j)
      new_read t q j k =
          let n = length b.jobs in
          let j_in : j < length table = omega (arith, least.keeps.sized) in
          let j_on : j < length (map pos table) = rw (length-map table pos) j_in in
          let at_s : get_or after (s * n + j) (pos 0) ≡ pos (at table j) =
          sym (get_or-drop (s * n) after j (pos 0))
          ∙ (ap (λ xs. get_or xs j (pos 0)) e ∙ (get_or_append_left (map pos table) _ (pos 0) j j_on ∙ get_or-map pos table j 0 (pos 0) j_in)) in
          subst (λ u. get_or after (u * n + j) (pos 0) ≡ pos (at (cond (eqb u s) table (all.tables u)) j)) q
          (at_s ∙ ap (λ xs. pos (at xs j)) (sym (here s table (all.tables s))))
