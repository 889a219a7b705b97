-- A sound plain book with one job more is sound.
use Rattle.std.proofs.Common.{◌≡◌, ℕ, ◌+◌, ◌<◌, ◌≤◌, cond, not, [], ◌∷◌, length, Some, None, Option, sym, refl, ap, ◌∙◌, subst, arith}
use native.Mathlib.Decide.{dec_lt}
use Rattle.std.proofs.lemmas.List.{get_or_append_left, get_or_push, length_push}
use Rattle.std.proofs.lemmas.Bool.Decides.{Decides-eqb}
use Rattle.book.specs.declared.parts.Label.{Label}
use Rattle.book.specs.declared.parts.Job.{Job}
use Rattle.book.specs.declared.parts.Bound.{Bound}
use Rattle.book.specs.Labels.{Names, WantsYes, WantsNo, Contains, Exclude}
use Rattle.book.specs.Plain.{Plain, job, bound, checks, asking, no_job, with_job}
use Rattle.book.specs.Sound.{Sound, SoundJob, SoundBound}
use Rattle.book.proofs.Checks.{one_if_check, place, count_push, place_push, place_past, place_found}

-- what a new job, with its check number if any, has to fit
pub record Fits (b : Plain) (l : Label) (o : Option ℕ) : Type 0 where
  pub room : length b.jobs < 20
  pub few : checks b + one_if_check o ≤ 4
  pub fresh : (c : ℕ) → o ≡ Some c → c ≡ checks b
  pub known : (c : ℕ) → Names l c → c < checks b
  pub one_way : (c : ℕ) → WantsYes l c → WantsNo l c → ⊥
  pub whole : (c : ℕ) → Names l c → Contains l (job b (asking b c)).label

last_check : (o : Option ℕ) (n c : ℕ) → ((d : ℕ) → o ≡ Some d → d ≡ n) → c < n + one_if_check o → n ≤ c → o ≡ Some c
last_check None n c f h k = absurd (omega arith)
last_check (Some d) n c f h k = let e = f d refl in ap Some (omega arith)

found_last : (o : Option ℕ) (l : Label) (c : ℕ) → o ≡ Some c → place (record { label = l; check = o } ∷ []) c ≡ 0
found_last None l c e = let z : ◌≡◌ {A = ℕ} 0 1 = cc in absurd (omega arith)
found_last (Some d) l c e = let f : d ≡ c = cc in ap (λ t. cond (not t) 1 0) ((Decides-eqb d c).1 f)

module _ (b : Plain) (l : Label) (o : Option ℕ) (sound : Sound b) (fits : Fits b l o) where
  new : Job
  new = record { label = l; check = o }

  grown : Plain
  grown = with_job b new

  old_job : (j : ℕ) → j < length b.jobs → job grown j ≡ job b j
  unfolding grown
  old_job j h = get_or_append_left b.jobs (new ∷ []) no_job j h

  new_job : job grown (length b.jobs) ≡ new
  unfolding grown
  new_job = get_or_push b.jobs new no_job (length b.jobs) refl

  longer : length grown.jobs ≡ length b.jobs + 1
  unfolding grown
  longer = length_push b.jobs new

  counted_on : checks grown ≡ checks b + one_if_check o
  unfolding grown new
  counted_on = count_push b.jobs new

  old_place : (c : ℕ) → asking b c < length b.jobs → asking grown c ≡ asking b c
  unfolding grown
  old_place c h = place_push b.jobs (new ∷ []) c h

  old_asking : (c : ℕ) → c < checks b → asking grown c ≡ asking b c
  old_asking c h = old_place c (sound.asked c h).0

  new_asking : (c : ℕ) → o ≡ Some c → asking grown c ≡ length b.jobs
  unfolding grown new
  new_asking c e = by (dec_lt (asking b c) (length b.jobs))
    where
      by : Dec (asking b c < length b.jobs) → asking grown c ≡ length b.jobs
      by (yes h) =
          let k = ((sound.each_job (asking b c) h).counted c (place_found b.jobs c no_job h)).0 in
          let f = fits.fresh c e in
          absurd (omega arith)
      by (no h) =
          let p = place_past b.jobs (new ∷ []) c (omega arith) in
          let q = found_last o l c e in
          p ∙ (ap (λ n. length b.jobs + n) q ∙ omega arith)

  -- the job that asks a known check is the same as before
  same_asked : (c : ℕ) → c < checks b → job grown (asking grown c) ≡ job b (asking b c)
  same_asked c h = ap (λ j. job grown j) (old_asking c h) ∙ old_job (asking b c) (sound.asked c h).0

  old_sound : (j : ℕ) → j < length b.jobs → SoundJob grown j
  old_sound j h =
      let s = sound.each_job j h in
      let e = old_job j h in
      let named : (c : ℕ) → Names (job grown j).label c → Names (job b j).label c = λ c n. subst (λ (x : Job). Names x.label c) e n in
      record {
        counted = λ c q. (
          omega (arith, counted_on, (s.counted c (sym (ap (λ (x : Job). x.check) e) ∙ q)).0),
          let k = s.counted c (sym (ap (λ (x : Job). x.check) e) ∙ q) in old_asking c k.0 ∙ k.1,
        );
        known = λ c n. let k = s.known c (named c n) in (omega (arith, counted_on), omega (arith, old_asking c k.0));
        one_way = λ c v w. s.one_way c (subst (λ (x : Job). WantsYes x.label c) e v) (subst (λ (x : Job). WantsNo x.label c) e w);
        whole = λ c n. subst (λ (x : Job). Contains x.label (job grown (asking grown c)).label) (sym e)
            (subst (λ (x : Job). Contains (job b j).label x.label) (sym (same_asked c (s.known c (named c n)).0)) (s.whole c (named c n)));
      }

  new_sound : SoundJob grown (length b.jobs)
  unfolding new
  new_sound =
      let e = new_job in
      let named : (c : ℕ) → Names (job grown (length b.jobs)).label c → Names l c = λ c n. subst (λ (x : Job). Names x.label c) e n in
      record {
        counted = λ c q.
            let r : o ≡ Some c = sym (ap (λ (x : Job). x.check) e) ∙ q in
            let f = fits.fresh c r in
            let one : one_if_check o ≡ 1 = ap one_if_check r in
            (omega (arith, counted_on), new_asking c r);
        known = λ c n.
            let k = fits.known c (named c n) in
            (omega (arith, counted_on), omega (arith, old_asking c k, (sound.asked c k).0));
        one_way = λ c v w. fits.one_way c (subst (λ (x : Job). WantsYes x.label c) e v) (subst (λ (x : Job). WantsNo x.label c) e w);
        whole = λ c n. subst (λ (x : Job). Contains x.label (job grown (asking grown c)).label) (sym e)
            (subst (λ (x : Job). Contains l x.label) (sym (same_asked c (fits.known c (named c n)))) (fits.whole c (named c n)));
      }

  each_sound : (j : ℕ) → j < length grown.jobs → SoundJob grown j
  each_sound j h = by (dec_lt j (length b.jobs))
    where
      by : Dec (j < length b.jobs) → SoundJob grown j
      by (yes k) = old_sound j k
      by (no k) = let e : length b.jobs ≡ j = omega (arith, longer) in subst (SoundJob grown) e new_sound

  bound_sound : (m : Bound) → SoundBound b m → SoundBound grown m
  bound_sound m s = record {
    first_in = omega (arith, longer, s.first_in);
    second_in = omega (arith, longer, s.second_in);
    low = s.low;
    high = s.high;
    two = s.two;
    together = λ x. s.together
        (subst (λ (p : Job). Exclude p.label (job b m.second).label) (old_job m.first s.first_in)
        (subst (λ (p : Job). Exclude (job grown m.first).label p.label) (old_job m.second s.second_in) x));
  }

  all_asked : (c : ℕ) → c < checks grown → (asking grown c < length grown.jobs) × ((job grown (asking grown c)).check ≡ Some c)
  unfolding new
  all_asked c h = by (dec_lt c (checks b))
    where
      by : Dec (c < checks b) → (asking grown c < length grown.jobs) × ((job grown (asking grown c)).check ≡ Some c)
      by (yes k) =
          let a = sound.asked c k in
          (omega (arith, longer, old_asking c k, a.0), ap (λ (x : Job). x.check) (same_asked c k) ∙ a.1)
      by (no k) =
          let e = last_check o (checks b) c fits.fresh (omega (arith, counted_on)) (omega arith) in
          let n = new_asking c e in
          (omega (arith, longer), ap (λ (x : Job). x.check) (ap (λ j. job grown j) n ∙ new_job) ∙ e)

  ordered : (c d : ℕ) → d < checks grown → c < d → asking grown c < asking grown d
  ordered c d h k = by (dec_lt d (checks b))
    where
      by : Dec (d < checks b) → asking grown c < asking grown d
      by (yes m) = omega (arith, old_asking d m, old_asking c (omega arith), sound.in_order c d m k)
      by (no m) =
          let e = last_check o (checks b) d fits.fresh (omega (arith, counted_on)) (omega arith) in
          let n = new_asking d e in
          let f = fits.fresh d e in
          let i : c < checks b = omega arith in
          omega (arith, old_asking c i, (sound.asked c i).0)

  pub grown_sound : Sound (with_job b (record { label = l; check = o }))
  unfolding grown new
  grown_sound = record {
    some = omega (arith, longer);
    few_jobs = omega (arith, longer, fits.room);
    few_checks = omega (arith, counted_on, fits.few);
    few_bounds = sound.few_bounds;
    start_free = ap (λ (x : Job). x.label) (old_job 0 sound.some) ∙ sound.start_free;
    start_asks_nothing = ap (λ (x : Job). x.check) (old_job 0 sound.some) ∙ sound.start_asks_nothing;
    asked = all_asked;
    in_order = ordered;
    each_job = each_sound;
    each_bound = λ i h. bound_sound (bound b i) (sound.each_bound i h);
  }
