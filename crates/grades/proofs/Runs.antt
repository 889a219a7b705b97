-- Cases that agree on what is known so far are alike so far.
use Rattle.std.proofs.Common.{◌≡◌, ℕ, zero, suc, ◌<◌, ◌≤◌, length, sym, ◌∙◌, inl, inr, arith}
use Rattle.book.specs.Labels.{bit, Names}
use Rattle.book.specs.Plain.{Plain, job, asking, Case, Done}
use Rattle.book.specs.Sound.{Sound}
use Rattle.grades.specs.Grades.{Minutes, Dynamic}
use Rattle.grades.specs.Theorems.{AgreesUpTo, Follows, RunsAlike}
use Rattle.grades.proofs.Props.{delay_some}
use Rattle.grades.proofs.Strategies.{check_done}

module _ (b : Plain) (sound : Sound b) (M : Minutes) (d : Dynamic b M) where
  -- one job, where t agrees with s on all that is known in s by its minute
  step : (s t : ℕ) → Case b s → Case b t → (j : ℕ) → j < length b.jobs → Done b s j → AgreesUpTo b M t s (M s j) → Done b t j × (M t j ≡ M s j)
  step s t h g j i p agree =
      let same : (c : ℕ) → Names (job b j).label c → bit t c ≡ bit s c = λ c n.
      agree c ((sound.each_job j i).known c n).0 (check_done b sound s j i p c n) (d.strategy.after_checks s h j i p c n) in
      let does : Done b t j = λ c l. (λ y. same c (inl y) ∙ (p c l).0 y, λ z. same c (inr z) ∙ (p c l).1 z) in
      (does, sym (d.same s t h g j i p does (inl (λ c known. agree c known.is known.done known.before))))

  module _ (s t : ℕ) (h : Case b s) (g : Case b t) (v : ℕ) (agree : AgreesUpTo b M t s v) where
    there : (j : ℕ) → j < length b.jobs → Follows b M t s v j
    there j i p l = step s t h g j i p (λ c k q m. agree c k q (omega arith))

    back : (fuel j : ℕ) → j < length b.jobs → Done b t j → M t j ≤ v → M t j < fuel → Done b s j × (M s j ≡ M t j)
    back zero j i p l m = absurd (omega arith)
    back (suc fuel) j i p l m =
        step t s g h j i p (λ c k q n.
        let some = delay_some b c in
        let r = back fuel (asking b c) (sound.asked c k).0 q (omega arith) (omega arith) in
        sym (agree c k r.0 (omega (arith, r.1))))

pub runs_alike : RunsAlike
runs_alike b sound M d s t h g v agree j i =
    (there b sound M d s t h g v agree j i, λ p l. back b sound M d s t h g v agree (suc (M t j)) j i p l (omega arith))
