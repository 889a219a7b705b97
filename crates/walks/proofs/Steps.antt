-- The case of the checks reported yes can lead: what comes next in it is what comes next, and a lawful log has few events.
use Rattle.std.proofs.Common.{◌≡◌, ℕ, suc, ◌+◌, ◌^◌, ◌<◌, ◌≤◌, List, [], ◌∷◌, length, Some, refl, ◌∙◌, arith}
use native.Mathlib.Decide.{ℕ_discrete, dec_lt, dec_le}
use lib.Bits.{bit_or}
use Rattle.book.specs.Labels.{bit}
use Rattle.book.specs.Plain.{Plain, checks, asking, Done}
use Rattle.book.specs.Sound.{Sound}
use Rattle.book.proofs.Bits.{bit-bit_or}
use Rattle.grades.specs.Grades.{Minutes, Dynamic}
use Rattle.grades.specs.Theorems.{RunsAlike, AgreesUpTo}
use Rattle.grades.proofs.Strategies.{start_done}
use Rattle.walks.specs.declared.parts.Telling.{Telling}
use Rattle.walks.specs.declared.parts.Event.{Event}
use Rattle.walks.specs.declared.parts.Event.TheVariants.{Told, Reported}
use Rattle.walks.specs.Logs.{Has, ToldAt, Agreeing, NoneAwaited, all_told, last_minute, Left, Lawful, Tells, Ended}
use Rattle.walks.specs.Standing.{yes_set, heard_set, time, Begins, Over}
use Rattle.walks.proofs.Sets.{some_bit, bit_same, size, size_le, size_grows}
use Rattle.walks.proofs.Reports.{yes_agreeing, agree_same, told_heard, in_heard}
use Rattle.walks.proofs.Exact.{up_time, time_up, exact}
use Rattle.walks.proofs.Laws.{in_all, ended_are_whole}

module _ (alike : RunsAlike) (b : Plain) (sound : Sound b) (minute : Minutes) (dynamic : Dynamic b minute)
    (log : List Event) (l : Lawful b minute log) (idle : NoneAwaited b log) where
  -- where all checks that the leading case does before v were told, the agreeing cases agree with it up to v
  agreement : (v : ℕ) →
      ((c : ℕ) → c < checks b → Done b (yes_set log) (asking b c) → minute (yes_set log) (asking b c) < v → minute (yes_set log) (asking b c) < time log)
      → (s : ℕ) → Agreeing b log s → AgreesUpTo b minute s (yes_set log) v
  agreement v early s a c h d k =
      let lead = yes_agreeing b minute log l in
      let up = time_up log (minute (yes_set log) (asking b c)) (early c h d (omega arith)) in
      let told = (exact b minute log l (yes_set log) lead (asking b c) (minute (yes_set log) (asking b c))).1 (((sound.asked c h).0, d, refl), up) in
      agree_same log s (yes_set log) c a.1 lead.1 (told_heard b minute log l idle c (minute (yes_set log) (asking b c)) h told)

  module _ (t : Telling) (begins : Begins b minute (yes_set log) (time log) t) (s : ℕ) (a : Agreeing b log s) where
    early : (c : ℕ) → c < checks b → Done b (yes_set log) (asking b c) → minute (yes_set log) (asking b c) < t.minute →
        minute (yes_set log) (asking b c) < time log
    early c h d k = by (dec_lt (minute (yes_set log) (asking b c)) (time log))
      where
        by : Dec (minute (yes_set log) (asking b c) < time log) → minute (yes_set log) (asking b c) < time log
        by (yes e) = e
        by (no n) = let m = begins.least (asking b c) (sound.asked c h).0 d (omega arith) in absurd (omega arith)

    both : (j : ℕ) → j < length b.jobs
        → (Done b (yes_set log) j → minute (yes_set log) j ≤ t.minute → Done b s j × (minute s j ≡ minute (yes_set log) j))
        × (Done b s j → minute s j ≤ t.minute → Done b (yes_set log) j × (minute (yes_set log) j ≡ minute s j))
    both j h = alike b sound minute dynamic (yes_set log) s (yes_agreeing b minute log l).0 a.0 t.minute (agreement t.minute early s a) j h

    there : (j : ℕ) → Has t.jobs j → Left b log s j × (minute s j ≡ t.minute)
    there j h =
        let comes = (begins.exactly j).0 h in
        let e = comes.2 in
        let same = (both j comes.0).0 comes.1 (omega arith) in
        let f = same.1 in
        let late = begins.late in
        ((comes.0, same.0, λ w p. let x = (exact b minute log l s a j w).0 p in let u = up_time log w x.1 in let g = x.0.2 in omega arith), f ∙ e)

    back : (j : ℕ) → Left b log s j × (minute s j ≡ t.minute) → Has t.jobs j
    back j p =
        let e = p.1 in
        let same = (both j p.0.0).1 p.0.1 (omega arith) in
        (begins.exactly j).1 (p.0.0, same.0, same.1 ∙ e)

    least : (j : ℕ) → Left b log s j → t.minute ≤ minute s j
    least j left = by (dec_le t.minute (minute s j)) (dec_lt (minute s j) (time log))
      where
        by : Dec (t.minute ≤ minute s j) → Dec (minute s j < time log) → t.minute ≤ minute s j
        by (yes h) d = h
        by (no n) (yes u) = absurd (left.2 (minute s j) ((exact b minute log l s a j (minute s j)).1 ((left.0, left.1, refl), time_up log (minute s j) u)))
        by (no n) (no m) =
            let same = (both j left.0).1 left.1 (omega arith) in
            let e = same.1 in
            let k = begins.least j left.0 same.0 (omega arith) in
            absurd (omega arith)

  pub tells : (t : Telling) → Begins b minute (yes_set log) (time log) t → Tells b minute log t
  tells t begins = record {
    some = begins.some;
    exactly = λ s a j. (there t begins s a j, back t begins s a j);
    next = λ s a j left. least t begins s a j left;
  }

  pub ends : Over b minute (yes_set log) (time log) → Ended b log
  ends over = record {
    none_awaited = idle;
    none_left = λ s a j left.
        let agree = agreement (minute s j) (λ c h d k. over (asking b c) (sound.asked c h).0 d) s a in
        let lead = (yes_agreeing b minute log l).0 in
        let same = (alike b sound minute dynamic (yes_set log) s lead a.0 (minute s j) agree j left.0).1 left.1 (omega arith) in
        let e = same.1 in
        let o = over j left.0 same.0 in
        left.2 (minute s j) ((exact b minute log l s a j (minute s j)).1 ((left.0, left.1, refl), time_up log (minute s j) (omega arith)));
  }

-- how many tellings and how many reports a log has
tellings : List Event → ℕ
tellings [] = 0
tellings (Told t ∷ log) = suc (tellings log)
tellings (Reported r ∷ log) = tellings log

reports : List Event → ℕ
reports [] = 0
reports (Told t ∷ log) = reports log
reports (Reported r ∷ log) = suc (reports log)

both_count : (log : List Event) → length log ≡ tellings log + reports log
unfolding tellings reports
both_count [] = refl
both_count (Told t ∷ log) = let h = both_count log in omega arith
both_count (Reported r ∷ log) = let h = both_count log in omega arith

module _ (b : Plain) (minute : Minutes) where
  few_tellings : (log : List Event) → Lawful b minute log → tellings log ≤ size (length b.jobs) (all_told log)
  unfolding tellings
  few_tellings [] l = omega arith
  few_tellings (Reported r ∷ log) l = few_tellings log l.0
  few_tellings (Told t ∷ log) l =
      let before = few_tellings log l.0 in
      let one = some_bit t.jobs l.1.1.some in
      let left = ((l.1.1.exactly (yes_set log) (yes_agreeing b minute log l.0) one.0).0 one.1).0 in
      let fresh : bit (all_told log) one.0 < 1 = clear one.0 left (ℕ_discrete (bit (all_told log) one.0) 1) in
      let o = bit-bit_or (all_told log) t.jobs one.0 in
      let e = one.1 in
      let more : (k : ℕ) → bit (all_told log) k ≤ bit (bit_or (all_told log) t.jobs) k = λ k. let p = bit-bit_or (all_told log) t.jobs k in omega arith in
      let g = size_grows (length b.jobs) (all_told log) (bit_or (all_told log) t.jobs) more one.0 left.0 (omega arith) in
      omega arith
    where
      clear : (j : ℕ) → Left b log (yes_set log) j → Dec (bit (all_told log) j ≡ 1) → bit (all_told log) j < 1
      clear j left (yes e) = let k = in_all log j e in absurd (left.2 k.0 k.1)
      clear j left (no n) = grind arith

  few_reports : (log : List Event) → Lawful b minute log → reports log ≤ size (checks b) (heard_set log)
  unfolding reports
  few_reports [] l = omega arith
  few_reports (Told t ∷ log) l = few_reports log l.0
  few_reports (Reported r ∷ log) l =
      let before = few_reports log l.0 in
      let fresh : bit (heard_set log) r.check < 1 = clear (ℕ_discrete (bit (heard_set log) r.check) 1) in
      let o = bit-bit_or (heard_set log) (2 ^ r.check) r.check in
      let e = bit_same r.check in
      let more : (k : ℕ) → bit (heard_set log) k ≤ bit (bit_or (heard_set log) (2 ^ r.check)) k =
      λ k. let p = bit-bit_or (heard_set log) (2 ^ r.check) k in omega arith in
      let g = size_grows (checks b) (heard_set log) (bit_or (heard_set log) (2 ^ r.check)) more r.check l.1.0.0 (omega arith) in
      omega arith
    where
      clear : Dec (bit (heard_set log) r.check ≡ 1) → bit (heard_set log) r.check < 1
      clear (yes e) = absurd (l.1.0.2 (in_heard log r.check e))
      clear (no n) = grind arith

  -- a lawful log has at most one telling for each job and one report for each check
  pub few_events : (log : List Event) → Lawful b minute log → length log ≤ length b.jobs + checks b
  few_events log l =
      let c = both_count log in
      let t = few_tellings log l in
      let r = few_reports log l in
      let n = size_le (length b.jobs) (all_told log) in
      let k = size_le (checks b) (heard_set log) in
      omega arith

-- a log with a telling has a last minute
last_some : (log : List Event) (j v : ℕ) → ToldAt log j v → (m : ℕ) × (last_minute log ≡ Some m) × (time log ≡ m + 1)
last_some [] j v h = absurd h
last_some (Told t ∷ log) j v h = (t.minute, refl, refl)
last_some (Reported r ∷ log) j v h = last_some log j v h

-- at the end `start`, at least, was told
pub last_of : (b : Plain) → Sound b → (minute : Minutes) (log : List Event) → Lawful b minute log → Ended b log →
    (m : ℕ) × (last_minute log ≡ Some m) × (time log ≡ m + 1)
last_of b sound minute log l e =
    let whole = ended_are_whole b minute log l e (yes_set log) (yes_agreeing b minute log l) in
    last_some log 0 (minute (yes_set log) 0) (whole.told 0 sound.some (start_done b sound (yes_set log)))
