-- The worked examples proved.
use Rattle.std.proofs.Common.{ℕ, ◌≤◌, List, [], ◌∷◌, ℤ, pos, refl, arith}
use lib.Count.{ones}
use Rattle.std.proofs.lemmas.Int.{ints}
use Rattle.book.specs.declared.parts.Bound.{Bound}
use Rattle.book.specs.declared.parts.Refusal.TheVariants.{PartMissing, MinutesBeyond, Exclusive}
use Rattle.book.specs.Plain as book
use Rattle.book.specs.Plain.{part_missing}
use Rattle.rules.specs.Loops.{Loop}
use Rattle.rules.specs.Rules.{rule}
use Rattle.grades.specs.Grades.{Minutes, Weak, Strong, Dynamic}
use Rattle.grades.specs.Systems.{strong_system, weak_system}
use Rattle.examples.specs.Plans as plans
use Rattle.examples.specs.Plans.{least, most, start, wet, pump, grout, seal, timetable}
use Rattle.examples.specs.Worked as specs
use Rattle.examples.specs.Worked.{Worked, NewBook, WetHole, KnownBefore, Loosened, Hurried, TightByFive, TightByFour, BoundsTaken, LabelsTaken}
use Rattle.examples.specs.Worked.{Runs, Without}
use Rattle.examples.proofs.Forced.{low_rows_at, kept_at, done_in, shared, no_later, grout_waits}
use Rattle.examples.proofs.Loops.{once_by_test}
use Rattle.examples.proofs.Logs.{lawful_by_test, ended_by_test}
use Rattle.examples.proofs.OneRun.{no_other}
use Rattle.examples.proofs.Tested.{strategy_by_test, strong_by_test, dynamic_by_test, keeps_by_test, only}

new_book : NewBook
new_book = record {
  one_case = refl;
  strong = record { good = strong_by_test book.new_book specs.at_once refl refl; first = λ other g s h j l d. at_zero other s j };
  dynamic = record { good = dynamic_by_test book.new_book specs.at_once refl refl; first = λ other g s h j l d. at_zero other s j };
  weak = record { good = strategy_by_test book.new_book specs.at_once refl; first = λ other g s h j l d. at_zero other s j };
}
  where
    at_zero : (other : Minutes) (s j : ℕ) → specs.at_once s j ≤ other s j
    at_zero other = low_rows_at ((0 ∷ []) ∷ []) other ((omega arith, tt), tt)

-- the bounds of the plans after the three that all share
abbrev further : ℤ → List Bound → List Bound
further within more = most wet seal within ∷ most seal grout (pos 10) ∷ more

wet_hole : WetHole
unfolding part_missing
wet_hole = record {
  answers_are = refl;
  plan_is = refl;
  not_strong = not_strong;
  loop = loop;
  loop_of = refl;
  sum = refl;
  dynamic = record { good = dynamic_by_test plans.wet_hole (timetable 61 61) refl refl; first = λ m d s h j l _. first m d s j };
  listed_as = refl;
}
  where
    not_strong : Without (Strong plans.wet_hole)
    not_strong m d =
        let k = shared (further (pos 20) []) m d.strategy in
        let b3 = kept_at plans.wet_hole m d.strategy 0 (omega arith) 3 (omega arith) refl in
        let b4 = kept_at plans.wet_hole m d.strategy 0 (omega arith) 4 (omega arith) refl in
        let w = d.same 0 1 (omega arith) (omega arith) 1 (omega arith) (done_in plans.wet_hole 0 1 refl) (done_in plans.wet_hole 1 1 refl) in
        let g = d.same 0 1 (omega arith) (omega arith) 3 (omega arith) (done_in plans.wet_hole 0 3 refl) (done_in plans.wet_hole 1 3 refl) in
        omega (arith, ints)

    loop : Loop (strong_system plans.wet_hole) (1 ∷ 3 ∷ 4 ∷ 2 ∷ [])
    loop = record {
      from = pump;
      closes = (omega arith, refl, (omega arith, refl, (omega arith, refl, (omega arith, refl, refl))));
      once = once_by_test (strong_system plans.wet_hole) (1 ∷ 3 ∷ 4 ∷ 2 ∷ []) refl;
      short = omega arith;
      above = omega (arith, ints);
    }

    first : (m : Minutes) → Dynamic plans.wet_hole m → (s j : ℕ) → timetable 61 61 s j ≤ m s j
    first m d =
        let k = shared (further (pos 20) []) m d.strategy in
        let g = grout_waits (further (pos 20) []) m d in
        no_later (further (pos 20) []) m d.strategy 61 61 (omega arith) (omega arith)

known_before : KnownBefore
known_before = record {
  weak = record { good = strategy_by_test plans.wet_hole (timetable 0 61) refl; first = λ m d s h j l _. first m d s j };
}
  where
    first : (m : Minutes) → Weak plans.wet_hole m → (s j : ℕ) → timetable 0 61 s j ≤ m s j
    first m d =
        let k = shared (further (pos 20) []) m d in
        no_later (further (pos 20) []) m d 0 61 (omega arith) (omega arith)

loosened : Loosened
loosened = record {
  taken = refl;
  strong = record { good = strong_by_test specs.loosened (timetable 155 61) refl refl; first = λ m d s h j l _. first m d s j };
}
  where
    first : (m : Minutes) → Strong specs.loosened m → (s j : ℕ) → timetable 155 61 s j ≤ m s j
    first m d =
        let k = shared (most wet seal (pos 20) ∷ []) m d.strategy in
        let g = d.same 0 1 (omega arith) (omega arith) 3 (omega arith) (done_in specs.loosened 0 3 refl) (done_in specs.loosened 1 3 refl) in
        no_later (most wet seal (pos 20) ∷ []) m d.strategy 155 61 (omega arith) (omega arith)

hurried : Hurried
hurried = record {
  taken = refl;
  not_weak = λ m d.
      let k = shared (further (pos 20) (most start grout (pos 60) ∷ [])) m d in
      let z = d.start 1 (omega arith) in
      let b5 = kept_at specs.hurried m d 1 (omega arith) 5 (omega arith) refl in
      omega (arith, ints);
  dry_kept = keeps_by_test (weak_system specs.hurried 0) (0 ∷ 60 ∷ 0 ∷ 0 ∷ 61 ∷ []) refl refl;
  loop = record {
    from = wet;
    closes = (omega arith, refl, (omega arith, refl, (omega arith, refl, (omega arith, refl, refl))));
    once = once_by_test (weak_system specs.hurried 1) (0 ∷ 3 ∷ 2 ∷ 1 ∷ []) refl;
    short = omega arith;
    above = omega (arith, ints);
  };
  loop_of = refl;
  sum = refl;
  wet_fails = λ table k.
      let b0 = only table (rule (weak_system specs.hurried 1) 0) refl (k.each 0 (omega arith)) in
      let b1 = only table (rule (weak_system specs.hurried 1) 1) refl (k.each 1 (omega arith)) in
      let b2 = only table (rule (weak_system specs.hurried 1) 2) refl (k.each 2 (omega arith)) in
      let b5 = only table (rule (weak_system specs.hurried 1) 3) refl (k.each 3 (omega arith)) in
      omega (arith, ints);
}

tight_by_five : TightByFive
unfolding part_missing
tight_by_five = record {
  plan_is = refl;
  weak = record { good = strategy_by_test (specs.tight (pos 5)) (timetable 0 61) refl; first = λ m d s h j l _. first m d s j };
  not_dynamic = λ m d.
      let g = grout_waits (further (pos 5) (least grout seal (pos 5) ∷ [])) m d in
      let b3 = kept_at (specs.tight (pos 5)) m d.strategy 0 (omega arith) 3 (omega arith) refl in
      let b5 = kept_at (specs.tight (pos 5)) m d.strategy 0 (omega arith) 5 (omega arith) refl in
      omega (arith, ints);
}
  where
    first : (m : Minutes) → Weak (specs.tight (pos 5)) m → (s j : ℕ) → timetable 0 61 s j ≤ m s j
    first m d =
        let k = shared (further (pos 5) (least grout seal (pos 5) ∷ [])) m d in
        no_later (further (pos 5) (least grout seal (pos 5) ∷ [])) m d 0 61 (omega arith) (omega arith)

tight_by_four : TightByFour
unfolding part_missing
tight_by_four = record {
  plan_is = refl;
  dynamic = record { good = dynamic_by_test (specs.tight (pos 4)) (timetable 61 65) refl refl; first = λ m d s h j l _. first m d s j };
}
  where
    first : (m : Minutes) → Dynamic (specs.tight (pos 4)) m → (s j : ℕ) → timetable 61 65 s j ≤ m s j
    first m d =
        let k = shared (further (pos 5) (least grout seal (pos 4) ∷ [])) m d.strategy in
        let g = grout_waits (further (pos 5) (least grout seal (pos 4) ∷ [])) m d in
        let b5 = kept_at (specs.tight (pos 4)) m d.strategy 0 (omega arith) 5 (omega arith) refl in
        no_later (further (pos 5) (least grout seal (pos 4) ∷ [])) m d.strategy 61 65 (omega arith) (omega (arith, ints))

bounds_taken : BoundsTaken
bounds_taken = record {
  three_days = refl;
  three_days_back = refl;
  beyond = (MinutesBeyond, refl, refl, refl);
  beyond_back = (MinutesBeyond, refl, refl, refl);
  exclusive = (Exclusive, refl, refl, refl);
}

labels_taken : LabelsTaken
unfolding part_missing
labels_taken = record { core = refl; part_missing = (PartMissing, refl, refl, refl); whole = refl }

runs : Runs
unfolding ones
runs = record {
  dry_lawful = lawful_by_test plans.wet_hole (timetable 61 61) specs.dry_run refl;
  dry_ended = ended_by_test plans.wet_hole specs.dry_run refl refl;
  dry_jobs = refl;
  dry_last = refl;
  wet_lawful = lawful_by_test plans.wet_hole (timetable 61 61) specs.wet_run refl;
  wet_ended = ended_by_test plans.wet_hole specs.wet_run refl refl;
  wet_jobs = refl;
  wet_last = refl;
  no_other = no_other;
}

pub worked : Worked
worked = record {
  new_book = new_book;
  wet_hole = wet_hole;
  known_before = known_before;
  loosened = loosened;
  hurried = hurried;
  tight_by_five = tight_by_five;
  tight_by_four = tight_by_four;
  bounds_taken = bounds_taken;
  labels_taken = labels_taken;
  runs = runs;
}
