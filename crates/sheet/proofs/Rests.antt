-- What follows the verdicts, and the whole sheet.
use Rattle.std.proofs.Common.{◌≡◌, ℕ, ◌≤◌, false, List, ◌++◌, length, take, ℤ, Some, All, refl, ap, subst, inr, arith}
use Rattle.std.proofs.Common.{length-append, length-take}
use Rattle.book.specs.Plain.{Plain, cases}
use Rattle.book.specs.Sound.{Sound}
use Rattle.rules.specs.declared.parts.Origin.{Origin}
use Rattle.rules.specs.declared.parts.Origin.TheVariants.{Bound}
use lib.ListN.{length-map}
use Rattle.std.proofs.lemmas.List.Elements.{All-from_get_or}
use Rattle.find.specs.Answers.{origin_of}
use Rattle.grades.specs.Systems.{weak_origins}
use Rattle.format.specs.declared.parts.NamePlace.{NamePlace}
use Rattle.format.specs.Names.{name_of}
use Rattle.grades.proofs.Limits.{few_cases}
use Rattle.verdicts.specs.declared.answers.WeakAnswer.TheVariants.{No}
use Rattle.verdicts.specs.Verdicts.{size}
use Rattle.sheet.specs.declared.grade.Grade.{Grade}
use Rattle.sheet.specs.declared.verdict.Verdicts.{Verdicts}
use Rattle.sheet.specs.Sheet.{verdict_lines, strongest, table_lines, loop_lines, is_strong, is_dynamic, is_weak, Within}
use Rattle.sheet.specs.Printed.{PlanSheet}
use Rattle.sheet.specs.Judged.{Holds, Looping, Judged, RestPut, SheetPut, TextPut}
use Rattle.sheet.proofs.Fits.{ShortNames, verdicts_fit, loop_fits}
use Rattle.sheet.proofs.Origins.{loop_known}
use Rattle.sheet.proofs.Rows.{joins}

-- a table follows, of the strongest grade with a yes
pub table_rest : (b : Plain) (name : ℕ → List ℕ) (v : Verdicts) (g : Grade) (minutes : List ℤ) (before after : List ℕ) →
    strongest (is_strong v.strong) (is_dynamic v.dynamic) (is_weak v.weak) ≡ Some g → Holds b g minutes →
    after ≡ before ++ table_lines g name (length b.jobs) (take (size b) minutes) (cases b) →
    length (table_lines g name (length b.jobs) (take (size b) minutes) (cases b)) ≤ 7000 → RestPut b name v before after
table_rest b name v g minutes before after best h put short = (
  table_lines g name (length b.jobs) (take (size b) minutes) (cases b),
  rw best (h.0, h.1, ap (λ t. table_lines g name (length b.jobs) t (cases b)) h.2),
  short,
  put,
)

-- with no yes, a loop
pub looping_of : (b : Plain) (v : Verdicts) (minutes : List ℤ) (origins : List Origin) (s n : ℕ) → Judged b minutes origins v →
    is_strong v.strong ≡ false → is_dynamic v.dynamic ≡ false → v.weak ≡ No s n → Looping b origins s n
looping_of b v minutes origins s n j p q r = rw (p, q, r) at j.shown

pub looping_few : (b : Plain) (origins : List Origin) (s n : ℕ) → Sound b → Looping b origins s n → n ≤ 20
looping_few b origins s n sound h = let (low, rs, loop, long, is) = h in omega (arith, long, loop.short, sound.few_jobs)

pub looping_known : (b : Plain) (origins : List Origin) (s n : ℕ) → Looping b origins s n → All (Within b) (take n origins)
looping_known b origins s n h =
    let (low, rs, loop, long, is) = h in
    All-from_get_or (Within b) (take n origins) (Bound 0)
    (rw is (λ i l. loop_known b s rs loop i (omega (arith, l, length-map rs (origin_of (weak_origins b s))))))

pub loop_rest : (b : Plain) (name : ℕ → List ℕ) (v : Verdicts) (origins : List Origin) (s n : ℕ) (before after : List ℕ) → Sound b → ShortNames name →
    is_strong v.strong ≡ false → is_dynamic v.dynamic ≡ false → v.weak ≡ No s n → Looping b origins s n →
    after ≡ before ++ loop_lines b name s (take n origins) → RestPut b name v before after
loop_rest b name v origins s n before after sound short p q r h put =
    let (low, rs, loop, long, is) = h in (
      loop_lines b name s (take n origins),
      rw (p, q, r) (s, rs, low, loop, ap (loop_lines b name s) is),
      loop_fits b name s (take n origins) sound short (looping_known b origins s n h) (omega (arith, low.is, few_cases b sound))
          (omega (arith, length-take n origins, looping_few b origins s n sound h)),
      put,
    )

-- the verdicts, then the rest
pub sheet_put : (b : Plain) (name : ℕ → List ℕ) (minutes : List ℤ) (origins : List Origin) (v : Verdicts) (page one two : List ℕ) → Judged b minutes origins v
    → one ≡ page ++ verdict_lines (is_strong v.strong) (is_dynamic v.dynamic) (is_weak v.weak) → RestPut b name v one two → SheetPut b name page two
sheet_put b name minutes origins v page one two j p r =
    let verdicts = verdict_lines (is_strong v.strong) (is_dynamic v.dynamic) (is_weak v.weak) in
    let (rest, is, short, put) = r in (
      verdicts ++ rest,
      record {
        strong = is_strong v.strong;
        dynamic = is_dynamic v.dynamic;
        weak = is_weak v.weak;
        strong_is = j.strong_is;
        dynamic_is = j.dynamic_is;
        weak_is = j.weak_is;
        rest = rest;
        rest_is = is;
        lines = refl;
      },
      omega (arith, length-append verdicts rest, verdicts_fit (is_strong v.strong) (is_dynamic v.dynamic) (is_weak v.weak), short),
      joins page verdicts rest one two p put,
    )

-- the sheet of a plan is that of its text
pub text_put : (text : List ℕ) (b : Plain) (places : List NamePlace) (name : ℕ → List ℕ) (before after : List ℕ) → name ≡ name_of text places →
    SheetPut b name before after → TextPut text before after
text_put text b places name before after is h = (h.0, inr (b, places, subst (λ n. PlanSheet b n h.0) is h.1), h.2, h.3)
