use Rattle.std.proofs.Common.{◌≡◌, ◌<◌, ◌+◌, ◌-◌, ◌*◌, ◌≤◌, length, take, drop, ap, arith, length-drop, length-take}
use Rattle.book.specs.Plain.{cases}
use Rattle.book.specs.Held.{held, held_sound}
use Rattle.grades.proofs.Limits.{few_cases}
use Rattle.format.specs.Named.{name}
use Rattle.sheet.proofs.Fits.{cases_fit}
use Rattle.sheet.proofs.Rows.{row_fits, case_more}
use Rattle.sheet.proofs.lines.put_cases.Goals as goal

pub loop-case-preserved : goal.loop-case-preserved
loop-case-preserved c =
    let s = c.loop-case.case in
    let jobs = length c.jobs-jobs.result.now in
    let minutes = c.args.minutes.now in
    let wide : (s * jobs + jobs) - s * jobs ≡ jobs = omega arith in
    let count : jobs ≡ length (held c.args.plan.book.now).jobs = ap length c.jobs-jobs.ensures in
    let b = held c.args.plan.book.now in
    let last : s < cases b = omega (arith, c.cases-case-end.ensures) in
    let fits : s * jobs + jobs ≤ length minutes = rw count (omega (arith, row_fits s (cases b) (length b.jobs) last, c.requires.room)) in
    let long : length (take ((s * jobs + jobs) - s * jobs) (drop (s * jobs) minutes)) ≡ jobs = simp (length-take, length-drop) (omega arith) in
    let names = name c.args.plan.names in
    let row = ap (λ n. take n (drop (s * jobs) minutes)) wide in
    let put = c.in_ok-put_case.ensures in
    let so_far = c.loop-case.invariant in
    let few : jobs ≤ 20 = omega (arith, count, (held_sound c.args.plan.book.now).few_jobs) in
    record {
      put = case_more names jobs minutes s _ _ _ _ _ so_far.put row long put.put;
      short = cases_fit names jobs minutes s _ _ few so_far.short row long put.short;
    }

pub returns-clause-short : goal.returns-clause-short
returns-clause-short c =
    let last : c.loop-case.case ≡ cases (held c.args.plan.book.now) = omega (arith, c.cases-case-end.ensures) in
    let few = few_cases (held c.args.plan.book.now) (held_sound c.args.plan.book.now) in
    let short = rw (last, ap length c.jobs-jobs.ensures) at c.loop-case.invariant.short in
    omega (arith, short)
