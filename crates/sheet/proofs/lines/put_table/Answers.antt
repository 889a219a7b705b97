use Rattle.std.proofs.Common.{◌*◌, ◌≤◌, length, take, OnOk, subst, ap, ap₂, rules}
use Rattle.book.specs.Held.{held, held_sound}
use Rattle.verdicts.specs.Verdicts.{size}
use Rattle.std.proofs.lemmas.Result.{on_ok_weaker}
use Rattle.book.specs.Plain.{cases}
use Rattle.grades.proofs.Limits.{few_cases}
use Rattle.format.specs.Named.{name}
use Rattle.sheet.specs.Sheet.{cases_lines}
use Rattle.sheet.proofs.Fits.{table_fits}
use Rattle.sheet.proofs.Judging.{counted_fits}
use Rattle.sheet.proofs.lines.put_table.Goals as goal

pub overflow_mul-size : goal.overflow_mul-size
overflow_mul-size c =
    let book = c.args.plan.book.now in
    let fits = counted_fits (held book) _ _ (held_sound book) c.cases-cases.ensures c.jobs.ensures in
    search rules

pub shared_ref_as_front-minutes : goal.shared_ref_as_front-minutes
shared_ref_as_front-minutes c =
    let book = c.args.plan.book.now in counted_fits (held book) _ _ (held_sound book) c.cases-cases.ensures c.jobs.ensures

pub returns-clause-short : goal.returns-clause-short
returns-clause-short c =
    let b = held c.args.plan.book.now in
    let minutes = c.args.minutes.now in
    let names = name c.args.plan.names in
    let is = ap₂ (λ k l. k * l) c.cases-cases.ensures (ap length c.jobs.ensures) in
    on_ok_weaker c.put_cases.result
    (table_fits c.args.grade names (length b.jobs) (take (size b) minutes) (cases b) (few_cases b (held_sound c.args.plan.book.now)))
    (subst (λ n. OnOk c.put_cases.result (length (cases_lines names (length b.jobs) (take n minutes) (cases b)) ≤ 6960)) is c.put_cases.ensures.short)
