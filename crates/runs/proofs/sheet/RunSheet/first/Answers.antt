use Rattle.std.proofs.Common.{◌≡◌, ◌+◌, ◌*◌, ◌/◌, ◌<◌, ◌≤◌, ℕ, suc, List, length, take, drop, ap, ◌∙◌, suc-mul, arith}
use Rattle.std.proofs.Math.Nat.{le-div_iff_mul-le}
use Rattle.std.proofs.lemmas.Grind.{common_steps}
use Rattle.book.specs.declared.parts.Job.{Job}
use Rattle.book.specs.Held.{held_sound}
use Rattle.walks.proofs.Readied.{row_fits, first_with}
use Rattle.runs.specs.Sheets.{plan, times}
use Rattle.runs.proofs.sheet.RunSheet.first.Goals as goal

-- a row of some length that lies within a list is among its whole rows
row_there : (case n rows long : ℕ) → 0 < n → case * n + n ≤ long → rows ≡ long / n → case < rows
row_there case n rows long some fits e =
    let m = suc-mul case n in
    let k = (le-div_iff_mul-le {k = n} {x = suc case} {y = long} some).1 (omega arith) in
    omega arith

pub returns-in_err-row : goal.returns-in_err-row
returns-in_err-row c h =
    let sheet = c.args.self.now in
    let sound = held_sound sheet.book in
    let n = ap length c.jobs.ensures in
    let some = sound.some in
    let p = c.nth.ensures.runs.0 in
    let past : p.len ≤ c.args.case = grind (arith, common_steps) in
    let rows : p.len ≡ length sheet.minutes / length c.jobs.result.now = grind (arith, common_steps) in
    let fits = row_fits (plan sheet) sound c.args.case h in
    let sized = sheet.sized in
    let fitting : c.args.case * length c.jobs.result.now + length c.jobs.result.now ≤ length sheet.minutes = rw (n, sized) fits in
    let there = row_there c.args.case (length c.jobs.result.now) p.len (length sheet.minutes) (omega arith) fitting rows in
    absurd (omega arith)

pub first_from-requires : goal.first_from-requires
first_from-requires c =
    let p = c.nth.ensures.runs.0 in
    let few = (held_sound c.args.self.now.book).few_jobs in
    let n = ap length c.jobs.ensures in
    record { few = grind (arith, common_steps) }

pub returns : goal.returns
returns c h =
    let sheet = c.args.self.now in
    let jobs = c.jobs.result.now in
    let row = c.in_ok-row.row.now in
    let p = c.nth.ensures.runs.0 in
    let is : row ≡ take (length jobs) (drop (c.args.case * length jobs) sheet.minutes) = grind (arith, common_steps) in
    let long : length row ≡ length jobs = grind (arith, common_steps) in
    first_with (plan sheet) (times sheet) sheet.minutes sheet.shown c.args.case h row
    (is ∙ ap (λ (js : List Job). take (length js) (drop (c.args.case * length js) sheet.minutes)) c.jobs.ensures)
    (long ∙ ap length c.jobs.ensures) c.args.from c.first_from.result c.first_from.ensures
