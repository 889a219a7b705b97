use Rattle.std.proofs.Common.{◌≡◌, ℕ, ◌+◌, ◌*◌, cond, length, get_or, set, ℤ, pos, negsuc, ap, ◌∙◌, arith, w32, SFits, to_z, of_z, rules}
use Rattle.std.proofs.lemmas.Int.{to_z-of_z}
use Rattle.book.specs.Plain.{no_job}
use Rattle.book.specs.Held.{held}
use Rattle.book.specs.Done.{met_by, done}
use Rattle.verdicts.proofs.Blocks.{shown_is, row_starts, row_more}
use Rattle.verdicts.proofs.filling.fill_case.Goals as goal

pub loop-j-init : goal.loop-j-init
loop-j-init c = row_starts c.args.minutes.now (c.args.case * length c.jobs-jobs.result.now)

pub loop-j-preserved : goal.loop-j-preserved
loop-j-preserved c =
    let b = held c.args.book.now in
    let s = c.args.case in
    let j = c.loop-j.j in
    let jobs = c.jobs-jobs.result.now in
    let table = c.args.table.now in
    let x : ℤ = get_or table (c.args.from + j) (pos 0) in
    let x_fits : SFits w32 x = search rules in
    let r-fits : SFits w32 c.shown.result = search rules in
    let label = (get_or jobs j no_job).label in
    let is : c.shown.result ≡ cond (met_by label s) (to_z w32 (of_z w32 x)) (negsuc 0) =
    c.shown.ensures ∙ shown_is label s c.meets.result (to_z w32 (of_z w32 x)) c.meets.ensures in
    let f : ℕ → ℤ = λ i. cond (done b s i) (get_or table (c.args.from + i) (pos 0)) (negsuc 0) in
    let value : to_z w32 (of_z w32 c.shown.result) ≡ f j =
    to_z-of_z w32 c.shown.result r-fits
    ∙ (is
    ∙ (ap (λ js. cond (met_by (get_or js j no_job).label s) (to_z w32 (of_z w32 x)) (negsuc 0)) c.jobs-jobs.ensures
    ∙ ap (λ z. cond (done b s j) z (negsuc 0)) (to_z-of_z w32 x x_fits))) in
    let first = s * length jobs in
    let long = ap length c.jobs-jobs.ensures in
    let within = ap (λ n. s * n) long in
    ap (set c.loop-j.minutes (first + j)) value
    ∙ row_more f c.args.minutes.now c.loop-j.minutes first j (omega arith) c.loop-j.invariant
