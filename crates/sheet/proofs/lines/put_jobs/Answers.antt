use Rattle.std.proofs.Common.{get_or, pos, w32, SFits, rules}
use Rattle.std.proofs.lemmas.Int.{to_z-of_z}
use Rattle.format.specs.Named.{name}
use Rattle.sheet.proofs.Fits.{jobs_fit}
use Rattle.sheet.proofs.Rows.{one_more}
use Rattle.sheet.proofs.lines.put_jobs.Goals as goal

pub loop-job-preserved : goal.loop-job-preserved
loop-job-preserved c =
    let i = c.loop-job.job in
    let row = c.args.row.now in
    let f : SFits w32 (get_or row i (pos 0)) = search rules in
    let z = to_z-of_z w32 (get_or row i (pos 0)) f in
    let names = name c.args.names in
    let put = c.in_ok-put_job.ensures in
    let so_far = c.loop-job.invariant in
    record {
      put = one_more names row i _ _ _ _ _ so_far.put c.name.ensures.name z put.put;
      short = jobs_fit names row i _ _ so_far.short c.name.ensures.name z put.short;
    }
