use Rattle.sheet.proofs.Fits.{job_fits}
use Rattle.sheet.proofs.Rows.{on_ok_anyway}
use Rattle.sheet.proofs.lines.put_job.Goals as goal

pub returns-clause-short : goal.returns-clause-short
returns-clause-short c = on_ok_anyway c.write.result (job_fits c.args.name.now c.args.minute c.ranges.minute.sfits c.requires.few)
