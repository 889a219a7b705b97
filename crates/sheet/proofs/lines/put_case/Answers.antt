use Rattle.std.proofs.Common.{rules}
use Rattle.std.proofs.lemmas.Result.{on_ok_weaker}
use Rattle.format.specs.Named.{name}
use Rattle.sheet.proofs.Fits.{case_fits}
use Rattle.sheet.proofs.lines.put_case.Goals as goal

pub returns-clause-short : goal.returns-clause-short
returns-clause-short c =
    on_ok_weaker c.put_jobs.result (case_fits (name c.args.names) c.args.case c.args.row.now c.ranges.case.fits (search rules))
    c.put_jobs.ensures.short
