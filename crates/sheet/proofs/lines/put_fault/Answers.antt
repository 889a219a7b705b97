use Rattle.std.proofs.Common.{w64, Fits, rules}
use Rattle.sheet.proofs.Fits.{fault_fits}
use Rattle.sheet.proofs.Rows.{on_ok_anyway}
use Rattle.sheet.proofs.lines.put_fault.Goals as goal

pub returns-clause-short : goal.returns-clause-short
returns-clause-short c =
    let line : Fits w64 c.args.fault.line = search rules in
    let byte : Fits w64 c.args.fault.byte = search rules in
    on_ok_anyway c.write.result (fault_fits c.args.fault line.fits byte.fits)
