use Rattle.std.proofs.Common.{◌≡◌, sym, ◌∙◌, rules}
use Rattle.std.specs.List.{count_by}
use Rattle.sheet.specs.Sheet.{is_done}
use Rattle.sheet.proofs.Fits.{all_counted}
use Rattle.sheet.proofs.lines.count_done.Goals as goal

pub returns : goal.returns
returns c =
    let counts : c.count.result ≡ count_by is_done c.args.row.now = search rules in
    counts ∙ sym (all_counted c.args.row.now)
