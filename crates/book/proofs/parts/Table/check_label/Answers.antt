use Rattle.std.proofs.Common.{rules}
use Rattle.book.specs.Plain.{plain}
use Rattle.book.proofs.Checks.{label_of_check}
use Rattle.book.proofs.parts.Table.check_label.Goals as goal

pub returns : goal.returns
returns c =
    label_of_check (plain c.args.self.now) c.args.c _ c.default.result _ c.check_job.ensures c.default.ensures c.map_or.ensures (λ j q. search rules)
