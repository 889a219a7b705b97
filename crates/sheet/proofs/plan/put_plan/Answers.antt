use Rattle.std.proofs.lemmas.Result.{on_ok_weaker}
use Rattle.book.specs.Held.{held}
use Rattle.format.specs.Named.{name}
use Rattle.sheet.proofs.Rests.{sheet_put}
use Rattle.sheet.proofs.plan.put_plan.Goals as goal

pub returns : goal.returns
returns c =
    on_ok_weaker c.put_rest.result
    (sheet_put (held c.args.plan.book.now) (name c.args.plan.names) _ _ _ _ _ _ c.judge-said.ensures c.in_ok-write.ensures.put) c.put_rest.ensures
