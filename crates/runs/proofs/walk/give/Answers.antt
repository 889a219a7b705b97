use Rattle.std.proofs.Common.{arith, subst}
use Rattle.std.proofs.lemmas.Grind.{common_steps}
use Rattle.walks.specs.Law.{Law}
use Rattle.runs.specs.declared.sheet.RunSheet.{RunSheet}
use Rattle.runs.specs.Recorded.{recorded}
use Rattle.runs.specs.Sheets.{plan, times}
use Rattle.runs.specs.Steps.{AsksFor}
use Rattle.runs.proofs.Carried.{keeps}
use Rattle.runs.proofs.walk.give.Goals as goal

pub returns : goal.returns
returns c =
    let run = c.loop-yes.run.run in
    let same = c.loop-yes.invariant.on_sheet in
    record {
      law = subst (λ (s : RunSheet). Law (plan s) (times s) (recorded run.log)) same (keeps run).law;
      heard = grind (arith, common_steps);
      asks = subst (λ (s : RunSheet). AsksFor s (recorded run.log) c.check-check.result) same c.check-check.ensures.asks;
    }
