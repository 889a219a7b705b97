use Rattle.std.proofs.Common.{◌≡◌, ◌-◌, Some, ap, ◌∙◌, arith}
use lib.Count.{ones}
use Rattle.runs.proofs.Carried.{ran, last_told}
use Rattle.runs.proofs.state.Finished.numbers.Goals as goal

pub overflow_sub-result : goal.overflow_sub-result
overflow_sub-result c =
    let r = c.args.self.now in
    let e = (last_told r.run r.over).2 in
    let t = r.run.log.time_is in
    omega arith

pub returns : goal.returns
returns c =
    let r = c.args.self.now in
    let last = last_told r.run r.over in
    let e = last.2 in
    let t = r.run.log.time_is in
    let m : last.0 ≡ r.run.log.time - 1 = omega arith in
    record {
      numbers = record { jobs = ap ones r.run.log.told_is; last = last.1 ∙ ap Some m };
      run = ran r.run r.over;
    }
