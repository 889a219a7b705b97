use Rattle.std.proofs.Common.{◌≤◌, length, ap, mul-le-mul, arith}
use Rattle.book.specs.Held.{held_sound}
use Rattle.verdicts.proofs.verdicts.size.Goals as goal

pub overflow_mul-result : goal.overflow_mul-result
overflow_mul-result c =
    let long = ap length c.jobs.ensures in
    let few : length c.jobs.result.now ≤ 20 = omega (arith, (held_sound c.args.book.now).few_jobs) in
    let many : c.cases.result ≤ 256 = omega arith in
    record { fits = omega (arith, mul-le-mul many few) }
