use Rattle.std.proofs.Common.{◌*◌, length, ap, arith}
use Rattle.book.specs.Held.{held, held_sound}
use Rattle.verdicts.proofs.Grades.{part_fits}
use Rattle.verdicts.proofs.verdicts.end_dynamic.Goals as goal

pub fill-requires : goal.fill-requires
fill-requires c =
    let book = c.args.book.now in
    let long = ap length c.jobs-jobs.ensures in
    record {
      near = omega (arith, (held_sound book).few_jobs);
      within = λ s h. omega (arith, part_fits (held book) (held_sound book) s h, ap (λ n. s * n) long);
      room = c.requires.room;
    }
