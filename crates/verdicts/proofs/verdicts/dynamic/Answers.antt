use Rattle.std.proofs.Common.{arith}
use Rattle.book.specs.Held.{held, held_sound}
use Rattle.verdicts.proofs.Grades.{size_fits, dynamic_ends}
use Rattle.verdicts.proofs.verdicts.dynamic.Goals as goal

pub returns-in_err-found : goal.returns-in_err-found
returns-in_err-found c =
    let book = c.args.book.now in
    absurd (omega (arith, c.in_err-found.ensures.1, size_fits (held book) (held_sound book)))

pub returns : goal.returns
returns c =
    let book = c.args.book.now in (
      omega (arith, c.size.ensures),
      dynamic_ends (held book) (held_sound book) c.in_ok-found.found c.args.minutes.now c.end_dynamic.new.minutes
          c.search_dynamic.new.table c.end_dynamic.result c.in_ok-found.ensures c.end_dynamic.ensures,
    )
