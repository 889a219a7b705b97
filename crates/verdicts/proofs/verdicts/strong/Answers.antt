use Rattle.std.proofs.Common.{length, refl, arith}
use Rattle.book.specs.Held.{held, held_sound}
use Rattle.grades.specs.Systems.{strong_system}
use Rattle.verdicts.proofs.Grades.{strong_ends, never_short}
use Rattle.verdicts.proofs.verdicts.strong.Goals as goal

pub returns-in_err-found : goal.returns-in_err-found
returns-in_err-found c =
    let book = c.args.book.now in
    absurd
    (never_short (held book) (held_sound book) (strong_system (held book)) 20 (length c.args.loops.now) c.in_err-found.field-0.0 refl
    (held_sound book).few_jobs c.if-loops-lt20.false c.in_err-found.ensures.0)

pub returns : goal.returns
returns c =
    let book = c.args.book.now in (
      (omega (arith, c.size.ensures), c.if-loops-lt20.false),
      strong_ends (held book) (held_sound book) c.in_ok-found.found c.args.minutes.now c.end_strong.new.minutes
          c.search_strong.new.table c.args.loops.now c.search_strong.new.loops c.end_strong.result c.in_ok-found.ensures
          c.end_strong.ensures,
    )
