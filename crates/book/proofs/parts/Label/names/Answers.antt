use Rattle.std.proofs.Common.{sym, ◌∙◌, ltb, false, ◌≡◌, arith}
use Rattle.std.proofs.lemmas.Bool.Decides.{nat_tests}
use Rattle.book.proofs.Tests.{names_is, names_none}
use Rattle.book.proofs.parts.Label.names.Goals as goal

pub returns-then-c-lt8 : goal.returns-then-c-lt8
returns-then-c-lt8 c = names_is c.args.self c.args.c

pub returns-else-c-lt8 : goal.returns-else-c-lt8
returns-else-c-lt8 c =
    let past : ltb c.args.c 8 ≡ false = grind (arith, nat_tests) in
    past ∙ sym (names_none c.args.self c.args.c (omega arith) (omega arith) (omega arith))
