use Rattle.std.proofs.Common.{Decides, subst}
use Rattle.std.proofs.lemmas.Bool.Decides.{same_from_decides}
use Rattle.book.specs.declared.parts.Label.{Label}
use Rattle.book.specs.Labels.{Meets}
use Rattle.book.specs.Held.{held}
use Rattle.book.specs.Done.{done}
use Rattle.book.proofs.Tests.{done_decides}
use Rattle.book.proofs.keeping.Book.done.Goals as goal

pub returns : goal.returns
returns c =
    let b = held c.args.self.now in
    let P : Label → Type 0 = λ l. Decides c.meets.result (Meets l c.args.case) in
    same_from_decides c.meets.result (done b c.args.case c.args.j) (subst P c.label.ensures c.meets.ensures)
    (done_decides b c.args.case c.args.j)
