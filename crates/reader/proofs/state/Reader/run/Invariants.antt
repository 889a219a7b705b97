use Rattle.std.proofs.Common.{◌-◌, length}
use Rattle.book.specs.Held.{held}
use Rattle.reader.specs.Names.{Stands}
use Rattle.reader.specs.Going.{Due}
use Rattle.reader.proofs.state.Reader.run.Given as goal

abbrev pub invariant-loop-self : goal.invariant-loop-self
invariant-loop-self l =
    Stands l.self.text.now l.names (held l.book) × Due (length l.names) l.self.section (length (held l.book).jobs)

abbrev pub decreases-loop-self : goal.decreases-loop-self
decreases-loop-self l = length l.self.text.now - l.self.rest.byte
