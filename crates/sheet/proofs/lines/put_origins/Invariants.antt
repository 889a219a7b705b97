use Rattle.std.proofs.Common.{◌≡◌, ◌++◌}
use Rattle.book.specs.Held.{held}
use Rattle.format.specs.Named.{name}
use Rattle.sheet.specs.Sheet.{origin_lines}
use Rattle.sheet.proofs.lines.put_origins.Given as goal

abbrev pub invariant-loop-origin : goal.invariant-loop-origin
invariant-loop-origin l = l.page ≡ l.initial.page ++ origin_lines (held l.plan.book.now) (name l.plan.names) l.origins l.origin-index
