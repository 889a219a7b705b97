-- Room for all that a book may ever hold: after its making it wants no more memory.
use Rattle.std.specs.Prelude.{◌≤◌, vec_capacity}
use Rattle.book.specs.declared.parts.Table.{Table}

abbrev pub Roomy : Table → Type 0
Roomy t = (20 ≤ vec_capacity t.jobs) × (64 ≤ vec_capacity t.bounds)
