-- What the names of a plan say of its jobs.
use Rattle.std.specs.Prelude.{ℕ, List}
use Rattle.format.specs.declared.names.Names.{Names}
use Rattle.format.specs.Names.{name_of}

-- the name of a job
abbrev pub name : Names → ℕ → List ℕ
name names = name_of names.text.now names.places.now
