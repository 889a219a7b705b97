-- What is recorded in a log.
use Rattle.std.specs.Prelude.{List, reverse}
use Rattle.walks.specs.declared.parts.Event.{Event}
use Rattle.runs.specs.declared.log.Log.{Log}

-- the events of a log, the newest first
abbrev pub recorded : Log → List Event
recorded l = reverse l.events.items
