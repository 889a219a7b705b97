use Rattle.std.proofs.Common.{◌-◌, ◌≡◌, take, ◌≤◌, length}
use Rattle.std.specs.Io.KnownBytes.{Consumes}
use Rattle.input.proofs.read_text.Given as goal

-- what was read so far stands at the front of the room
abbrev pub invariant-loop-len : goal.invariant-loop-len
invariant-loop-len g l = (l.len ≤ 8193) × (length l.room ≡ 8193) × Consumes (g.R.Read.remaining l.fn.reader) (g.R.Read.remaining l.reader) (take l.len l.room)

abbrev pub decreases-loop-len : goal.decreases-loop-len
decreases-loop-len g l = 8193 - l.len
