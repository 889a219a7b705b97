use Rattle.std.proofs.Common.{◌≡◌, ◌+◌, drop}
use Rattle.reader.specs.Names.{place_from}
use Rattle.reader.proofs.names.job_number.Given as goal

abbrev pub invariant-loop-i : goal.invariant-loop-i
invariant-loop-i l = place_from (l.i + 1) l.text (drop l.i l.names) l.word ≡ place_from 1 l.text l.names l.word
