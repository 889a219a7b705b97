use Rattle.std.proofs.Common.{◌≡◌, ◌^◌, ◌<◌, drop}
use Rattle.format.specs.Faults.{digits, number_after}
use Rattle.reader.proofs.scan.natural.Given as goal

abbrev pub invariant-loop-byte : goal.invariant-loop-byte
invariant-loop-byte l =
    (digits (drop l.byte-index l.word) ≡ digits l.word) ×
    (number_after l.value (drop l.byte-index l.word) ≡ number_after 0 l.word) ×
    (l.value < 10 ^ l.byte-index)
