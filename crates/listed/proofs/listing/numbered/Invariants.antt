use Rattle.std.proofs.Common.{◌≡◌, take}
use Rattle.listed.specs.Numbered.{with_numbers}
use Rattle.listed.proofs.listing.numbered.Given as goal

abbrev pub invariant-loop-number : goal.invariant-loop-number
invariant-loop-number l = l.table ≡ with_numbers 0 (take l.number l.rows)
