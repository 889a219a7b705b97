-- Each fault of the file, met by a short text.
use Rattle.std.specs.Prelude.{◌≡◌, Err, codes}
use Rattle.book.specs.declared.parts.Refusal.TheVariants.{BothWays}
use Rattle.format.specs.declared.parts.FileFault.TheVariants.{Unfinished, WrongLine, NotANumber, BadName, NameTaken, NameReserved, UnknownName}
use Rattle.format.specs.declared.parts.FileFault.TheVariants.{Trailing, NamesShort}
use Rattle.format.specs.declared.parts.Reason.TheVariants.{Book}
use Rattle.format.specs.Faults.{outcome, fault}

abbrev pub FaultsMet : Type 0
FaultsMet = (outcome 99 (codes "jobs 1\ncheck wet") ≡ fault Unfinished 2 16)
    × (outcome 99 (codes "jobs 1 1\n") ≡ fault WrongLine 1 0)
    × (outcome 99 (codes "jobs 01\n") ≡ fault NotANumber 1 5)
    × (outcome 99 (codes "jobs 0\nbounds 1\nleast start start -0\n") ≡ fault NotANumber 3 34)
    × (outcome 99 (codes "jobs 1\njob a  b\nbounds 0\n") ≡ fault BadName 2 13)
    × (outcome 99 (codes "jobs 1\njob start\nbounds 0\n") ≡ fault NameTaken 2 11)
    × (outcome 99 (codes "jobs 1\njob loop\nbounds 0\n") ≡ fault NameReserved 2 11)
    × (outcome 99 (codes "jobs 1\njob a +wet\nbounds 0\n") ≡ fault UnknownName 2 13)
    × (outcome 99 (codes "jobs 0\nbounds 0\nx") ≡ fault Trailing 3 16)
    × (outcome 0 (codes "jobs 1\n") ≡ fault NamesShort 1 0)
    × (outcome 99 (codes "jobs 2\ncheck a\njob b +a -a\n") ≡ Err (record { reason = Book BothWays; line = 3; byte = 15 }))
