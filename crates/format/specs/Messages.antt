-- What is wrong with a text, in words.
use Rattle.std.specs.Prelude.{ℕ, List, ◌++◌, codes, decimal}
use Rattle.book.specs.Plain.{number}
use Rattle.format.specs.declared.parts.FileFault.{FileFault}
use Rattle.format.specs.declared.parts.FileFault.TheVariants.{TooLong, Unfinished, WrongLine, NotANumber, BadName, NameTaken, NameReserved}
use Rattle.format.specs.declared.parts.FileFault.TheVariants.{UnknownName, Trailing, NamesShort}
use Rattle.format.specs.declared.parts.Reason.{Reason}
use Rattle.format.specs.declared.parts.Reason.TheVariants.{File, Book}
use Rattle.format.specs.declared.parts.Fault.{Fault}

-- each fault of a file
abbrev pub file_words : FileFault → List ℕ
file_words TooLong = codes "the text is too long"
file_words Unfinished = codes "the text ends before its last line does"
file_words WrongLine = codes "this line is not the one that is due"
file_words NotANumber = codes "a number is wanted"
file_words BadName = codes "this is no name"
file_words NameTaken = codes "the name is taken"
file_words NameReserved = codes "the name is reserved"
file_words UnknownName = codes "the name is not known"
file_words Trailing = codes "the text goes on after its last line"
file_words NamesShort = codes "there are too many jobs"

-- a refusal of the book goes by its number
abbrev pub reason_words : Reason → List ℕ
reason_words (File f) = file_words f
reason_words (Book r) = codes "the book refuses it by refusal " ++ decimal (number r)

-- a fault with its line and its byte
abbrev pub fault_words : Fault → List ℕ
fault_words f =
    codes "fault in line " ++ (decimal f.line ++ (codes " at byte " ++ (decimal f.byte ++ (codes ": " ++ reason_words f.reason))))
