use Rattle.book.proofs.Always.{stays_sound}
use Rattle.book.proofs.theorems.stays_sound.Goals as goal

pub returns : goal.returns
returns c = stays_sound
