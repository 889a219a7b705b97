-- What a book holds, as a plain book.
use Rattle.book.specs.declared.keeping.Book.{Book}
use Rattle.book.specs.Plain.{Plain, plain}
use Rattle.book.specs.Sound.{Sound}

abbrev pub held : Book → Plain
held b = plain b.table

-- every book is sound
pub held_sound : (b : Book) → Sound (held b)
held_sound b = b.wellformed
