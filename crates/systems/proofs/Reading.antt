-- What is read off a book while its rules are collected.
use Rattle.std.proofs.Common.{ℕ, ◌+◌, ◌*◌, ◌<◌, length, get_or, arith}
use Rattle.book.specs.Plain.{Plain, cases}
use Rattle.book.specs.Sound.{Sound}
use Rattle.grades.specs.Systems.{holds}
use Rattle.grades.proofs.Lists.{every_at}
use Rattle.grades.proofs.Limits.{Fits, holds_fit, place_in, few_places}
use Rattle.systems.proofs.Due.{no_hold}

-- the places of a case
pub place_small : (b : Plain) → Sound b → (s j : ℕ) → s < cases b → j < length b.jobs → s * length b.jobs + j < 320
place_small b sound s j h i = omega (arith, place_in b sound s j h i, few_places b sound)

-- a hold of the book fits
pub hold_fits : (b : Plain) → Sound b → (r : ℕ) → r < length (holds b) → Fits b (get_or (holds b) r no_hold)
hold_fits b sound r h = every_at (Fits b) (holds b) no_hold (holds_fit b sound) r h
