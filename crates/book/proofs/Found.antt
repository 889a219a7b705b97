-- Finding the job of a check.
use Rattle.std.proofs.Common.{◌≡◌, ℕ, ◌<◌, cond, length, Some, None, ap}
use Rattle.std.proofs.lemmas.Bool.Decides.{Decides-ltb}
use Rattle.book.specs.Plain.{Plain, checks, asking}
use Rattle.book.specs.Sound.{Sound}
use Rattle.book.specs.Done.{check_job}

-- a check of the book is one of its jobs
pub check_found : (b : Plain) → Sound b → (c : ℕ) → c < checks b → check_job b c ≡ Some (asking b c)
check_found b sound c h = ap (λ t. cond t (Some (asking b c)) None) ((Decides-ltb (asking b c) (length b.jobs)).1 (sound.asked c h).0)
