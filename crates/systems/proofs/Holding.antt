-- The holds of a book, piece by piece.
use Rattle.std.proofs.Common.{ℕ, not, eqb, List, [], ◌∷◌}
use Rattle.book.specs.Labels.{names}
use Rattle.book.specs.Plain.{Plain, job}
use Rattle.grades.specs.declared.holds.Hold.{Hold}
use Rattle.grades.specs.Systems.{when, start_hold, check_hold}

abbrev pub start_if : ℕ → List Hold
start_if j = when (not (eqb j 0)) (start_hold j ∷ [])

abbrev pub check_if : Plain → ℕ → ℕ → List Hold
check_if b j c = when (names (job b j).label c) (check_hold b j c ∷ [])
