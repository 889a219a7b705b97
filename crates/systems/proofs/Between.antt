-- The rules between two cases, piece by piece.
use Rattle.std.proofs.Common.{◌≡◌, ℕ, ◌+◌, List, [], ◌∷◌, ◌++◌, pos, ap, ◌∙◌, ap₂, add-one}
use Rattle.book.specs.Plain.{Plain, asking}
use Rattle.rules.specs.declared.parts.Alternative.{Alternative}
use Rattle.rules.specs.Rules.{Rule}
use Rattle.grades.specs.Grades.{delay}
use Rattle.grades.specs.Systems.{each_below, when, place, tells_apart, both_do, unknown_rule}

-- the alternative by check c, where it tells s from t
abbrev pub told : Plain → ℕ → ℕ → Alternative
told b s c = record { place = place b s (asking b c); minutes = pos (delay b c) }

abbrev pub told_if : Plain → ℕ → ℕ → ℕ → List Alternative
told_if b s t c = when (tells_apart b s t c) (told b s c ∷ [])

-- the rule of job j between s and t, where both do it
abbrev pub unknown_if : Plain → ℕ → ℕ → ℕ → List Rule
unknown_if b s t j = when (both_do b s t j) (unknown_rule b s t j ∷ [])

-- a rule that begins with one alternative
abbrev pub begun : ℕ → Alternative → List Alternative → Rule
begun held first rest = record { held = held; alternatives = first ∷ rest }

made : ℕ → List Alternative → Rule
made h xs = record { held = h; alternatives = xs }

-- and that gets what one number more gives
pub longer : (x y : Rule) (held : ℕ) (first : Alternative) (n : ℕ) (f : ℕ → List Alternative) → x ≡ begun held first (each_below n f)
    → y.held ≡ x.held → y.alternatives ≡ x.alternatives ++ f n → y ≡ begun held first (each_below (n + 1) f)
unfolding made
longer x y held first n f e p q =
    rw (add-one n) (ap₂ made (p ∙ ap (λ (r : Rule). r.held) e) (q ∙ ap (λ (r : Rule). r.alternatives ++ f n) e))
