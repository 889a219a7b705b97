-- The lowest check sought is the check asked for.
use Rattle.std.proofs.Common.{ℕ, List, Some, None}
use Rattle.book.specs.Plain.{Plain}
use Rattle.walks.specs.declared.parts.Event.{Event}
use Rattle.walks.specs.Logs.{just_told, Awaited, Asked, NoneAwaited}
use Rattle.walks.specs.Standing.{heard_set}
use Rattle.walks.specs.Sought.{Sought, LowestSought}
use Rattle.walks.proofs.Reports.{heard_in, in_heard}

module _ (b : Plain) (log : List Event) where
  awaited : (c : ℕ) → Sought b (just_told log) (heard_set log) c → Awaited b log c
  awaited c s = (s.known, s.told, λ h. s.unheard (heard_in log c h))

  sought : (c : ℕ) → Awaited b log c → Sought b (just_told log) (heard_set log) c
  sought c a = record { known = a.0; told = a.1; unheard = λ h. a.2 (in_heard log c h) }

  pub asked_for : (c : ℕ) → LowestSought b (just_told log) (heard_set log) (Some c) → Asked b log c
  asked_for c h = (awaited c h.0, λ d l a. h.1 d l (sought d a))

  pub none_asked : LowestSought b (just_told log) (heard_set log) None → NoneAwaited b log
  none_asked h c a = h c (sought c a)
