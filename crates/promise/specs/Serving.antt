-- Requests, one after another: calls go to the plain book, verdicts are on it and write over the two lists that are lent to them.
use Rattle.std.specs.Prelude.{◌≡◌, List, [], ◌∷◌, ℤ, Result}
use Rattle.book.specs.Plain.{Plain}
use Rattle.book.specs.declared.parts.Call.{Call}
use Rattle.book.specs.Fed.{fed_one, answer_one}
use Rattle.rules.specs.declared.parts.Origin.{Origin}
use Rattle.find.specs.declared.answers.Refusal.{Refusal}
use Rattle.verdicts.specs.declared.answers.StrongAnswer.{StrongAnswer}
use Rattle.verdicts.specs.declared.answers.WeakAnswer.{WeakAnswer}
use Rattle.verdicts.specs.declared.answers.DynamicAnswer.{DynamicAnswer}
use Rattle.verdicts.specs.Verdicts.{StrongAnswered, WeakAnswered, DynamicAnswered}
use Rattle.promise.specs.declared.parts.Request.{Request}
use Rattle.promise.specs.declared.parts.Request.TheVariants.{Book, Strong, Weak, Dynamic}
use Rattle.promise.specs.declared.parts.Reply.{Reply}
use Rattle.promise.specs.declared.parts.Reply.TheVariants.{Book as Booked, Strong as Strongly, Weak as Weakly, Dynamic as Dynamically}

-- the plain book, and the minutes list and the loop list as they stand
pub record Desk : Type 0 where
  pub plan : Plain
  pub minutes : List ℤ
  pub loops : List Origin

abbrev pub desk : Plain → List ℤ → List Origin → Desk
desk b minutes loops = record { plan = b; minutes = minutes; loops = loops }

-- One request, with its reply and the desk before and after it. A call does and answers what the plain book does, and touches no
-- list; a verdict leaves the book as it was, and its answer and lists are those that the verdict promises.
abbrev pub Served : Desk → Request → Reply → Desk → Type 0
Served d (Book c) r e = (r ≡ Booked (answer_one d.plan c)) × (e ≡ desk (fed_one d.plan c) d.minutes d.loops)
Served d Strong r e =
    (a : Result StrongAnswer Refusal) × (r ≡ Strongly a) × (e.plan ≡ d.plan)
    × StrongAnswered d.plan d.minutes e.minutes d.loops e.loops a
Served d Weak r e =
    (a : Result WeakAnswer Refusal) × (r ≡ Weakly a) × (e.plan ≡ d.plan)
    × WeakAnswered d.plan d.minutes e.minutes d.loops e.loops a
Served d Dynamic r e =
    (a : Result DynamicAnswer Refusal) × (r ≡ Dynamically a) × (e.plan ≡ d.plan) × (e.loops ≡ d.loops)
    × DynamicAnswered d.plan d.minutes e.minutes a

-- a list of requests, first to last, with a reply to each
abbrev pub AllServed : Desk → List Request → List Reply → Desk → Type 0
AllServed d [] rs e = (rs ≡ []) × (e ≡ d)
AllServed d (q ∷ qs) rs e = (r : Reply) × (rest : List Reply) × (f : Desk) × (rs ≡ r ∷ rest) × Served d q r f × AllServed f qs rest e

-- the calls of the book among the requests
abbrev pub calls_among : List Request → List Call
calls_among [] = []
calls_among (Book c ∷ qs) = c ∷ calls_among qs
calls_among (Strong ∷ qs) = calls_among qs
calls_among (Weak ∷ qs) = calls_among qs
calls_among (Dynamic ∷ qs) = calls_among qs
