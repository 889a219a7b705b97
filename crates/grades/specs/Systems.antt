-- The rules of a plan for each grade, in their order, with their origins.
use Rattle.std.specs.Prelude.{◌≡◌, ℕ, zero, suc, ◌+◌, ◌*◌, ◌<◌, Bool, true, false, cond, not, ◌&&◌, List, [], ◌∷◌, ◌++◌, map, length, ℤ}
use Rattle.std.specs.Prelude.{pos, negsuc, neg_ℤ, ◌==◌}
use Rattle.book.specs.declared.parts.Kind.{Kind}
use Rattle.book.specs.declared.parts.Kind.TheVariants.{Least, Most}
use Rattle.book.specs.Labels.{bit, names}
use Rattle.book.specs.Done.{done}
use Rattle.book.specs.Plain.{Plain, job, bound, checks, cases, asking}
use Rattle.rules.specs.declared.parts.Alternative.{Alternative}
use Rattle.rules.specs.declared.parts.Origin.{Origin}
use Rattle.rules.specs.declared.parts.Origin.TheVariants.{Bound, Start, Check}
use Rattle.rules.specs.Rules.{Rule, System, at}
use Rattle.grades.specs.declared.holds.Hold.{Hold}
use Rattle.grades.specs.Grades.{Minutes, delay}

-- what each number below n gives, one after another
abbrev pub each_below : {A : Type 0} → ℕ → (ℕ → List A) → List A
each_below zero f = []
each_below (suc n) f = each_below n f ++ f n

-- the list, or nothing
abbrev pub when : {A : Type 0} → Bool → List A → List A
when true xs = xs
when false xs = []

-- at least m holds back the second job, by the first plus m; at most m holds back the first, by the second minus m
abbrev pub hold_of : Kind → ℕ → ℕ → ℤ → Origin → Hold
hold_of Least first second minutes o = record { held = second; by = first; minutes = minutes; origin = o }
hold_of Most first second minutes o = record { held = first; by = second; minutes = neg_ℤ minutes; origin = o }

abbrev pub bound_hold : Plain → ℕ → Hold
bound_hold b i = hold_of (bound b i).kind (bound b i).first (bound b i).second (bound b i).minutes (Bound i)

abbrev pub start_hold : ℕ → Hold
start_hold j = record { held = j; by = 0; minutes = pos 0; origin = Start j }

abbrev pub check_hold : Plain → ℕ → ℕ → Hold
check_hold b j c = record { held = j; by = asking b c; minutes = pos (delay b c); origin = Check c j }

-- the bounds by rising number, then each job but `start` by `start`, then each job by the checks of its label
abbrev pub bound_holds : Plain → List Hold
bound_holds b = each_below (length b.bounds) (λ i. bound_hold b i ∷ [])

abbrev pub start_holds : Plain → List Hold
start_holds b = each_below (length b.jobs) (λ j. when (not (j == 0)) (start_hold j ∷ []))

abbrev pub check_holds_of : Plain → ℕ → List Hold
check_holds_of b j = each_below (checks b) (λ c. when (names (job b j).label c) (check_hold b j c ∷ []))

abbrev pub check_holds : Plain → List Hold
check_holds b = each_below (length b.jobs) (check_holds_of b)

abbrev pub holds : Plain → List Hold
holds b = bound_holds b ++ (start_holds b ++ check_holds b)

-- whether a bound counts in a case, and whether a hold is due in it: all jobs that it names are done
abbrev pub counts : Plain → ℕ → ℕ → Bool
counts b s i = done b s (bound b i).first && done b s (bound b i).second

abbrev pub due_of : Plain → ℕ → Origin → Bool
due_of b s (Bound i) = counts b s i
due_of b s (Start j) = done b s j && done b s 0
due_of b s (Check c j) = done b s j && done b s (asking b c)

abbrev pub due : Plain → ℕ → Hold → Bool
due b s h = due_of b s h.origin

-- the holds that are due in a case
abbrev pub holds_in : Plain → ℕ → List Hold → List Hold
holds_in b s [] = []
holds_in b s (h ∷ hs) = when (due b s h) (h ∷ []) ++ holds_in b s hs

-- the rule of a hold, where job j has the place p j
abbrev pub rule_of : (ℕ → ℕ) → Hold → Rule
rule_of p h = record { held = p h.held; alternatives = record { place = p h.by; minutes = h.minutes } ∷ [] }

abbrev pub weak_rules : Plain → ℕ → (ℕ → ℕ) → List Rule
weak_rules b s p = map (rule_of p) (holds_in b s (holds b))

-- the place of a job in a case, where every case has places of its own
abbrev pub place : Plain → ℕ → ℕ → ℕ
place b s j = s * length b.jobs + j

-- check c is done in s, and s and t differ on it
abbrev pub tells_apart : Plain → ℕ → ℕ → ℕ → Bool
tells_apart b s t c = done b s (asking b c) && not (bit s c == bit t c)

abbrev pub telling : Plain → ℕ → ℕ → List Alternative
telling b s t = each_below (checks b) (λ c. when (tells_apart b s t c) (record { place = place b s (asking b c); minutes = pos (delay b c) } ∷ []))

-- a job in s is held back by the same job in t, unless a check that tells s from t is known before it
abbrev pub unknown_rule : Plain → ℕ → ℕ → ℕ → Rule
unknown_rule b s t j = record { held = place b s j; alternatives = record { place = place b t j; minutes = pos 0 } ∷ telling b s t }

abbrev pub both_do : Plain → ℕ → ℕ → ℕ → Bool
both_do b s t j = not (s == t) && (done b s j && done b t j)

abbrev pub unknown_between : Plain → ℕ → ℕ → List Rule
unknown_between b s t = each_below (length b.jobs) (λ j. when (both_do b s t j) (unknown_rule b s t j ∷ []))

abbrev pub unknown_from : Plain → ℕ → List Rule
unknown_from b s = each_below (cases b) (unknown_between b s)

abbrev pub unknown_rules : Plain → List Rule
unknown_rules b = each_below (cases b) (unknown_from b)

abbrev pub case_rules : Plain → ℕ → List Rule
case_rules b s = weak_rules b s (place b s)

abbrev pub dynamic_rules : Plain → List Rule
dynamic_rules b = each_below (cases b) (case_rules b) ++ unknown_rules b

-- the three systems: strong, weak for one case, dynamic
abbrev pub strong_system : Plain → System
strong_system b = record { places = length b.jobs; rules = map (rule_of (λ j. j)) (holds b) }

abbrev pub weak_system : Plain → ℕ → System
weak_system b s = record { places = length b.jobs; rules = weak_rules b s (λ j. j) }

abbrev pub dynamic_system : Plain → System
dynamic_system b = record { places = cases b * length b.jobs; rules = dynamic_rules b }

-- the origins of the strong and of the weak rules, one for each, in the same order
abbrev pub origins_of : List Hold → List Origin
origins_of hs = map (λ h. h.origin) hs

abbrev pub strong_origins : Plain → List Origin
strong_origins b = origins_of (holds b)

abbrev pub weak_origins : Plain → ℕ → List Origin
weak_origins b s = origins_of (holds_in b s (holds b))

-- tables read as minutes: of the strong system, of the weak systems case by case, of the dynamic system
abbrev pub strong_reads : List ℕ → Minutes
strong_reads table s j = at table j

abbrev pub weak_reads : (ℕ → List ℕ) → Minutes
weak_reads tables s j = at (tables s) j

abbrev pub reads : Plain → List ℕ → Minutes
reads b table s j = at table (place b s j)

-- in a table of the dynamic system `start` is at 0 in every case
abbrev pub FromZero : Plain → List ℕ → Type 0
FromZero b table = (s : ℕ) → s < cases b → at table (place b s 0) ≡ 0

-- the minutes of a strategy as a verdict lists them: case by case and by job number, -1 for a job not done
abbrev pub shown : Plain → Minutes → ℕ → ℕ → ℤ
shown b minute s j = cond (done b s j) (pos (minute s j)) (negsuc 0)

abbrev pub listed : Plain → Minutes → List ℤ
listed b minute = each_below (cases b) (λ s. each_below (length b.jobs) (λ j. shown b minute s j ∷ []))
