-- Every origin of a plan's rules names a bound, jobs and a check of the book.
use Rattle.std.proofs.Common.{ℕ, zero, suc, ◌<◌, not, eqb, List, [], ◌∷◌, ◌++◌, map, length, get_or, arith}
use lib.ListN.{length-map}
use Rattle.book.specs.declared.parts.Kind.{Kind}
use Rattle.book.specs.declared.parts.Kind.TheVariants.{Least, Most}
use Rattle.book.specs.Labels.{names}
use Rattle.book.specs.Plain.{Plain, job, bound, checks}
use Rattle.rules.specs.declared.parts.Origin.TheVariants.{Bound}
use Rattle.std.proofs.lemmas.List.{get_or-map}
use Rattle.rules.specs.Rules.{System}
use Rattle.rules.specs.Loops.{Loop, Chain, way}
use Rattle.find.specs.Answers.{origin_of}
use Rattle.grades.specs.declared.holds.Hold.{Hold}
use Rattle.grades.specs.Systems.{when, due, hold_of, bound_hold, start_hold, check_hold, bound_holds, start_holds, check_holds_of}
use Rattle.grades.specs.Systems.{check_holds, holds, holds_in, rule_of, origins_of, weak_origins, weak_system}
use Rattle.grades.proofs.Lists.{Every, every_append, every_below, every_when}
use Rattle.sheet.specs.Sheet.{Within}

abbrev KnownHold : Plain → Hold → Type 0
KnownHold b h = Within b h.origin

bound_known : (b : Plain) (k : Kind) (i : ℕ) → i < length b.bounds → KnownHold b (hold_of k (bound b i).first (bound b i).second (bound b i).minutes (Bound i))
bound_known b Least i h = h
bound_known b Most i h = h

holds_known : (b : Plain) → Every (KnownHold b) (holds b)
holds_known b =
    every_append (KnownHold b) (bound_holds b) (start_holds b ++ check_holds b)
    (every_below (KnownHold b) (length b.bounds) (λ n. bound_hold b n ∷ []) (λ i h. (bound_known b (bound b i).kind i h, tt)))
    (every_append (KnownHold b) (start_holds b) (check_holds b)
    (every_below (KnownHold b) (length b.jobs) (λ j. when (not (eqb j 0)) (start_hold j ∷ []))
    (λ j h. every_when (KnownHold b) (not (eqb j 0)) (start_hold j) (λ t. h)))
    (every_below (KnownHold b) (length b.jobs) (check_holds_of b) (λ j h.
    every_below (KnownHold b) (checks b) (λ c. when (names (job b j).label c) (check_hold b j c ∷ []))
    (λ c l. every_when (KnownHold b) (names (job b j).label c) (check_hold b j c) (λ t. (l, h))))))

in_known : (b : Plain) (s : ℕ) (hs : List Hold) → Every (KnownHold b) hs → Every (KnownHold b) (holds_in b s hs)
in_known b s [] e = tt
in_known b s (h ∷ hs) e = every_append (KnownHold b) (when (due b s h) (h ∷ [])) (holds_in b s hs) (every_when (KnownHold b) (due b s h) h (λ t. e.0))
    (in_known b s hs e.1)

known_at : (b : Plain) (hs : List Hold) (r : ℕ) → r < length hs → Every (KnownHold b) hs → Within b (origin_of (origins_of hs) r)
known_at b [] r h e = absurd (omega arith)
known_at b (h ∷ hs) zero l e = e.0
known_at b (h ∷ hs) (suc r) l e = known_at b hs r (omega arith) e.1

chain_in : (m : System) (rs : List ℕ) (p q i : ℕ) → Chain m p rs q → i < length rs → get_or rs i 0 < length m.rules
chain_in m [] p q i c h = absurd (omega arith)
chain_in m (r ∷ rs) p q zero c h = c.0
chain_in m (r ∷ rs) p q (suc i) c h = chain_in m rs (way m r).place q i c.2 (omega arith)

-- what a loop of a case names
pub loop_known : (b : Plain) (s : ℕ) (rs : List ℕ) → Loop (weak_system b s) rs → (i : ℕ) → i < length rs
    → Within b (get_or (map (origin_of (weak_origins b s)) rs) i (Bound 0))
loop_known b s rs loop i h =
    let hs = holds_in b s (holds b) in
    let r = get_or rs i 0 in
    let inn = chain_in (weak_system b s) rs loop.from loop.from i loop.closes h in
    let long = length-map hs (rule_of (λ j. j)) in
    rw (get_or-map (origin_of (weak_origins b s)) rs i 0 (Bound 0) h) (known_at b hs r (omega (arith, inn, long)) (in_known b s (holds b) (holds_known b)))
