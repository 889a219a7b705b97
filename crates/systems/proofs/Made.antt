-- What the systems are made of.
use Rattle.std.proofs.Common.{◌≡◌, ℕ, ◌*◌, List, [], map, length, ap, subst, ap₂}
use Rattle.book.specs.Plain.{Plain, cases}
use Rattle.book.specs.Sound.{Sound}
use Rattle.rules.specs.declared.rows.Row.{Row}
use Rattle.rules.specs.Rules.{Rule, System}
use Rattle.rules.specs.Rows.{system_by, rule_of as row_rule}
use Rattle.rules.specs.Tables.{Adds}
use Rattle.grades.specs.declared.holds.Hold.{Hold}
use Rattle.grades.specs.Systems.{each_below, rule_of, case_rules, unknown_rules, dynamic_rules, dynamic_system}
use Rattle.grades.proofs.Limits.{dynamic_few}
use Rattle.systems.proofs.Adding.{adds_then, adds_all}

system : ℕ → List Rule → System
system n rules = record { places = n; rules = rules }

-- a place for each job, and a rule for each hold
pub hold_system : (n m : ℕ) (xs ys : List Hold) → n ≡ m → xs ≡ ys → system_by (rule_of (λ j. j)) n xs ≡ system_by (rule_of (λ j. j)) m ys
unfolding system
hold_system n m xs ys e f = ap₂ system e (ap (map (rule_of (λ j. j))) f)

-- the rules of each case, then those between cases: the dynamic system
pub dynamic_made : (b : Plain) → Sound b → (t0 t1 t2 : List Row) (places : ℕ) → t0 ≡ []
    → Adds 8192 (map row_rule t0) (each_below (cases b) (case_rules b)) (map row_rule t1)
    → Adds 8192 (map row_rule t1) (unknown_rules b) (map row_rule t2)
    → places ≡ cases b * length b.jobs → system_by row_rule places t2 ≡ dynamic_system b
unfolding system
dynamic_made b sound t0 t1 t2 places e p q h =
    let first = each_below (cases b) (case_rules b) in
    let both = adds_then 8192 (map row_rule t0) first (map row_rule t1) (unknown_rules b) (map row_rule t2) p q in
    let whole = subst (λ xs. Adds 8192 xs (dynamic_rules b) (map row_rule t2)) (ap (map row_rule) e) both in
    ap₂ system h (adds_all 8192 (dynamic_rules b) (map row_rule t2) whole (dynamic_few b sound))
