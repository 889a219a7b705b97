use Rattle.std.proofs.Common.{map, sym, subst}
use Rattle.book.specs.declared.keeping.Book.{Book}
use Rattle.book.specs.Plain.{cases}
use Rattle.book.specs.Held.{held, held_sound}
use Rattle.rules.specs.Rules.{Sound}
use Rattle.rules.specs.Rows.{rule_of}
use Rattle.rules.specs.Tables.{Adds}
use Rattle.grades.specs.Systems.{each_below, case_rules}
use Rattle.grades.proofs.Limits.{systems_sound}
use Rattle.systems.proofs.Made.{dynamic_made}
use Rattle.systems.proofs.graded.dynamic_system.Goals as goal

pub returns : goal.returns
returns c =
    let first = subst (λ (k : Book). Adds 8192 (map rule_of c.new-table.result) (each_below (cases (held k)) (case_rules (held k)))
    (map rule_of c.add_cases.new.out)) c.of.ensures c.add_cases.ensures in
    dynamic_made (held c.args.book.now) (held_sound c.args.book.now) c.new-table.result c.add_cases.new.out c.add_unknown.new.out _
    c.new-table.ensures first c.add_unknown.ensures c.case_places.ensures

pub invariant_of-result : goal.invariant_of-result
invariant_of-result c =
    let b = held c.args.book.now in
    let sound = held_sound c.args.book.now in
    let first = subst (λ (k : Book). Adds 8192 (map rule_of c.new-table.result) (each_below (cases (held k)) (case_rules (held k)))
    (map rule_of c.add_cases.new.out)) c.of.ensures c.add_cases.ensures in
    let made = dynamic_made b sound c.new-table.result c.add_cases.new.out c.add_unknown.new.out _
    c.new-table.ensures first c.add_unknown.ensures c.case_places.ensures in
    record { sound = subst Sound (sym made) (systems_sound b sound).2 }
