use Rattle.std.proofs.Common.{◌≡◌, ℕ, ◌+◌, ◌*◌, ◌<◌, Bool, ◌&&◌, List, [], ◌∷◌, map, length, get_or, pos, neg_ℤ, ◌≤ℤ◌, sym, ap, ◌∙◌, subst, ap₂, arith}
use Rattle.book.specs.declared.parts.Job.{Job}
use Rattle.book.specs.Done.{done}
use Rattle.book.specs.Held.{held, held_sound}
use Rattle.rules.specs.Rules.{Rule}
use Rattle.rules.specs.Rows.{rule_of as row_rule}
use Rattle.rules.specs.Tables.{Adds}
use Rattle.grades.specs.declared.holds.Hold.{Hold}
use Rattle.grades.specs.Systems.{each_below, when, due, holds, rule_of, place, case_rules}
use Rattle.systems.proofs.Adding.{adds_none, adds_more, adds_when, adds_not, adds_made}
use Rattle.systems.proofs.Reading.{place_small, hold_fits}
use Rattle.systems.proofs.Due.{no_hold, if_due, in_each, by_jobs}
use Rattle.systems.proofs.holds.BookHolds.add_case.Goals as goal
use Rattle.systems.proofs.holds.BookHolds.add_case.Goals.{then-due, else-due}

pub loop-hold-init : goal.loop-hold-init
loop-hold-init c = adds_none 8192 (map row_rule c.args.out.now)

pub case_row-requires : goal.case_row-requires
case_row-requires c =
    let b = held c.args.self.now.book.now in
    let sound = held_sound c.args.self.now.book.now in
    let s = c.args.case in
    let r = c.loop-hold.hold-index in
    let all : c.rules-hold-items.result.now ≡ holds b = c.rules-hold-items.ensures.all ∙ c.args.self.now.whole in
    let within : r < length (holds b) = omega (arith, ap length all) in
    let fits = hold_fits b sound r within in
    let jobs = ap₂ ◌*◌ c.from.ensures (ap (λ (js : List Job). length js) c.jobs.ensures) in
    record {
      held = omega (arith, jobs, ap (λ (hs : List Hold). (get_or hs r no_hold).held) all, place_small b sound s _ c.requires.case fits.held_in);
      by = omega (arith, jobs, ap (λ (hs : List Hold). (get_or hs r no_hold).by) all, place_small b sound s _ c.requires.case fits.by_in);
      low = subst (λ (hs : List Hold). neg_ℤ (pos 4320) ≤ℤ (get_or hs r no_hold).minutes) (sym all) fits.low;
      high = subst (λ (hs : List Hold). (get_or hs r no_hold).minutes ≤ℤ pos 4320) (sym all) fits.high;
    }

pub loop-hold-preserved : goal.loop-hold-preserved
loop-hold-preserved c =
    let b = held c.args.self.now.book.now in
    let s = c.args.case in
    let r = c.loop-hold.hold-index in
    let all : c.rules-hold-items.result.now ≡ holds b = c.rules-hold-items.ensures.all ∙ c.args.self.now.whole in
    let within : r < length (holds b) = omega (arith, ap length all) in
    let hold = get_or (holds b) r no_hold in
    let x = rule_of (place b s) hold in
    let now = map row_rule c.loop-hold.out in
    let after = map row_rule c.if-due.out in
    let jobs : List Hold → Bool = λ hs. done b s (get_or hs r no_hold).held && done b s (get_or hs r no_hold).by in
    let same : c.due.result ≡ due b s hold = c.due.ensures ∙ (ap jobs all ∙ sym (by_jobs b s r within)) in
    let at_base : ℕ → Hold → Rule = λ n h. rule_of (λ j. n + j) h in
    let base = ap₂ at_base (ap₂ ◌*◌ c.from.ensures (ap (λ (js : List Job). length js) c.jobs.ensures)) (ap (λ (hs : List Hold). get_or hs r no_hold) all) in
    let more : Adds 8192 now (when (due b s hold) (x ∷ [])) after =
    elim c.if-due.branch [
      | then-due w ↦
          let put = adds_made 8192 row_rule c.loop-hold.out (w.case_row.result ∷ []) w.push.new.self w.push.ensures.adds in
          let one = subst (λ y. Adds 8192 now (y ∷ []) (map row_rule w.push.new.self)) (w.case_row.ensures ∙ base) put in
          adds_when 8192 (due b s hold) x now after (sym same ∙ w.if-due.true) (ap (map row_rule) w.out-is ∙ one)
      | else-due w ↦ adds_not 8192 (due b s hold) x now after (sym same ∙ w.if-due.false) (ap (map row_rule) w.out-is)
    ] in
    adds_more 8192 (map row_rule c.args.out.now) now after r (if_due b s (rule_of (place b s))) c.loop-hold.invariant more

pub returns : goal.returns
returns c =
    let b = held c.args.self.now.book.now in
    let s = c.args.case in
    let f = if_due b s (rule_of (place b s)) in
    let all : c.rules-hold-items.result.now ≡ holds b = c.rules-hold-items.ensures.all ∙ c.args.self.now.whole in
    let end : c.loop-hold.hold-index ≡ length (holds b) = omega (arith, ap length all) in
    let made : each_below (length (holds b)) f ≡ case_rules b s = sym (in_each b s (rule_of (place b s)) (holds b)) in
    subst (λ xs. Adds 8192 (map row_rule c.args.out.now) xs (map row_rule c.loop-hold.out)) (ap (λ n. each_below n f) end ∙ made) c.loop-hold.invariant
