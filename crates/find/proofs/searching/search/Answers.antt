use Rattle.std.proofs.Common.{◌≡◌, ℕ, ◌+◌, ◌*◌, ◌≤◌, length, sum, sym, subst, arith}
use Rattle.rules.specs.Rules.{at}
use Rattle.rules.specs.Search.{AllKept}
use Rattle.rules.proofs.Bars.{barred}
use Rattle.rules.proofs.Peeling.{peeled_in, peeled_low}
use Rattle.rules.proofs.Steps.{sum_bound, good_again}
use Rattle.find.proofs.searching.search.Goals as goal

pub loop-marks-init : goal.loop-marks-init
loop-marks-init g c = c.new-table.ensures (g.T.RuleSystem.meaning c.args.system.now)

pub returns-in-Some : goal.returns-in-Some
returns-in-Some g c =
    let m = g.T.RuleSystem.meaning c.args.system.now in
    let sound = g.T.RuleSystem.sound c.args.system.now in
    let table = c.round.new.self.minutes in
    let by = c.round.new.self.by in
    let good = c.round.ensures.good in
    let left = c.peel.new.self.inside in
    let marked = peeled_in m sound table by good.recorded c.mark_above_zero.new.self.inside left c.mark_above_zero.ensures.marks c.peel.ensures.peels in
    let high = 1382400 + 4320 * length m.rules in
    record { inside = left; barred = barred m table by good.recorded left marked c.peel.ensures.closed high good.low; here = c.in-Some.ensures }

-- after a round that goes on, every number is low
low_again : (g : _) (c : goal.In_default g) (p : ℕ) → at c.round.new.self.minutes p ≤ 1382400
low_again g c p =
    let m = g.T.RuleSystem.meaning c.args.system.now in
    let sound = g.T.RuleSystem.sound c.args.system.now in
    let table = c.round.new.self.minutes in
    let by = c.round.new.self.by in
    let marks = c.mark_above_zero.new.self.inside in
    let long : length marks ≡ 320 = c.mark_above_zero.ensures.wide in
    peeled_low m sound table by c.round.ensures.good.recorded marks c.peel.new.self.inside long c.mark_above_zero.ensures.marks c.peel.ensures.peels p
    (c.in_default.ensures p)

pub loop-marks-smaller : goal.loop-marks-smaller
loop-marks-smaller g c =
    let after = c.round.new.self.minutes in
    let low : sum after ≤ length after * 1382400 = sum_bound 1382400 after (low_again g c) in
    omega (arith, low, c.loop-marks-test.ensures.grown, c.round.ensures.good.wide)

pub loop-marks-preserved : goal.loop-marks-preserved
loop-marks-preserved g c =
    let m = g.T.RuleSystem.meaning c.args.system.now in
    good_again m (length m.rules) c.round.new.self.minutes c.round.new.self.by (low_again g c) c.round.ensures.good

pub returns : goal.returns
returns g c =
    let m = g.T.RuleSystem.meaning c.args.system.now in
    let table = c.round.new.self.minutes in
    let (e, kept) = c.loop-marks-test.ensures.grown in
    let low : (p : ℕ) → at table p ≤ 1382400 = λ p. subst (λ t. at t p ≤ 1382400) (sym e) (omega (arith, c.loop-marks.invariant.low p)) in
    (good_again m (length m.rules) table c.round.new.self.by low c.round.ensures.good, subst (AllKept m) (sym e) kept)
