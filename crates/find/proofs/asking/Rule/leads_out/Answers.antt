use Rattle.std.proofs.Common.{refl, rules, arith}
use Rattle.std.proofs.lemmas.Iterator.{cases_from_any, YieldsList-from_range}
use Rattle.rules.specs.Rules.{alternative}
use Rattle.rules.specs.Search.{In, Out}
use Rattle.find.proofs.Asks.{leads_from_cases}
use Rattle.find.proofs.asking.Rule.leads_out.Goals as goal

pub returns : goal.returns
returns g c =
    let k = c.args.self.now in
    let inside = c.args.marks.now.inside in
    leads_from_cases k inside c.count.result c.any.result c.count.ensures.value
    (cases_from_any _ _ _ (λ a. Out inside (alternative k a).place) (λ a. In inside (alternative k a).place) c.any.ensures.ran
    (YieldsList-from_range 0 c.count.result c.count.result refl (omega arith)) (λ x q h. search rules) (λ x q h. search rules))
