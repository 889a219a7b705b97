use Rattle.std.proofs.Common.{◌≡◌, min, map, Some, sym, ◌∙◌, rules, arith}
use Rattle.std.specs.List.{range_with_len, reduce}
use Rattle.std.proofs.lemmas.Iterator.{YieldsList-from_map, YieldsList-from_range}
use Rattle.std.proofs.lemmas.Iterator.Adapters.{option_map_id}
use Rattle.std.proofs.lemmas.Iterator.Consumers.{min_from_yields_List}
use Rattle.rules.specs.Rules.{alternative}
use Rattle.rules.specs.Search.{asked_by}
use Rattle.find.proofs.Asks.{least_from_reduce}
use Rattle.find.proofs.asking.Rule.least_asked.Goals as goal

pub returns : goal.returns
returns g c =
    let k = c.args.self.now in
    let table = c.args.table.now.minutes in
    let n = c.count.result in
    let least = min_from_yields_List c.map.result _ c.min.ensures.ran
    (YieldsList-from_map _ (λ a. asked_by table (alternative k a)) (YieldsList-from_range 0 n n c.map.ensures.source (omega arith))
    c.map.ensures.closure (λ x r q h. search rules)) in
    let is : reduce min (map (λ a. asked_by table (alternative k a)) (range_with_len 0 n)) ≡ Some c.unwrap.result =
    sym least ∙ option_map_id c.min.result ∙ c.unwrap.ensures in
    least_from_reduce table k n c.unwrap.result c.count.ensures.value is
