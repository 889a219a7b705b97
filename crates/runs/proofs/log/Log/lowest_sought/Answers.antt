use Rattle.std.proofs.Common.{◌≡◌, ℕ, ◌<◌, Some, None, Option, refl, arith}
use Rattle.std.proofs.iter.runs.Sources.{ranges}
use Rattle.book.specs.Held.{held}
use Rattle.book.specs.Plain.{Plain, checks}
use Rattle.walks.specs.Sought.{Sought, LowestSought}
use Rattle.runs.proofs.log.Log.lowest_sought.Goals as goal

lowest : (b : Plain) (just heard : ℕ) (r : Option ℕ) →
    (r ≡ None → (k : ℕ) → k < checks b → Sought b just heard k → ⊥) →
    ((i : ℕ) → r ≡ Some i → Sought b just heard i × ((k : ℕ) → k < i → Sought b just heard k → ⊥)) →
    LowestSought b just heard r
lowest b just heard None h g = λ c s. h refl c s.known s
lowest b just heard (Some c) h g = g c refl

pub returns : goal.returns
returns c =
    let p = c.find.ensures.runs.0 in
    lowest (held c.args.book.now) c.args.self.now.just c.args.self.now.heard c.find.result
    (λ e k l s. let here : p.at k ≡ Some k = grind (arith, ranges) in grind (arith, ranges))
    (λ i e. (grind (arith, ranges), λ k l s. let here : p.at k ≡ Some k = grind (arith, ranges) in grind (arith, ranges)))
