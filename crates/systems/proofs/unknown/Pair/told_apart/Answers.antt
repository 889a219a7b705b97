use Rattle.std.proofs.Common.{◌≡◌, Bool, ◌&&◌, false, sym, ap, ◌∙◌, rules}
use Rattle.std.proofs.Math.Bool.{and-false}
use Rattle.book.specs.Plain.{asking}
use Rattle.book.specs.Done.{done}
use Rattle.book.specs.Held.{held}
use Rattle.systems.proofs.unknown.Pair.told_apart.Goals as goal

-- a test that fails fails behind another test too
behind : (first then : Bool) → then ≡ false → then ≡ (first && then)
behind first then none = none ∙ sym (ap (λ v. first && v) none ∙ and-false first)

pub returns-else-self-c : goal.returns-else-self-c
returns-else-self-c c =
    let b = held c.args.self.now.book.now in
    behind (done b c.args.self.now.case (asking b c.args.c)) _ (search rules)
