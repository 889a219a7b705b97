use Rattle.std.proofs.Common.{◌≡◌, ℕ, ◌≤◌, Bool, leb, ◌&&◌, List, [], ◌∷◌, length, refl, ap, ◌∙◌, rules, tests, arith}
use Rattle.std.specs.Char.{is_ascii_lowercase}
use Rattle.std.specs.List.{list_all}
use Rattle.std.specs.Range.{range_inclusive_start, range_inclusive_end}
use Rattle.std.proofs.lemmas.Map.Keys.{le_from_is_le}
use Rattle.std.proofs.lemmas.Bool.Decides.{nat_tests}
use Rattle.std.proofs.lemmas.Iterator.{YieldsList-from_slice}
use Rattle.std.proofs.lemmas.Iterator.Search.{all_from_yields_List}
use Rattle.format.specs.Faults.{letters, name_form}
use Rattle.reader.proofs.scan.is_name.Goals as goal

all_letters : (w : List ℕ) → list_all is_ascii_lowercase w ≡ letters w
all_letters [] = refl
all_letters (c ∷ cs) = ap (λ t. (leb 97 c && leb c 122) && t) (all_letters cs)

name_is : (w : List ℕ) (r : Bool) → 1 ≤ length w → length w ≤ 8 → r ≡ letters w → r ≡ name_form w
name_is w r lo hi e = grind (arith, nat_tests)

pub returns-then-contains : goal.returns-then-contains
returns-then-contains c =
    let w = c.args.word.now in
    let all = all_from_yields_List is_ascii_lowercase _ _ c.all.result c.all.ensures.ran (YieldsList-from_slice w cc) (λ x b q k. search (rules, tests)) in
    let some : 1 ≤ length w = omega (arith, le_from_is_le (range_inclusive_start c.new.result) (length w) c.if-contains.ensures.cases.0) in
    let few : length w ≤ 8 = omega (arith, le_from_is_le (length w) (range_inclusive_end c.new.result) c.if-contains.ensures.cases.1) in
    name_is w c.all.result some few (all ∙ all_letters w)
