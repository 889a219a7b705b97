use Rattle.std.proofs.Common.{◌+◌, eqb, refl, rules, tests, arith}
use Rattle.std.proofs.lemmas.List.{take_rest, length-take-le}
use Rattle.std.proofs.lemmas.Iterator.{YieldsList-from_slice}
use Rattle.std.proofs.lemmas.Iterator.Search.{position_from_yields_List}
use Rattle.reader.proofs.Pieces.{CutAt, cut_at}
use Rattle.reader.proofs.piece.Piece.part.Goals as goal

pub returns-in_default : goal.returns-in_default
returns-in_default c =
    let w = c.args.self.bytes.now in
    let at = position_from_yields_List (λ x. eqb x c.args.c) _ _ c.position.result c.position.ensures.ran (YieldsList-from_slice w cc)
    (λ x b q k. search (rules, tests)) in
    let h = rw c.in_default.is at (cut_at c.args.c w c.position.result at) in
    record { line = refl; byte = refl; is = h; after = refl }

pub returns : goal.returns
returns c =
    let w = c.args.self.bytes.now in
    let at = position_from_yields_List (λ x. eqb x c.args.c) _ _ c.position.result c.position.ensures.ran (YieldsList-from_slice w cc)
    (λ x b q k. search (rules, tests)) in
    let h : CutAt c.args.c w c.in-Some.n = rw c.in-Some.is at (cut_at c.args.c w c.position.result at) in
    let n = c.in-Some.n in
    let long = length-take-le n w (omega (arith, h.0)) in
    let rest = take_rest w (n + 1) in
    record {
      line = refl;
      byte = refl;
      is = rw rest h.1;
      after = record { line = refl; byte = omega (arith, long); all = rw rest h.2 };
    }
