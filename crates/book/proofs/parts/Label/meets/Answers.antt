use Rattle.std.proofs.Common.{◌&&◌, eqb, arith}
use lib.Bits.{bit_and}
use Rattle.std.proofs.lemmas.Bool.Decides.{Decides-and, Decides-like}
use Rattle.book.proofs.Bits.{within_is, apart_is}
use Rattle.book.proofs.parts.Label.meets.Goals as goal

pub returns : goal.returns
returns c =
    let l = c.args.self in
    let y = within_is 8 l.yes c.args.case (omega arith) (omega arith) in
    let n = apart_is 8 c.args.case l.no (omega arith) (omega arith) in
    Decides-like (eqb (bit_and l.yes c.args.case) l.yes && eqb (bit_and c.args.case l.no) 0)
    (λ p k h. (p.0 k h, p.1 k h)) (λ m. (λ k h. (m k h).0, λ k h. (m k h).1)) (Decides-and _ _ y n)
