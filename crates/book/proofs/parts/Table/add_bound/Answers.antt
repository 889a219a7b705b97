use Rattle.std.proofs.Common.{sym, arith}
use Rattle.book.specs.Plain.{plain}
use Rattle.book.proofs.Kept.{bound_taken}
use Rattle.book.proofs.parts.Table.add_bound.Goals as goal

pub push_reserved-requires : goal.push_reserved-requires
push_reserved-requires c =
    let t = bound_taken (plain c.args.self.now) c.args.bound (sym c.in_ok-allow_bound.ensures) in
    omega (arith, t.1, c.args.self.now.bounds.ok)
