use Rattle.std.proofs.Common.{◌+◌, ap, Some, ◌∙◌}
use Rattle.reader.specs.Pieces.{Parted}
use Rattle.reader.proofs.Pieces.{lies_front, lies_rest, ends_rest}
use Rattle.reader.proofs.state.Reader.line.Goals as goal

pub invariant_of-self-2 : goal.invariant_of-self-2
invariant_of-self-2 c =
    let r = c.args.self.now in
    let p : Parted 10 r.rest c.part.result.0 (Some c.in-Some.rest) = rw c.in-Some.is at c.part.ensures in
    let l = lies_rest 10 r.text.now r.rest c.part.result.0 c.in-Some.rest r.lies p in
    record {
      lies = record { short = r.lies.short; within = l.0; there = l.1 };
      ends = ends_rest 10 r.text.now r.rest c.part.result.0 c.in-Some.rest p ∙ r.ends;
    }

pub returns-clause-cases : goal.returns-clause-cases
returns-clause-cases c =
    let r = c.args.self.now in
    let p : Parted 10 r.rest c.part.result.0 (Some c.in-Some.rest) = rw c.in-Some.is at c.part.ensures in
    record {
      numbered = p.line;
      begun = p.byte;
      lies = lies_front 10 r.text.now r.rest c.part.result.0 (Some c.in-Some.rest) r.lies p;
      left = p.is;
      onward = p.after.byte;
      counted = ap (λ n. n + 1) p.after.line;
    }
