use Rattle.std.proofs.Common.{◌≡◌, ℕ, ◌≤◌, cond, length, Some, None, ltb, ap, ◌∙◌, ap₂, arith}
use Rattle.std.specs.Option.{unwrap_or}
use Rattle.std.proofs.lemmas.Bool.Decides.{nat_tests}
use Rattle.std.proofs.lemmas.List.Sums.{prefix_len-le-length}
use Rattle.book.specs.Plain.{asking}
use Rattle.book.specs.Held.{held}
use Rattle.systems.proofs.holds.asking.Goals as goal

-- where none passes, the place is past the last
or_past : (i n : ℕ) → i ≤ n → unwrap_or (cond (ltb i n) (Some i) None) n ≡ i
or_past i n h = grind (arith, nat_tests)

pub returns : goal.returns
returns c =
    let b = held c.args.book.now in
    c.unwrap_or.ensures ∙ (ap₂ unwrap_or c.check_job.ensures (ap length c.jobs.ensures)
    ∙ or_past (asking b c.args.c) (length b.jobs) (prefix_len-le-length _ b.jobs))
