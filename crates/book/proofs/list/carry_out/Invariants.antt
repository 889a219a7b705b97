use Rattle.std.proofs.Common.{◌≡◌, ◌≤◌, length, take, vec_items, vec_len, vec_capacity}
use Rattle.book.specs.Plain.{new_book}
use Rattle.book.specs.Held.{held}
use Rattle.book.specs.Fed.{fed, answers}
use Rattle.book.proofs.list.carry_out.Given as goal

abbrev pub invariant-loop-call : goal.invariant-loop-call
invariant-loop-call l =
    (held l.book ≡ fed (take l.call-index l.calls))
    × (vec_items l.given ≡ answers new_book (take l.call-index l.calls))
    × (vec_len l.given ≡ l.call-index)
    × (length l.calls ≤ vec_capacity l.given)
