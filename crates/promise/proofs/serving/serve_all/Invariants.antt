use Rattle.std.proofs.Common.{◌≡◌, take, vec_items, vec_len, vec_capacity}
use Rattle.book.specs.Held.{held}
use Rattle.promise.specs.Serving.{desk, AllServed}
use Rattle.promise.proofs.serving.serve_all.Given as goal

abbrev pub invariant-loop-asked : goal.invariant-loop-asked
invariant-loop-asked l =
    AllServed (desk (held l.initial.book) l.initial.minutes l.initial.loops) (take l.asked-index l.requests) (vec_items l.replies)
    (desk (held l.book) l.minutes l.loops)
    × (vec_len l.replies ≡ l.asked-index)
    × (vec_capacity l.replies ≡ vec_capacity l.initial.replies)
