-- What is read after what was read before, and what was read in the end.
use Rattle.std.proofs.Common.{◌≡◌, ℕ, ◌+◌, ◌≤◌, [], List, ◌++◌, length, take, drop, Option, Some, None, IfSome, sym, ap, ◌∙◌, append_assoc, arith}
use Rattle.std.proofs.lemmas.List.{append-nil, length-append, length-drop, length-take-le, take-append-le, take_all, take_at}
use Rattle.std.proofs.lemmas.Slice.{take-put_mid_below}
use Rattle.std.proofs.Math.Seq.{take-append-add}
use Rattle.std.specs.Io.KnownBytes.{Consumes, IsAtEnd}
use borrow.Rule.Slice.PartMut.{put_mid, post_of}

module _ (a k n : ℕ) (room part : List ℕ) (within : a ≤ length room) where
  -- n bytes put behind the first a stand behind them
  more_put : n ≤ length part → take (a + n) (put_mid a k room part) ≡ take a room ++ take n part
  more_put fits =
      ap (λ i. take (i + n) (put_mid a k room part)) (sym (length-take-le a room within))
      ∙ take-append-add (take a room) (part ++ post_of a k room) n
      ∙ ap (λ bytes. take a room ++ bytes) (take-append-le n part (post_of a k room) fits)

  -- a room in which a part was written over has the length that it had
  pub same_room : length part ≡ k → a + k ≡ length room → length (put_mid a k room part) ≡ length room
  same_room long whole =
      let front = length-take-le a room within in
      let back : length (post_of a k room) ≡ 0 = length-drop k (drop a room) ∙ omega (arith, length-drop a room, whole) in
      length-append (take a room) (part ++ post_of a k room) ∙ omega (arith, front, length-append part (post_of a k room), back, long, whole)

  -- a reader that gave the first a bytes and then n more gave all of them
  pub read_more : (old new last : Option (List ℕ)) → n ≤ length part → Consumes old new (take a room) → Consumes new last (take n part)
      → Consumes old last (take (a + n) (put_mid a k room part))
  read_more None new last fits came more = tt
  read_more (Some o) None last fits came more = absurd came
  read_more (Some o) (Some p) None fits came more = absurd more
  read_more (Some o) (Some p) (Some q) fits came more =
      rw (more_put fits) (came ∙ ap (λ bytes. take a room ++ bytes) more ∙ sym (append_assoc (take a room) (take n part) q))

  -- a reader at its end gave all that it had, where that is no more than m bytes
  pub read_all : (old new last : Option (List ℕ)) (m : ℕ) → n ≡ 0 → a ≤ m → Consumes old new (take a room) → Consumes new last (take n part) → IsAtEnd last
      → IfSome old (λ bytes. take a (put_mid a k room part) ≡ take m bytes)
  read_all None new last m none few came more end = tt
  read_all (Some o) None last m none few came more end = absurd came
  read_all (Some o) (Some p) None m none few came more end = absurd more
  read_all (Some o) (Some p) (Some q) m none few came more end =
      let left : p ≡ [] = rw (none, end) at more in
      let all : o ≡ take a room = came ∙ ap (λ bytes. take a room ++ bytes) left ∙ append-nil (take a room) in
      let short : length (take a room) ≤ m = rw (length-take-le a room within) few in
      take-put_mid_below a k room part a (omega arith) within ∙ sym (ap (take m) all ∙ take_all m (take a room) short)

-- a room that is full has as many of the bytes as it has room for
pub read_full : (old new : Option (List ℕ)) (a m : ℕ) (room : List ℕ) → a ≡ m → length room ≡ m → Consumes old new (take a room)
    → IfSome old (λ bytes. take a room ≡ take m bytes)
read_full None new a m room full wide came = tt
read_full (Some o) None a m room full wide came = absurd came
read_full (Some o) (Some p) a m room full wide came =
    let long : length (take a room) ≡ m = length-take-le a room (rw (full, wide) (omega arith)) ∙ full in
    sym (ap (take m) came ∙ take_at (take a room) p m long)
