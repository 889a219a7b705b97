-- How a search ends: with the least table, or with places that bar each other.
use Rattle.std.proofs.Common.{◌≡◌, ℕ, ◌≤◌, List, ◌++◌, map, length, take, drop, ℤ, pos, subst, arith}
use Rattle.rules.specs.Rules.{System, Sound, NoneKeeps, at}
use Rattle.rules.specs.Search.{Good, AllKept}
use Rattle.rules.specs.Loops.{Stuck}
use Rattle.rules.proofs.Steps.{ends}
use Rattle.find.specs.Answers.{Written}

pub none_keeps : (m : System) (by : List ℕ) (p : ℕ) → Stuck m by p → NoneKeeps m
none_keeps m by p stuck other k = stuck.barred.none p stuck.here other (λ q h. k.each (at by q) (stuck.barred.traced q h).within)

-- the first numbers of a table that stays are the least table
pub writes : (m : System) (sound : Sound m) (table by : List ℕ) (before after : List ℤ) (n : ℕ) → Good m 0 table by × AllKept m table →
    n ≡ m.places → after ≡ map pos (take n table) ++ drop n before → Written m before after
writes m sound table by before after n (good, kept) e written =
    let wide : m.places ≤ length table = omega (arith, sound.few, good.wide) in (
      take m.places table,
      ends m sound table wide good.under kept,
      subst (λ k. after ≡ map pos (take k table) ++ drop k before) e written,
    )
