-- A round goes on: over the next rule the table stays or rises.
use Rattle.std.proofs.Common.{ℕ, ◌+◌, Bool, true, false, ◌||◌, List}
use Rattle.rules.specs.Rules.{System, Kept, rule}
use Rattle.rules.specs.Search.{Grown}
use Rattle.rules.proofs.Steps.{Going, going_stays, going_rises}

pub going_on : (m : System) (r : ℕ) (before now after : List ℕ) (rose up : Bool) → Going m r before now rose →
    Grown (Kept now (rule m r)) now after up → Going m (r + 1) before after (rose || up)
going_on m r before now after true true going grown = going_rises m r before now after true going grown
going_on m r before now after false true going grown = going_rises m r before now after false going grown
going_on m r before now after true false going grown = going_stays m r before now after true going grown
going_on m r before now after false false going grown = going_stays m r before now after false going grown
