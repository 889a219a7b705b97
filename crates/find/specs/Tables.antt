-- What the table of a search means.
use Rattle.std.specs.Prelude.{◌≡◌, ℕ, ◌≤◌, List, map, length}
use Rattle.rules.specs.Rules.{at}
use Rattle.find.specs.declared.tables.Place.{Place}

-- the minute of each place so far, and the rule that raised each last
pub record TableView : Type 0 where
  pub minutes : List ℕ
  pub by : List ℕ

abbrev pub table_of : List Place → TableView
table_of places = record { minutes = map (λ (x : Place). x.minute) places; by = map (λ (x : Place). x.by) places }

-- what every table keeps to: a minute for each place that a system may have, and none so high that a sum with it does not fit
pub record IsTable (t : TableView) : Type 0 where
  pub sized : length t.minutes ≡ 320
  pub low : (p : ℕ) → at t.minutes p ≤ 36771840
