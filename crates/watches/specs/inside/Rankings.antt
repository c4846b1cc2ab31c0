-- Promised between functions: the ranks of an order's rows, and the ranges of their lengths.
use Rattle.std.specs.Prelude.{◌≡◌, List, ℕ, ◌<◌, length, get_or}
use Rattle.rows.specs.Rows.{Row, cost}
use Rattle.rows.specs.inside.Lent.{lent_row}
use Rattle.rows.specs.declared.lent_order.LentOrder.{LentOrder}
use Rattle.watch_runs.specs.declared.steps.Rank.{Rank}
use Rattle.watch_runs.specs.inside.Owners.{rank_at}
use Rattle.watches.specs.declared.lines.Range.{Range}
use Rattle.watches.specs.inside.Lines.{range_at}

-- a rank of a row with a first release, and the range of its lengths
pub record RankIs (row : Row) (release : ℕ) (rank : Rank) (range : Range) : Type 0 where
  pub task_is : rank.task ≡ row.task
  pub offset_is : rank.offset ≡ release
  pub period_is : rank.period ≡ row.period
  pub cost_is : rank.cost ≡ cost row
  pub low_is : range.low ≡ row.best
  pub high_is : range.high ≡ cost row

-- there are releases of an order's rows, and places for its ranks
pub record Rankable (order : LentOrder) (releases : List ℕ) (ranks : List Rank) (ranges : List Range) : Type 0 where
  pub releases_many : length releases ≡ length order.rows.now
  pub ranks_many : length ranks ≡ length order.positions.now
  pub ranges_many : length ranges ≡ length order.positions.now

abbrev pub RanksAre : LentOrder → List ℕ → List Rank → List Range → Type 0
RanksAre order releases ranks ranges =
    (k : ℕ) → k < length order.positions.now
    → let p = get_or order.positions.now k 0 in
    RankIs (lent_row order.rows.now p) (get_or releases p 0) (rank_at ranks k) (range_at ranges k)
