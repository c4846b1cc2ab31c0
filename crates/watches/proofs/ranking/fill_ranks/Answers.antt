-- A row in range has a cost in its period.
use Prim.Native.Nat.{◌≤◌}
use native.Mathlib.Omega.{arith}
use lib.ListN.{length-map}
use Rattle.rows.specs.Rows.{in_range, row_at, cost, max_ticks}
use Rattle.rows.specs.inside.Lent.{lent_row, lent_rows}
use Rattle.rows.proofs.Limits.{limits, at_passes}
use Rattle.rows.proofs.LentRows.{lent_at}
use Rattle.watches.proofs.ranking.fill_ranks.Goals as goal

pub cost-cost-requires : goal.cost-cost-requires
cost-cost-requires c =
    let rows = c.args.order.lent.rows.now in
    let ps = c.args.order.lent.positions.now in
    let k = c.loop-k.k in
    let is = lent_at rows ps k (omega arith) in
    let l = limits (row_at (lent_rows rows ps) k) (at_passes in_range (lent_rows rows ps) k c.args.order.is_in_range (omega (arith, length-map ps (lent_row rows)))) in
    let small : cost (row_at (lent_rows rows ps) k) ≤ max_ticks = omega (arith, l.cost_period, l.period.le_high) in
    rw is at small
