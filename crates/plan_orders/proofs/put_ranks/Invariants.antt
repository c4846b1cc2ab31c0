-- The invariant: the ranks put and the late ranks so far are those of the rows passed (`Turning`).
use Rattle.std.proofs.Common.{◌≡◌, drop}
use Rattle.rows.specs.inside.LentOrders.{rows_in_order}
use Rattle.responses.specs.Figures.{blocking}
use Rattle.plan_orders.proofs.Turns.{Turning}
use Rattle.plan_orders.proofs.put_ranks.Given as goal

abbrev pub invariant-loop-i : goal.invariant-loop-i
invariant-loop-i l =
    let order = rows_in_order l.order.lent in
    Turning order l.initial.out l.at l.out l.i × (l.blocked ≡ blocking (drop l.i order))
