-- What comes of the text, or of a late rank, is what comes of the order.
use Rattle.std.proofs.Common.{length}
use Rattle.rows.specs.inside.LentOrders.{rows_in_order}
use Rattle.plan_orders.proofs.Given.{given_is, late_is}
use Rattle.plan_orders.proofs.plan_in.Goals as goal

pub returns-in-Ok : goal.returns-in-Ok
returns-in-Ok g c =
    rw (given_is (length c.args.out.now) c.args.board (rows_in_order c.args.order.lent) c.in-Ok.ensures)
    at c.put_whole.ensures

pub returns-in-Err : goal.returns-in-Err
returns-in-Err g c =
    late_is (length c.args.out.now) c.args.board (rows_in_order c.args.order.lent) c.in-Err.ensures
