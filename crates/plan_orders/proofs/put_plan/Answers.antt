-- The loads are those of the order's rows; then its first lines and its ranks are put one behind the other.
use Rattle.std.proofs.Common.{◌≤◌, replicate, sym, arith}
use lib.ListN.{length-replicate}
use lib.Seq.{length-take-le}
use Rattle.fixed_points.specs.inside.Loads.{no_load}
use Rattle.rows.specs.inside.LentOrders.{rows_in_order}
use Rattle.rows.proofs.Limits.{all_times}
use Rattle.plans.specs.Plans.{most_ranks}
use Rattle.plans.proofs.Lengths.{head_length}
use Rattle.plan_orders.proofs.Given.{plan_there}
use Rattle.plan_orders.proofs.put_plan.Goals as goal

pub fill_loads-requires : goal.fill_loads-requires
fill_loads-requires g c =
    let order = c.args.order in
    let n = c.len-n in
    let places = replicate g.row.MOST no_load in
    let room = length-take-le n.result places
    (omega (arith, n.ensures, c.requires.most, length-replicate g.row.MOST no_load)) in
    record {
      worst_held = omega (arith, room, n.ensures);
      best_held = omega (arith, room, n.ensures);
      times_are_in_range = all_times (rows_in_order order.lent) order.is_in_range;
    }

pub put_head-head-requires : goal.put_head-head-requires
put_head-head-requires g c =
    let n = c.len-n in
    let few : n.result ≤ most_ranks = omega (arith, n.ensures, c.args.order.few) in
    omega (arith, head_length c.args.board n.result (omega arith) few, n.ensures, c.requires.room)

pub put_ranks-requires-clause-room : goal.put_ranks-requires-clause-room
put_ranks-requires-clause-room g c =
    let n = c.len-n in
    let few : n.result ≤ most_ranks = omega (arith, n.ensures, c.args.order.few) in
    let head = head_length c.args.board n.result (omega arith) few in
    omega (arith, head, c.put_head-head.ensures.long_is, n.ensures, c.requires.room)

pub returns : goal.returns
returns g c =
    let order = c.args.order in
    let n = c.len-n in
    plan_there c.args.board n.result (rows_in_order order.lent) _ _ _ (omega arith)
    (omega (arith, n.ensures, order.few)) (sym n.ensures) order.is_in_range
    (omega (arith, n.ensures, c.requires.room)) c.put_head-head.ensures c.in_ok-ranks.ensures
