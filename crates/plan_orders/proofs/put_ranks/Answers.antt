-- Each turn puts the rank of the next row, whose figures are found by the loads of those above it, or finds it late.
use Rattle.std.proofs.Common.{sym, ap, rules, arith, ◌∙◌}
use mir.Syntax.{w64}
use mir.Facts.{to_z-of_z}
use Rattle.rows.specs.inside.LentOrders.{rows_in_order}
use Rattle.responses.specs.Figures.{blocking}
use Rattle.plan_orders.proofs.Turns.{starts, blocks_behind, task_max, under, found_late, rank_fits, turned, finished}
use Rattle.plan_orders.proofs.put_ranks.Goals as goal

pub loop-i-init : goal.loop-i-init
loop-i-init c = (starts c.args.order c.args.out.now, c.blocking_from-blocked.ensures)

pub blocking_below-blocked-requires-clause-blocked_value :
    goal.blocking_below-blocked-requires-clause-blocked_value
blocking_below-blocked-requires-clause-blocked_value c = c.loop-i.invariant.1 ∙ ap blocking (sym c.behind.ensures)

pub figures_under-requires : goal.figures_under-requires
figures_under-requires c =
    let blocked = blocks_behind (rows_in_order c.args.order.lent) c.loop-i.i c.behind.ensures c.blocking_below-blocked.ensures in
    under c.args.order c.loop-i-test.true c.requires.filled blocked

pub returns-in_default : goal.returns-in_default
returns-in_default c =
    let blocked = blocks_behind (rows_in_order c.args.order.lent) c.loop-i.i c.behind.ensures c.blocking_below-blocked.ensures in
    found_late c.args.order c.loop-i-test.true c.requires.filled blocked c.figures_under.ensures c.loop-i.invariant.0
    c.in_default.not-Ok

pub overflow_cast-entry : goal.overflow_cast-entry
overflow_cast-entry c = record { fits = omega (arith, task_max c.args.order c.loop-i-test.true) }

pub put_rank-at-requires : goal.put_rank-at-requires
put_rank-at-requires c =
    let blocked = blocks_behind (rows_in_order c.args.order.lent) c.loop-i.i c.behind.ensures c.blocking_below-blocked.ensures in
    rank_fits c.args.order c.loop-i-test.true c.requires.filled blocked c.figures_under.ensures c.loop-i.invariant.0
    c.requires.room c.in-Ok.is (to_z-of_z {w = w64} (search rules))

pub loop-i-preserved : goal.loop-i-preserved
loop-i-preserved c =
    let blocked = blocks_behind (rows_in_order c.args.order.lent) c.loop-i.i c.behind.ensures c.blocking_below-blocked.ensures in (
      turned c.args.order c.loop-i-test.true c.requires.filled blocked c.figures_under.ensures c.loop-i.invariant.0
          c.requires.room c.in-Ok.is (to_z-of_z {w = w64} (search rules)) c.put_rank-at.ensures,
      blocked,
    )

pub returns : goal.returns
returns c = finished c.args.order c.loop-i.invariant.0 (omega arith)
