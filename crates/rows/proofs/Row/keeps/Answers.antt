-- `rows::Row::keeps` meets its contract: its tests are those of `numbers_in_range`, in their order.
use Rattle.std.proofs.Common.{arith}
use Rattle.rows.specs.Rows as R
use Rattle.rows.specs.Rows.{task_at, period_at, deadline_at, worst_at, best_at, alpha_at, beta_at, hold_at}
use Rattle.rows.proofs.RowNumbers.{line_from}
use Rattle.rows.proofs.Row.keeps.Goals as goal

pub returns : goal.returns
unfolding R.cost
returns c =
    let ws = c.args.row.now in
    rw (
      c.within.ensures,
      c.within-2.ensures,
      c.within-3.ensures,
      c.within-4.ensures,
      c.within-5.ensures,
      c.within-6.ensures,
      c.within-7.ensures,
      c.within-8.ensures,
      c.within-9.ensures,
      c.fits.ensures,
      line_from ws task_at (omega arith),
      line_from ws period_at (omega arith),
      line_from ws deadline_at (omega arith),
      line_from ws worst_at (omega arith),
      line_from ws best_at (omega arith),
      line_from ws alpha_at (omega arith),
      line_from ws beta_at (omega arith),
      line_from ws hold_at (omega arith),
    )
