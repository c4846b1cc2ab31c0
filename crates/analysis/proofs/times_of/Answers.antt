-- The numbers of a row in range keep the limits of the search of W.
use Rattle.std.proofs.Common.{refl, sym, arith}
use Rattle.rows.specs.Rows.{period_at, deadline_at}
use Rattle.rows.specs.inside.Numbers.{row_from}
use Rattle.rows.proofs.RowNumbers.{line_from}
use Rattle.rows.proofs.Limits.{limits, times, in_range_times}
use Rattle.analysis.proofs.times_of.Goals as goal

pub invariant_of-result : goal.invariant_of-result
invariant_of-result c =
    let ws = c.args.row.now in
    let t = times (row_from ws) (in_range_times (row_from ws) c.requires.0) in
    let e = c.cost.ensures in
    let period = line_from ws period_at (omega arith) in
    let deadline = line_from ws deadline_at (omega arith) in
    record {
      in_limits = record {
        cost_some = omega (arith, e, t.best_some, t.best_cost);
        cost_period = omega (arith, e, period, t.cost_period);
        period_max = omega (arith, period, t.period_max);
        blocked_max = c.requires.1;
        deadline_max = omega (arith, deadline, (limits (row_from ws) c.requires.0).deadline.le_high);
      };
    }

pub returns : goal.returns
returns c =
    let ws = c.args.row.now in
    record {
      cost_is = c.cost.ensures;
      blocked_is = refl;
      period_is = sym (line_from ws period_at (omega arith));
      deadline_is = sym (line_from ws deadline_at (omega arith));
    }
