use Rattle.std.proofs.Common.{arith}
use Rattle.std.proofs.Math.Nat.{min-le_left, min-le_right}
use Rattle.busy_intervals.proofs.Stretches.{without_end, up_to_end}
use Rattle.busy_intervals.proofs.jobs_behind.Goals as goal

pub returns-then-gained-eq0 : goal.returns-then-gained-eq0
returns-then-gained-eq0 c =
    without_end c.args.task.in_limits.cost_period c.steady_until.ensures c.if-job-2.false _ (omega arith)
    c.if-gained-eq0.true

pub returns : goal.returns
returns c =
    up_to_end c.args.task.in_limits.cost_period c.steady_until.ensures c.if-job-2.false c.min.result
    (rw c.min.ensures (min-le_left _ _)) (rw (c.min.ensures, c.ceil.ensures) (min-le_right _ _))
    (omega (arith, c.if-gained-eq0.false))
