-- Every point is on the circle of 7.
use Rattle.std.proofs.Common.{◌≤◌}
use Rattle.trials.proofs.generator.any_rows.Given as goal

abbrev pub invariant-loop-place : goal.invariant-loop-place
invariant-loop-place l = l.point ≤ 6
