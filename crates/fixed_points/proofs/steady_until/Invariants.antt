-- The invariant: no later than the most ticks or the ends of the tasks so far, and no sooner than the window.
use Rattle.std.proofs.Common.{◌≤◌}
use Rattle.rows.specs.Rows.{max_ticks}
use Rattle.fixed_points.proofs.Steady.{Before}
use Rattle.fixed_points.proofs.steady_until.Given as goal

abbrev pub invariant-loop-task : goal.invariant-loop-task
invariant-loop-task l =
    (l.until ≤ max_ticks) × (l.window ≤ l.until) × Before l.until l.window l.tasks.loads.now l.task-index
