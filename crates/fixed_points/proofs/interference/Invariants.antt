-- The invariant: the sum so far and the interference of the tasks to come are the whole.
use Rattle.std.proofs.Common.{◌≡◌, ◌+◌, drop}
use Rattle.responses.specs.Interference.{interference}
use Rattle.fixed_points.proofs.interference.Given as goal

abbrev pub invariant-loop-task : goal.invariant-loop-task
invariant-loop-task l =
    let ls = l.tasks.loads.now in
    l.sum + interference l.spared l.window (drop l.task-index ls) ≡ interference l.spared l.window ls
