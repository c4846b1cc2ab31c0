use Rattle.std.proofs.Common.{arith}
use Rattle.fixed_points.proofs.Loads.{sum_fits}
use Rattle.fixed_points.proofs.interference.Goals as goal

pub overflow_add-sum : goal.overflow_add-sum
overflow_add-sum c =
    let a = c.args in
    let x = c.loop-task in
    record {
      fits = omega (
        arith,
        sum_fits a.tasks.loads.now a.tasks.in_limits a.spared a.window x.task-index x.sum c.ceil.result c.requires.0
            c.loop-task-test.true c.ceil.ensures x.invariant,
      );
    }
