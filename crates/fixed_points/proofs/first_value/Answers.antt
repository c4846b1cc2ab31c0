use native.Mathlib.Omega.{arith}
use Rattle.fixed_points.proofs.Loads.{interference_fits}
use Rattle.fixed_points.proofs.Loads.{periods_some}
use Rattle.fixed_points.proofs.Values.{one_tick}
use Rattle.fixed_points.proofs.first_value.Goals as goal

pub overflow_add-result : goal.overflow_add-result
overflow_add-result c =
    let f = interference_fits c.args.tasks.loads.now c.args.tasks.in_limits 0 1 (omega arith) in
    record { fits = omega (arith, c.interference.ensures, f) }

pub returns : goal.returns
returns c =
    let tasks = c.args.tasks in
    let each = one_tick tasks.loads.now (periods_some tasks.loads.now tasks.in_limits) in
    omega (arith, c.interference.ensures, each)
