-- A first job that is late shows the task late.
use Rattle.std.proofs.Common.{ap, ◌∙◌}
use Rattle.fixed_points.specs.inside.Values.{found}
use Rattle.fixed_points.proofs.Values.{none_found}
use Rattle.busy_intervals.proofs.Jobs.{first_late}
use Rattle.busy_intervals.proofs.latest_response.Goals as goal

pub returns-in_err-first : goal.returns-in_err-first
returns-in_err-first c =
    let t = c.args.task in
    c.from_residual.ensures
    ∙ ap found (first_late t.cost t.blocked t.period t.deadline c.args.above.loads.now t.in_limits
    (none_found _ c.in_err-first.ensures))
