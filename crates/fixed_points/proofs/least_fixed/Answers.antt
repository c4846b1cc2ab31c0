-- The search may begin at its first value.
use Rattle.fixed_points.proofs.Loads.{periods_some}
use Rattle.fixed_points.proofs.Values.{begins}
use Rattle.fixed_points.proofs.least_fixed.Goals as goal

pub least_from-requires-clause-searching : goal.least_from-requires-clause-searching
least_from-requires-clause-searching c =
    let a = c.args in
    let ls = a.tasks.loads.now in
    rw c.first_value-first.ensures (begins a.base a.limit ls c.requires.0 (periods_some ls a.tasks.in_limits))
