-- None of the values is 0.
use Rattle.std.proofs.Common.{arith}
use Rattle.fixed_points.proofs.Loads.{periods_some}
use Rattle.fixed_points.specs.inside.Values.{first_value}
use Rattle.fixed_points.proofs.Values.{begins, searching}
use Rattle.value_cases.proofs.print_values.Goals as goal

pub next_value-value-requires : goal.next_value-value-requires
next_value-value-requires c =
    let a = c.args in
    let ls = a.tasks.loads.now in
    let first = begins a.base a.limit ls c.requires.0 (periods_some ls a.tasks.in_limits) in
    let stands = searching a.base a.limit ls (first_value a.base ls) first c.loop.counter in
    (omega (arith, c.loop.invariant, stands.some), c.requires.1, c.requires.2)
