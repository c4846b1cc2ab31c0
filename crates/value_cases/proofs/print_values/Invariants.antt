-- The value is the one after so many steps.
use Rattle.std.proofs.Common.{◌≡◌}
use Rattle.fixed_points.specs.inside.Values.{value_at}
use Rattle.value_cases.proofs.print_values.Given as goal

abbrev pub invariant-loop : goal.invariant-loop
invariant-loop l = l.value ≡ value_at l.base l.limit l.tasks.loads.now l.counter
