-- `rows::numbers::order_from` meets its contract. Invariant: the tasks passed stand at the front of the array.
use mathlib.Core.Path.{◌≡◌}
use lib.ListN.{take}
use Rattle.rows.specs.inside.Arrays.{padded}
use Rattle.rows.proofs.numbers.order_from.Given as goal

abbrev pub invariant-loop-i : goal.invariant-loop-i
invariant-loop-i l = l.order ≡ padded 0 (take l.i l.tasks)
