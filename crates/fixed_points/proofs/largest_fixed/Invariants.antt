-- The invariant: what e takes fits e, and e is at least every fixed point within the limit.
use mathlib.Core.Path.{◌≡◌}
use Prim.Native.Nat.{ℕ, ◌+◌, ◌≤◌}
use Rattle.responses.specs.Interference.{interference}
use Rattle.fixed_points.proofs.largest_fixed.Given as goal

abbrev pub invariant-loop-e : goal.invariant-loop-e
invariant-loop-e l =
    (l.e ≤ l.limit)
    × (l.base + interference 1 l.e l.tasks.loads.now ≤ l.e)
    × ((v : ℕ) → v ≡ l.base + interference 1 v l.tasks.loads.now → v ≤ l.limit → v ≤ l.e)

abbrev pub decreases-loop-e : goal.decreases-loop-e
decreases-loop-e l = l.e
