-- The invariant: the last value is the one after so many steps, each of which led to a greater value (`Reached`).
use Prim.Native.Nat.{suc, ◌-◌}
use Rattle.fixed_points.proofs.Values.{Reached}
use Rattle.fixed_points.proofs.try_from.Given as goal

abbrev pub invariant-loop-last : goal.invariant-loop-last
invariant-loop-last l = Reached l.first l.base l.limit l.tasks.loads.now l.last l.steps

abbrev pub decreases-loop-last : goal.decreases-loop-last
decreases-loop-last l = suc l.limit - l.last
