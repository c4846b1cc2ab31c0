-- `curves::well_formed` meets its contract. Invariant: whether the points keep the limits is whether those left do, by
-- what the last one leaves to them.
use mathlib.Core.Path.{◌≡◌}
use Rattle.curves.specs.Curves.{well_formed, points_of}
use Rattle.curves.proofs.Orderly.{left}
use Rattle.curves.proofs.well_formed.Given as goal

abbrev pub invariant-loop-point : goal.invariant-loop-point
invariant-loop-point l = well_formed (points_of l.points) ≡ left l.points l.point-index l.low l.high
