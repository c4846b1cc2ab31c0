-- Invariant: the largest hold so far, with those to come, is the largest of all.
use Rattle.std.proofs.Common.{◌≡◌}
use Rattle.basics.specs.Basics.{larger}
use Rattle.analysis.proofs.Holds.{largest_from}
use Rattle.analysis.proofs.blocking_from.Given as goal

abbrev pub invariant-loop-position : goal.invariant-loop-position
invariant-loop-position l =
    let rows = l.order.rows.now in
    let ps = l.order.positions.now in
    larger l.largest (largest_from rows ps l.position-index) ≡ largest_from rows ps 0
