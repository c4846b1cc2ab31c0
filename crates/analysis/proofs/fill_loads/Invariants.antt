-- Invariant: the loads of the rows at the positions passed stand at the front.
use Rattle.std.proofs.Common.{◌≡◌, ◌++◌, length, take, drop}
use mathlib.Core.List.{map}
use Rattle.rows.specs.inside.Lent.{lent_rows}
use Rattle.responses.specs.Figures.{worst_load, best_load}
use Rattle.analysis.proofs.fill_loads.Given as goal

abbrev pub invariant-loop-k : goal.invariant-loop-k
invariant-loop-k l =
    let rows = l.order.rows.now in
    let passed = take l.k l.order.positions.now in
    record {
      worst_long : length l.worst ≡ length l.fn.worst;
      best_long : length l.best ≡ length l.fn.best;
      worst_is : l.worst ≡ map worst_load (lent_rows rows passed) ++ drop l.k l.fn.worst;
      best_is : l.best ≡ map best_load (lent_rows rows passed) ++ drop l.k l.fn.best;
    }
