-- Invariant: the positions of the tasks passed stand at the front.
use Rattle.std.proofs.Common.{◌≡◌, ◌++◌, length, take, drop}
use Rattle.rows.specs.inside.Numbers.{positions_for}
use Rattle.rows.specs.inside.Lent.{table_of}
use Rattle.rows.proofs.lent.positions_for.Given as goal

abbrev pub invariant-loop-k : goal.invariant-loop-k
invariant-loop-k l =
    (length l.positions ≡ length l.fn.positions)
    × (l.positions ≡ positions_for (take l.k l.tasks) (table_of l.rows) ++ drop l.k l.fn.positions)
