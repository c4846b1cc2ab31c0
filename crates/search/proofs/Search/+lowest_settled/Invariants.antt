-- Measure: a call for a smaller set comes before every call for this one. Invariant: the rows stay, and the order of the
-- set is what the scan gives from the row that is looked at.
use Rattle.std.proofs.Common.{◌≡◌, ◌+◌, ◌*◌}
use Rattle.rows.specs.inside.Lent.{table_of}
use Rattle.orders.specs.Orders.{the_order}
use Rattle.orders.specs.Stability.{stable}
use Rattle.orders.proofs.Stability.{by_sets}
use Rattle.search.specs.inside.Sets.{order_at}
use Rattle.search.proofs.Scan.{scan}
use Rattle.search.proofs.Search.+lowest_settled.Given as goal

abbrev pub decreases-lowest : goal.decreases-lowest
decreases-lowest g l = 2 * l.m

abbrev pub decreases-settled : goal.decreases-settled
decreases-settled g l = 2 * l.m + 1

abbrev pub invariant-lowest-loop-i : goal.invariant-lowest-loop-i
invariant-lowest-loop-i g l =
    let table = table_of l.fn.self.rows.now in
    record {
      rows_kept : l.self.rows.now ≡ l.fn.self.rows.now;
      so_far : order_at stable table l.m ≡ scan the_order stable by_sets table l.m l.i;
    }
