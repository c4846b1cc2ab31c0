-- `fill_ranks`. Invariant: the ranks passed are those of their rows.
use Prim.Native.Nat.{ℕ, ◌<◌}
use lib.ListN.{get_or}
use Rattle.rows.specs.inside.Lent.{lent_row}
use Rattle.watch_runs.specs.inside.Owners.{rank_at}
use Rattle.watches.specs.inside.Lines.{range_at}
use Rattle.watches.specs.inside.Rankings.{RankIs}
use Rattle.watches.proofs.ranking.fill_ranks.Given as goal

abbrev pub invariant-loop-k : goal.invariant-loop-k
invariant-loop-k l =
    (j : ℕ) → j < l.k
    → let p = get_or l.order.lent.positions.now j 0 in
    RankIs (lent_row l.order.lent.rows.now p) (get_or l.releases p 0) (rank_at l.ranks j) (range_at l.ranges j)
