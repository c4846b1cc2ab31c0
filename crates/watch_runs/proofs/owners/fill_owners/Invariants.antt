-- `fill_owners`. Invariants: the ranks passed have their first releases; then the first owners are known, and each rank's
-- next release stands in its place (`Merging`).
use mathlib.Core.Path.{◌≡◌}
use Prim.Native.Nat.{ℕ, ◌<◌}
use lib.ListN.{get_or}
use Rattle.watch_runs.specs.inside.Owners.{rank_at}
use Rattle.watch_runs.proofs.Merging.{Merging}
use Rattle.watch_runs.proofs.owners.fill_owners.Given as goal

abbrev pub invariant-loop-j : goal.invariant-loop-j
invariant-loop-j l = (k : ℕ) → k < l.j → get_or l.nexts k 0 ≡ (rank_at l.ranks k).offset

abbrev pub invariant-loop-owner : goal.invariant-loop-owner
invariant-loop-owner l = Merging l.ranks l.owners l.nexts l.owner-index
