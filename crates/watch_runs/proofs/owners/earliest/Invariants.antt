-- `earliest`. Invariant: the first of the earliest of those passed.
use lib.ListN.{get_or}
use Rattle.watch_demands.specs.inside.Least.{LeastIs}
use Rattle.watch_runs.proofs.owners.earliest.Given as goal

abbrev pub invariant-loop-j : goal.invariant-loop-j
invariant-loop-j l = LeastIs l.j (λ j. get_or l.nexts j 0) l.r
