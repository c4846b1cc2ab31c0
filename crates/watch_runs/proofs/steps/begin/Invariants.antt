-- `begin`. Invariant: the ranks passed have their first jobs.
use Prim.Native.Nat.{ℕ, ◌<◌}
use Rattle.watch_runs.specs.inside.States.{FirstJob, job_at}
use Rattle.watch_runs.proofs.steps.begin.Given as goal

abbrev pub invariant-loop-j : goal.invariant-loop-j
invariant-loop-j l = (k : ℕ) → k < l.j → FirstJob l.board k (job_at l.pending k)
