-- `run`. Invariant: the jobs show the board before the tick, and the text is that of what has finished (`Running`).
use Rattle.watch_runs.proofs.Runs.{Running}
use Rattle.watch_runs.proofs.run.Given as goal

abbrev pub invariant-loop-t : goal.invariant-loop-t
invariant-loop-t l = Running l.ticks l.board l.fn.out l.pending l.out l.end l.t
