use mathlib.Core.Path.{◌∙◌}
use Prim.Native.Nat.{◌<◌}
use native.Mathlib.Omega.{arith}
use borrow.Author.Rules.{rules}
use Rattle.watch_runs.proofs.Runs.{running_starts, running_idle, running_on, running_ends}
use Rattle.watch_runs.proofs.run.Goals as goal
use Rattle.watch_runs.proofs.run.Goals.{in-Some, in_default}

pub loop-t-init : goal.loop-t-init
loop-t-init c = running_starts _ _ _ c.requires _ (c.begin.auto.pending ∙ search rules) c.begin.ensures

pub loop-t-preserved : goal.loop-t-preserved
loop-t-preserved c =
    let g = c.loop-t.invariant in
    let more : c.loop-t.t < c.args.ticks = omega arith in
    elim c.match-step.branch [
      | in-Some w ↦ rw (w.out-is, w.end-is)
          (running_on _ _ _ g more c.step.auto.pending _ w.in-Some.ensures
          w.put_job-end.ensures w.put_job-end.auto.out)
      | in_default w ↦ rw (w.out-is, w.end-is)
          (running_idle _ _ _ g more c.step.auto.pending w.in_default.ensures)
    ]

pub returns : goal.returns
returns c = running_ends _ _ _ c.loop-t.invariant (omega arith)
