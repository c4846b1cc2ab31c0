use Rattle.std.proofs.Common.{◌≡◌, ap, ℕ, ◌*◌, arith}
use Rattle.std.proofs.Math.Nat.{min-le_left, min-le_right, le-min}
use native.Mathlib.Numerals.{add-one}
use lib.ListN.{get_or}
use Rattle.responses.proofs.Sums.{ceiling_covers}
use Rattle.fixed_points.specs.inside.Loads.{no_load}
use Rattle.fixed_points.proofs.Steady.{end_of, before_next, steady}
use Rattle.fixed_points.proofs.steady_until.Goals as goal

pub loop-task-preserved : goal.loop-task-preserved
loop-task-preserved c =
    let a = c.args in
    let x = c.loop-task in
    let i = x.invariant in
    let ls = a.tasks.loads.now in
    let task = get_or ls x.task-index no_load in
    let there = c.loop-task-test.true in
    let end : c.ceil.result * task.period ≡ end_of a.window task = ap (λ (k : ℕ). k * task.period) c.ceil.ensures in
    let covers = ceiling_covers a.window task.period (a.tasks.in_limits.period_some x.task-index there) in
    rw (add-one x.task-index, c.min-until.ensures, end) (
      omega (arith, min-le_left x.until (end_of a.window task), i.0),
      le-min i.1 covers,
      before_next x.until _ a.window ls x.task-index i.2 (min-le_left x.until (end_of a.window task))
          (min-le_right x.until (end_of a.window task)),
    )

pub returns : goal.returns
returns c =
    let a = c.args in
    let x = c.loop-task in
    let i = x.invariant in
    let ls = a.tasks.loads.now in
    record {
      most = i.0;
      least = i.1;
      same = λ y h k.
          steady ls a.tasks.in_limits x.until a.window y
          (λ j l. i.2 j (omega (arith, l, c.loop-task-test.false))) h k;
    }
