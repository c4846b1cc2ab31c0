use mathlib.Core.Path.{sym, ◌∙◌}
use native.Mathlib.Omega.{arith}
use Rattle.curves.proofs.Orderly.{too_many, all_left, fails_left, next_left}
use Rattle.curves.proofs.well_formed.Goals as goal

pub returns-then-points-gt-MAX_POINTS : goal.returns-then-points-gt-MAX_POINTS
returns-then-points-gt-MAX_POINTS c = sym (too_many c.args.points.now c.if-points-gt-MAX_POINTS.true)

pub loop-point-init : goal.loop-point-init
loop-point-init c = all_left c.args.points.now c.if-points-gt-MAX_POINTS.false

pub returns-then-not-within : goal.returns-then-not-within
returns-then-not-within c =
    let x = c.loop-point in
    sym (x.invariant ∙ fails_left c.args.points.now x.point-index x.low x.high c.loop-point-test.true (cc))

pub loop-point-preserved : goal.loop-point-preserved
loop-point-preserved c =
    let x = c.loop-point in
    x.invariant ∙ next_left c.args.points.now x.point-index x.low x.high c.loop-point-test.true _ (cc) (omega arith)
