use mathlib.Core.Path.{◌≡◌}
use Prim.Native.Nat.{◌+◌}
use native.Mathlib.Omega.{arith}
use Rattle.responses.specs.Interference.{interference}
use Rattle.responses.proofs.FixedPoints.{demand_mono, largest_is}
use Rattle.fixed_points.proofs.largest_fixed.Goals as goal

pub loop-e-init : goal.loop-e-init
loop-e-init c = (omega arith, c.requires.2, λ v e l. l)

pub interference-requires : goal.interference-requires
interference-requires c =
    let l = c.loop-e.invariant in
    (omega arith, omega arith, omega arith)

pub overflow_add-demand : goal.overflow_add-demand
overflow_add-demand c = omega (arith, c.interference.ensures, c.loop-e.invariant.1)

pub returns-then-demand-e : goal.returns-then-demand-e
returns-then-demand-e c =
    let l = c.loop-e in
    let ls = c.args.tasks.loads.now in
    let e : l.e ≡ c.args.base + interference 1 l.e ls = omega
    (arith, c.interference.ensures, c.if-demand-e.true) in
    largest_is c.args.base c.args.limit ls l.e c.requires.0 c.requires.2 e l.invariant.0 l.invariant.2

pub loop-e-smaller : goal.loop-e-smaller
loop-e-smaller c =
    let l = c.loop-e in
    omega (arith, c.interference.ensures, l.invariant.1, c.if-demand-e.false)

pub loop-e-preserved : goal.loop-e-preserved
loop-e-preserved c =
    let l = c.loop-e in
    let up = demand_mono 1 c.args.base c.args.tasks.loads.now in
    rw c.interference.ensures
    (omega arith, up _ l.e l.invariant.1, λ v e k. omega (arith, up v l.e (l.invariant.2 v e k), e))
