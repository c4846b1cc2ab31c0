-- `curves::permitted` meets its contract: what the curve permits by the index that was found.
use mathlib.Core.Path.{◌∙◌, subst}
use Prim.Native.Nat.{◌-◌}
use native.Mathlib.Omega.{arith}
use Rattle.curves.specs.inside.Places.{Reached}
use Rattle.curves.proofs.Places.{limited_at, permits_none, permits_first, permits_line}
use Rattle.curves.proofs.permitted.Goals as goal

pub on_line-requires : goal.on_line-requires
on_line-requires c =
    let points = c.args.points.now in
    let i = c.in-Some.i in
    let r = c.in-Some.ensures in
    let from = limited_at points c.requires.1 (i - 1) (omega (arith, r.held)) in
    let to = limited_at points c.requires.1 i r.held in
    (omega (arith, r.passed (i - 1)), r.reached, to.delay_max, from.allow_max, to.allow_max)

pub returns-in-None : goal.returns-in-None
returns-in-None c = permits_none c.args.points.now c.args.earliest c.in-None.ensures

pub returns-in-Some-eq0 : goal.returns-in-Some-eq0
returns-in-Some-eq0 c =
    let x = c.in-Some-eq0 in
    permits_first c.args.points.now c.args.earliest
    (subst (Reached c.args.points.now c.args.earliest) x.field-0-test x.ensures)

pub returns-in-Some : goal.returns-in-Some
returns-in-Some c =
    let x = c.in-Some in
    c.on_line.ensures
    ∙ permits_line c.args.points.now c.args.earliest x.i (x.i - 1) (omega (arith, x.i-test)) x.ensures
