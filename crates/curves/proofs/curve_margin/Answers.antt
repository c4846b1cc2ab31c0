-- `curves::curve_margin` meets its contract: the two sides of the last delay.
use mathlib.Core.Path.{ap, sym, ◌∙◌}
use Prim.Native.Nat.{ℕ, ◌-◌, ◌*◌}
use native.Mathlib.Omega.{arith}
use lib.IntN.{sub_ℕ}
use Rattle.curves.specs.Curves.{points_of, thousandths}
use Rattle.curves.proofs.Floors.{answered, floor_one}
use Rattle.curves.proofs.Permits.{permitted_parts}
use Rattle.curves.proofs.Places.{last_is}
use Rattle.curves.proofs.Margins.{up_to_last, past_last}
use Rattle.curves.proofs.curve_margin.Goals as goal

pub returns-then-last-earliest : goal.returns-then-last-earliest
returns-then-last-earliest c =
    let curve = points_of c.args.points.now in
    let l = last_is c.args.points.now c.requires.0 in
    let q = past_last curve c.args.responses.latest c.args.responses.earliest (omega (arith, l)) in
    answered _ _ record { sfits = c.floor_of.type_inv } (c.floor_of.ensures
    ∙ (floor_one _ ∙ (ap (λ (d : ℕ). sub_ℕ (1000 * d) (1000 * c.args.responses.earliest)) (sym l) ∙ sym q)))

pub thousandths-requires : goal.thousandths-requires
thousandths-requires c =
    let curve = points_of c.args.points.now in
    let p = permitted_parts curve c.args.responses.earliest c.permitted-f.result c.requires.1 c.permitted-f.ensures in
    (p.under_some, p.under_max, p.over_max, omega (arith, c.jitter.ensures, c.args.responses.in_limits))

pub returns : goal.returns
returns c =
    let curve = points_of c.args.points.now in
    let l = last_is c.args.points.now c.requires.0 in
    let q = up_to_last curve c.args.responses.latest c.args.responses.earliest (omega (arith, l)) in
    answered _ _ record { sfits = c.thousandths.type_inv } (c.thousandths.ensures
    ∙ (ap (thousandths c.permitted-f.result) c.jitter.ensures
    ∙ (ap (λ f. thousandths f (c.args.responses.latest - c.args.responses.earliest)) c.permitted-f.ensures ∙ sym q)))
