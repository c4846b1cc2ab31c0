-- The points of a row's curve are the numbers that are lent of it.
use Rattle.std.proofs.Common.{◌≡◌, true, ◌*◌, ◌≤◌, ℕ, List, length, sym, ap, ap₂, ◌∙◌, arith}
use Rattle.std.proofs.lemmas.List.{drop-take}
use lib.ListN.{get_or}
use borrow.Rule.Slice.PartMut.{mid_of}
use Rattle.curves.specs.Curves.{Point, max_points, well_formed, points_from, curve_margin}
use Rattle.curves.proofs.Floors.{answered}
use Rattle.curves.proofs.Lines.{few_of}
use Rattle.curves.proofs.PointNumbers.{points_length}
use Rattle.rows.specs.Rows.{alpha_at, beta_at, points_at, first_point_at, in_range}
use Rattle.rows.specs.inside.Numbers.{row_from, lines_from}
use Rattle.rows.proofs.Limits.{limits}
use Rattle.rows.proofs.RowNumbers.{line_from}
use Rattle.responses.proofs.Conditions.{curve_margin_lem}
use Rattle.analysis.proofs.margin.Goals as goal

module _ (ws : List ℕ) (h : in_range (row_from ws) ≡ true) where
  abbrev many : ℕ
  many = get_or ws points_at 0

  is_curve : points_from many (mid_of first_point_at (2 * max_points) ws) ≡ (row_from ws).curve
  is_curve = ap₂ points_from (sym (line_from ws points_at (omega arith))) (sym (drop-take first_point_at (2 * max_points) ws))

  as_many : length (row_from ws).curve ≡ many
  as_many = ap length (sym is_curve) ∙ points_length many (mid_of first_point_at (2 * max_points) ws)

  few : many ≤ max_points
  few = omega (arith, as_many, few_of (row_from ws).curve (limits (row_from ws) h).curve)

pub points_from-curve-requires : goal.points_from-curve-requires
points_from-curve-requires c = let ws = c.args.row.now in omega (arith, few ws c.requires, c.told-row)

pub curve_margin-requires : goal.curve_margin-requires
curve_margin-requires c =
    let ws = c.args.row.now in
    let h = c.requires in
    let lent = c.points_from-curve.ensures in (
      omega (arith, c.if-points-eq0.false, lent.count),
      ap well_formed (lent.points ∙ is_curve ws h) ∙ (limits (row_from ws) h).curve,
    )

pub returns : goal.returns
returns c =
    let a = c.args in
    let ws = a.row.now in
    let w = a.responses.latest in
    let e = a.responses.earliest in
    let h = c.requires in
    let lines = lines_from ws in
    let some : 1 ≤ length (row_from ws).curve = omega (arith, as_many ws h, c.if-points-eq0.false) in
    answered _ _ record { sfits = c.curve_margin.type_inv } (c.curve_margin.ensures
    ∙ ap (λ (p : List Point). curve_margin p w e) (c.points_from-curve.ensures.points ∙ is_curve ws h)
    ∙ sym (curve_margin_lem (get_or lines alpha_at 0) (get_or lines beta_at 0) w e (row_from ws).curve some))
