-- A task is stable by the condition that its row carries: with no points the margin is that of its line, and else that
-- of its curve; a smaller W at the same E leaves a stable task stable; and a curve counts for its own task alone, since
-- W and E of others take nothing of it.
use mathlib.Core.Path.{◌≡◌, refl, sym, ap, ◌∙◌}
use mathlib.Core.Bool.{Bool, true, not}
use mathlib.Core.List.{List, [], ◌∷◌, map}
use Prim.Native.Nat.{ℕ, ◌+◌, ◌-◌, ◌*◌, ◌≤◌}
use native.Mathlib.Nat.{mul-le-mul_left, mul-le-mul_right}
use native.Mathlib.Omega.{arith}
use borrow.Author.Tests.{leb-true, le-leb, not-true}
use lib.IntN.{pos}
use lib.ListN.{length}
use lib.Signed.{le_z}
use Rattle.basics.specs.Basics.{larger}
use Rattle.basics.proofs.Tests.{and_left, and_right, and_both}
use Rattle.curves.specs.Curves.{Point, well_formed, permitted, curve_margin}
use Rattle.curves.proofs.Permits.{permits}
use Rattle.curves.proofs.Margins.{margined}
use Rattle.rows.specs.Rows as R
use Rattle.rows.specs.Rows.{Row, in_range}
use Rattle.rows.proofs.Limits.{limits}
use Rattle.responses.specs.declared.Load.{Load}
use Rattle.responses.specs.Interference.{interference}
use Rattle.responses.specs.Figures.{worst_load, best_load, largest_hold, latest, earliest, is_late, margin}
use Rattle.responses.specs.Figures.{line_margin, margin_by}
use Rattle.responses.specs.Claims.{spent, ByLine, ByCurve, ByCondition, uncurved, OwnCurve}
use Rattle.responses.proofs.Blocking.{blocking_is}
use Rattle.curves.proofs.Floors.{sub_is, sub_sign}
use Rattle.responses.proofs.Sequences.{same_figures}

-- ---- the margin by a list of points
module _ (alpha beta w e : ℕ) where
  pub line_margin_lem : (c : List Point) → length c ≡ 0 → margin_by c alpha beta w e ≡ line_margin alpha beta w e
  line_margin_lem [] h = refl
  line_margin_lem (p ∷ ps) h = absurd (omega (arith, h))

  pub curve_margin_lem : (c : List Point) → 1 ≤ length c → margin_by c alpha beta w e ≡ curve_margin c w e
  curve_margin_lem [] h = absurd (omega (arith, h))
  curve_margin_lem (p ∷ ps) h = refl

-- with a smaller W and the same E what was enough still is
pub eased : (c : List Point) (alpha beta v w e : ℕ) → well_formed c ≡ true → v ≤ w
    → le_z (pos 0) (margin_by c alpha beta w e) ≡ true → le_z (pos 0) (margin_by c alpha beta v e) ≡ true
eased [] alpha beta v w e ok h inside =
    let less : alpha * (v - e) ≤ alpha * (w - e) = mul-le-mul_left alpha (omega (arith, h)) in
    let fits = leb-true (1000 * e + alpha * (w - e)) beta
    (sym (sub_sign beta (1000 * e + alpha * (w - e))) ∙ inside) in
    sub_sign beta (1000 * e + alpha * (v - e))
    ∙ le-leb (1000 * e + alpha * (v - e)) beta (omega (arith, less, fits))
eased (p ∷ ps) alpha beta v w e ok h inside =
    let c = p ∷ ps in
    let then = (margined c w e ok).stable_only inside in
    let under = (permitted c e).under in
    let less : (v - e) * under ≤ (w - e) * under = mul-le-mul_right under (omega (arith, h)) in
    (margined c v e ok).stable_if then.0 (record { crossed = omega (arith, less, then.1.crossed) })

-- ---- the condition of a row in range
module _ (t : Row) (above below : List Row) where
  abbrev late : Bool
  late = is_late t above below

  abbrev enough : Bool
  enough = le_z (pos 0) (margin t above below)

  by_line : length t.curve ≡ 0 → ByLine t above below
  by_line none =
      let as_line = line_margin_lem t.alpha t.beta (latest t above below) (earliest t above below) t.curve none in
      let inside = ap (le_z (pos 0)) as_line ∙ sub_sign t.beta (spent t above below) in
      record {
        margin_is = as_line ∙ sym (sub_is t.beta (spent t above below));
        stable_only = λ h. (
          not-true late (and_left (not late) enough h),
          leb-true (spent t above below) t.beta (sym inside ∙ and_right (not late) enough h),
        );
        stable_if = λ h l.
            and_both (not late) enough (ap not h) (inside ∙ le-leb (spent t above below) t.beta l);
      }

  by_curve : well_formed t.curve ≡ true → 1 ≤ length t.curve → ByCurve t above below
  by_curve ok some =
      let w = latest t above below in
      let e = earliest t above below in
      let same = curve_margin_lem t.alpha t.beta w e t.curve some in
      let claims = margined t.curve w e ok in
      record {
        permits = permits t.curve ok;
        margin_is = same;
        margined = claims;
        stable_only = λ h.
            let inside = claims.stable_only (sym (ap (le_z (pos 0)) same) ∙ and_right (not late) enough h) in
            (not-true late (and_left (not late) enough h), inside.0, inside.1);
        stable_if = λ h l m.
            and_both (not late) enough (ap not h) (ap (le_z (pos 0)) same ∙ claims.stable_if l m);
      }

  pub by_condition : in_range t ≡ true → ByCondition t above below
  by_condition h = record { by_line = by_line; by_curve = by_curve (limits t h).curve }

-- ---- a curve counts for its own task alone
worst_loads : (rows : List Row) → map worst_load rows ≡ map worst_load (uncurved rows)
unfolding R.cost
worst_loads [] = refl
worst_loads (r ∷ rows) = ap (λ (l : List Load). worst_load r ∷ l) (worst_loads rows)

best_loads : (rows : List Row) → map best_load rows ≡ map best_load (uncurved rows)
best_loads [] = refl
best_loads (r ∷ rows) = ap (λ (l : List Load). best_load r ∷ l) (best_loads rows)

holds : (rows : List Row) → largest_hold rows ≡ largest_hold (uncurved rows)
holds [] = refl
holds (r ∷ rows) = ap (larger r.hold) (holds rows)

pub own_curve : OwnCurve
unfolding R.cost
own_curve t above below = record {
  others = same_figures t (record {
    worst_same = λ x. ap (interference 0 x) (worst_loads above);
    best_same = λ x. ap (interference 1 x) (best_loads above);
    blocking_same =
        blocking_is below ∙ (ap (λ (h : ℕ). h - 1) (holds below) ∙ sym (blocking_is (uncurved below)));
  });
  latest-same = refl;
  earliest_same = refl;
  late_same = refl;
}
