-- What a curve permits by the index of the first point whose delay a response is not past, and its last delay.
use mathlib.Core.Path.{◌≡◌, ap, ap₂, sym, ◌∙◌, subst}
use mathlib.Core.Bool.{true}
use mathlib.Core.List.{List}
use Prim.Native.Nat.{ℕ, suc, ◌-◌, ◌≤◌, ◌<◌}
use native.Mathlib.Omega.{arith}
use lib.ListN.{length, get_or}
use Rattle.curves.specs.Curves.{Point, no_point, well_formed, points_of}
use Rattle.curves.specs.Curves.{whole, on_line, permitted, last_delay}
use Rattle.curves.specs.inside.Places.{lent_point, Passed, Reached}
use Rattle.curves.proofs.Lines.{Limited, orderly_of}
use Rattle.curves.proofs.Permits.{orderly_limits, permitted_none, permitted_first, permitted_next, last_at}
use Rattle.curves.proofs.PointNumbers.{point_at, points_long}

-- ---- points that are lent one by one
module _ (points : List (List ℕ)) where
  abbrev curve : List Point
  curve = points_of points

  delay_at : (i : ℕ) → (get_or curve i no_point).delay ≡ (lent_point points i).delay
  delay_at i = ap (λ (p : Point). p.delay) (point_at points i)

  pub limited_at : well_formed curve ≡ true → (i : ℕ) → i < length points → Limited (lent_point points i)
  limited_at h i l =
      subst Limited (point_at points i) (orderly_limits curve i (orderly_of curve h) (omega (arith, points_long points)))

  pub last_is : 1 ≤ length points → last_delay curve ≡ (lent_point points (length points - 1)).delay
  last_is l =
      last_at curve (length points - 1) (omega (arith, points_long points)) ∙ delay_at (length points - 1)

  module _ (e : ℕ) where
    passed_points : (n : ℕ) → Passed n points e → (k : ℕ) → k < n → (get_or curve k no_point).delay < e
    passed_points n h k l = omega (arith, h k l, delay_at k)

    pub permits_none : Passed (length points) points e → whole 0 ≡ permitted curve e
    permits_none h =
        sym (permitted_none curve e (λ k l. passed_points (length points) h k (omega (arith, points_long points))))

    pub permits_first : Reached points e 0 → whole (lent_point points 0).allow ≡ permitted curve e
    permits_first h =
        sym (permitted_first curve e (omega (arith, h.held, points_long points)) (omega (arith, h.reached, delay_at 0))
        ∙ ap (λ (p : Point). whole p.allow) (point_at points 0))

    -- past the first delay: on the line from the point before
    pub permits_line : (i j : ℕ) → i ≡ suc j → Reached points e i
        → on_line (lent_point points j) (lent_point points i) e ≡ permitted curve e
    permits_line i j q h =
        ap₂ (λ (p₁ p₂ : Point). on_line p₁ p₂ e) (sym (point_at points j))
        (sym (point_at points i) ∙ ap (λ (k : ℕ). get_or curve k no_point) q)
        ∙ sym (permitted_next curve j e (omega (arith, h.held, points_long points))
        (λ k l. passed_points i h.passed k (omega arith))
        (subst (λ (k : ℕ). e ≤ (get_or curve k no_point).delay) q (omega (arith, h.reached, delay_at i))))
