-- What the busy interval's first job already says: E is found in its time as in W, since past it no window solves E's
-- equation; and as W is at or past it, a task whose margin is below 0 there is not stable.
use mathlib.Core.Path.{◌≡◌, sym, ap, ap₂, ◌∙◌}
use mathlib.Core.Bool.{Bool, true, false, ◌&&◌, not, true≢false}
use mathlib.Core.Logic.{inl, inr}
use mathlib.Core.List.{List, map}
use Prim.Native.Nat.{ℕ, ◌+◌, ◌≤◌}
use native.Mathlib.Omega.{arith}
use borrow.Author.Tests.{eq-eqb, ne_eqb, not-true, eqb-false}
use lib.IntN.{pos}
use lib.Signed.{le_z}
use Rattle.basics.specs.Basics.{pick}
use Rattle.basics.proofs.Tests.{test_of, and_left, and_right}
use Rattle.curves.specs.Curves.{well_formed}
use Rattle.rows.specs.Rows.{Row, cost, times_in_range, all_rows}
use Rattle.rows.proofs.Limits.{times}
use Rattle.responses.specs.Interference.{largest_fixed}
use Rattle.responses.specs.Figures.{best_load, best_in, worst_in, blocking, finish_of, latest, is_late, may_hold}
use Rattle.responses.specs.Figures.{earliest, margin_at, margin, is_stable}
use Rattle.responses.proofs.Conditions.{eased}
use Rattle.responses.proofs.Finishes.{finish_fixed, first_latest}
use Rattle.responses.proofs.FixedPoints.{largest_fixed_lem}
use Rattle.responses.proofs.Windows.{best_fits, settled}

-- a stable task is not late
pub stable_timely : (t : Row) (above below : List Row) → is_stable t above below ≡ true → 1 ≤ latest t above below
stable_timely t above below h =
    let late = is_late t above below in
    let inside = le_z (pos 0) (margin t above below) in
    omega (arith, eqb-false (latest t above below) 0 (not-true late (and_left (not late) inside h)))

-- a late one is not stable
pub late_unstable : (t : Row) (above below : List Row) → latest t above below ≡ 0 → false ≡ is_stable t above below
late_unstable t above below z =
    let inside = le_z (pos 0) (margin t above below) in
    sym (ap (λ (b : Bool). not b && inside) (eq-eqb (latest t above below) 0 z))

-- one that is not late is, by its margin
pub stable_by_margin : (t : Row) (above below : List Row) (w e : ℕ) → 1 ≤ w → w ≡ latest t above below
    → e ≡ earliest t above below → le_z (pos 0) (margin_at t w e) ≡ is_stable t above below
stable_by_margin t above below w e some is_w is_e =
    let inside = le_z (pos 0) (margin t above below) in
    let timely = ne_eqb (latest t above below) 0 (λ z. omega arith) in
    ap₂ (λ (x y : ℕ). le_z (pos 0) (margin_at t x y)) is_w is_e
    ∙ sym (ap (λ (b : Bool). not b && inside) timely)

module _ (t : Row) (above below : List Row) (ht : times_in_range t ≡ true) (ha : all_rows times_in_range above ≡ true)
    (first : ℕ) (some : 1 ≤ first) (is : first ≡ finish_of t above below 0) where
  solved : first ≡ cost t + blocking below + worst_in first above
  solved =
      let f = (finish_fixed t above below 0 (omega arith)).0 in
      is ∙ omega (arith, f) ∙ sym (ap (λ (x : ℕ). cost t + blocking below + worst_in x above) is)

  -- E's equation has room in its time
  pub first_fits : t.best + best_in first above ≤ first
  first_fits =
      let l = times t ht in
      best_fits t.best (cost t + blocking below) first above ha l.best_some (omega (arith, l.best_cost)) solved first
      (omega arith)

  -- E, as it is found there
  abbrev here : ℕ
  here = pick (may_hold t) t.best (largest_fixed t.best first (map best_load above))

  pub here_within : here ≤ first
  here_within =
      let l = times t ht in
      let f = largest_fixed_lem t.best first (map best_load above) l.best_some first_fits in
      elim (test_of (may_hold t)) [
        | inl e ↦ rw e (omega (arith, first_fits))
        | inr e ↦ rw e f.2
      ]

  pub earliest_here : 1 ≤ latest t above below → here ≡ earliest t above below
  earliest_here timely =
      let l = times t ht in
      let past = first_latest t above below ht timely in
      ap (pick (may_hold t) t.best)
      (settled t.best (cost t + blocking below) first above ha l.best_some (omega (arith, l.best_cost)) solved first
      (latest t above below) (omega arith) (omega (arith, is, past)))

  -- what is not stable by its first job is not stable
  pub unstable_here : well_formed t.curve ≡ true → le_z (pos 0) (margin_at t first here) ≡ false
      → false ≡ is_stable t above below
  unstable_here ok outside = elim (test_of (is_stable t above below)) [
    | inl h ↦ (
        let timely = stable_timely t above below h in
        let late = is_late t above below in
        let inside = and_right (not late) (le_z (pos 0) (margin t above below)) h in
        let at : le_z (pos 0) (margin_at t (latest t above below) here) ≡ true =
        ap (λ (e : ℕ). le_z (pos 0) (margin_at t (latest t above below) e)) (earliest_here timely) ∙ inside in
        let past = first_latest t above below ht timely in
        let eased = eased t.curve t.alpha t.beta first (latest t above below) here ok (omega (arith, is, past)) at in
        absurd (true≢false (sym eased ∙ outside)))
    | inr h ↦ sym h
  ]
