-- A deadline counts for its own task alone, since W and E of others take nothing of it; and of that for nothing but
-- late, since W is found without it and then held against it.
use mathlib.Core.Path.{◌≡◌, refl, sym, ap, ◌∙◌}
use mathlib.Core.Bool.{true, false}
use mathlib.Core.List.{List, [], ◌∷◌, map}
use Prim.Native.Nat.{ℕ, ◌-◌, ◌≤◌}
use native.Mathlib.Omega.{arith}
use Rattle.basics.specs.Basics.{pick, larger}
use Rattle.rows.specs.Rows as R
use Rattle.rows.specs.Rows.{Row, with_deadline, times_in_range}
use Rattle.rows.proofs.Limits.{times}
use Rattle.responses.specs.declared.Load.{Load}
use Rattle.responses.specs.Interference.{interference, largest_fixed}
use Rattle.responses.specs.Figures.{worst_load, best_load, largest_hold, may_hold, finish_of, latest, is_late, margin_at}
use Rattle.responses.specs.Claims.{due_in, OwnDeadline}
use Rattle.responses.proofs.Blocking.{blocking_is}
use Rattle.responses.proofs.Sequences.{same_figures}
use Rattle.responses.proofs.BusyIntervals.{in_deadline, timely}
use Rattle.responses.proofs.Finishes.{counts, not_late, is_timely}

module _ (d : ℕ) where
  worst_loads : (rows : List Row) → map worst_load rows ≡ map worst_load (due_in d rows)
  unfolding R.cost
  worst_loads [] = refl
  worst_loads (r ∷ rows) = ap (λ (l : List Load). worst_load r ∷ l) (worst_loads rows)

  best_loads : (rows : List Row) → map best_load rows ≡ map best_load (due_in d rows)
  best_loads [] = refl
  best_loads (r ∷ rows) = ap (λ (l : List Load). best_load r ∷ l) (best_loads rows)

  holds : (rows : List Row) → largest_hold rows ≡ largest_hold (due_in d rows)
  holds [] = refl
  holds (r ∷ rows) = ap (larger r.hold) (holds rows)

module _ (t : Row) (above below : List Row) (d : ℕ) (ht : times_in_range t ≡ true)
    (timely_now : is_late t above below ≡ false) (longer : t.deadline ≤ d) where
  same_latest : latest (with_deadline d t) above below ≡ latest t above below
  unfolding R.cost
  same_latest =
      let l = times t ht in
      let pos : 1 ≤ t.period = omega (arith, l.best_some, l.best_cost, l.cost_period) in
      let w = finish_of t above below in
      let c = counts t above below ht in
      let h = timely w t.period pos c t.deadline (not_late t above below ht timely_now) in
      in_deadline w t.period pos c d (omega (arith, h.1)) ∙ sym h.0

pub own_deadline : OwnDeadline
unfolding R.cost
own_deadline t above below d ht = record {
  others = same_figures t (record {
    worst_same = λ x. ap (interference 0 x) (worst_loads d above);
    best_same = λ x. ap (interference 1 x) (best_loads d above);
    blocking_same =
        blocking_is below ∙ (ap (λ (h : ℕ). h - 1) (holds d below) ∙ sym (blocking_is (due_in d below)));
  });
  same_after = λ now longer.
      let same = same_latest t above below d ht now longer in
      let e : ℕ → ℕ = λ w. pick (may_hold t) t.best (largest_fixed t.best w (map best_load above)) in (
        is_timely (with_deadline d t) above below ht (omega (arith, same, not_late t above below ht now)),
        same,
        ap e same,
        ap (λ (w : ℕ). margin_at t w (e w)) same,
      );
}
