-- The rows above a rank and those below it: interference, which adds up over a list of rows, is a sum over the ranks
-- above; and a bound on the holds of the rows below is one on those of every lower rank.
use mathlib.Core.Path.{◌≡◌, refl, ap, ◌∙◌}
use mathlib.Core.List.{List, [], ◌∷◌}
use Prim.Native.Nat.{ℕ, zero, suc, ◌+◌, ◌-◌, ◌*◌, ◌≤◌, ◌<◌}
use native.Mathlib.Nat.{not-suc-le-zero, le_of_suc-le-suc, sub-zero}
use lib.ListN.{length, drop}
use Rattle.basics.specs.Basics.{sum_to}
use Rattle.rows.specs.Rows.{row_at, cost}
use Rattle.rows.specs.Rows.{Row}
use Rattle.responses.specs.Interference.{ceiling}
use Rattle.responses.specs.Figures.{rows_above, worst_in, best_in}

-- ---- a sum over rows, by rank
module _ (part : Row → ℕ) (total : List Row → ℕ) (none : total [] ≡ 0)
    (more : (r : Row) (rs : List Row) → total (r ∷ rs) ≡ part r + total rs) where
  sum_above : (i : ℕ) (order : List Row) → i ≤ length order
      → total (rows_above order i) ≡ sum_to i (λ j. part (row_at order j))
  sum_above zero order l = none
  sum_above (suc i) [] l = absurd (not-suc-le-zero l)
  sum_above (suc i) (r ∷ rs) l =
      more r (rows_above rs i) ∙ ap (λ (n : ℕ). part r + n) (sum_above i rs (le_of_suc-le-suc l))

module _ (x : ℕ) where
  -- the most and the least that a row above takes of x ticks
  abbrev pub worst_part : Row → ℕ
  worst_part r = ceiling x r.period * cost r

  abbrev pub best_part : Row → ℕ
  best_part r = (ceiling x r.period - 1) * r.best

  pub worst_above : (i : ℕ) (order : List Row) → i ≤ length order
      → worst_in x (rows_above order i) ≡ sum_to i (λ j. worst_part (row_at order j))
  worst_above =
      sum_above worst_part (worst_in x) refl
      (λ r rs. ap (λ (k : ℕ). k * cost r + worst_in x rs) (sub-zero (ceiling x r.period)))

  pub best_above : (i : ℕ) (order : List Row) → i ≤ length order
      → best_in x (rows_above order i) ≡ sum_to i (λ j. best_part (row_at order j))
  best_above = sum_above best_part (best_in x) refl (λ r rs. refl)

-- ---- the rows from rank n on
pub hold_below : (n b : ℕ) (order : List Row)
    → ((j : ℕ) → j < length (drop n order) → (row_at (drop n order) j).hold ≤ b)
    → (m : ℕ) → n ≤ m → m < length order → (row_at order m).hold ≤ b
hold_below zero b order h m a l = h m l
hold_below (suc n) b [] h m a l = absurd (not-suc-le-zero l)
hold_below (suc n) b (r ∷ rs) h zero a l = absurd (not-suc-le-zero a)
hold_below (suc n) b (r ∷ rs) h (suc m) a l = hold_below n b rs h m (le_of_suc-le-suc a) (le_of_suc-le-suc l)
