-- The work that a window of ticks brings. Each job needs from its row's best to its cost, so a rank's work is bounded
-- by its releases in the window, both ways; that of the ranks above by their interference.
use mathlib.Core.List.{List}
use Prim.Native.Nat.{ℕ, ◌+◌, ◌*◌, ◌≤◌, ◌<◌}
use native.Mathlib.Omega.{arith}
use native.Mathlib.Nat.{le_trans, lt_of_lt_of_le}
use lib.ListN.{length}
use Rattle.rows.specs.Rows.{row_at, cost}
use Rattle.rows.specs.Rows.{Row}
use Rattle.rows.proofs.Limits.{Times}
use Rattle.responses.specs.Interference.{ceiling}
use Rattle.responses.specs.Figures.{rows_above, worst_in}
use Rattle.boards.specs.Claims.{LastsInRange}
use Rattle.boards.proofs.Sums.{Above, sum-le, sum-add}
use Rattle.boards.proofs.Releases.{released_most, released_least, needed_most, needed_least, needed_grows}
use Rattle.boards.proofs.Service.{work_above}
use Rattle.boards.proofs.Traces.{released_of, work_of}
use Rattle.boards.proofs.Ranks.{worst_part, worst_above}

module _ (order : List Row) (offset : ℕ → ℕ) (need : ℕ → ℕ → ℕ)
    (times : (j : ℕ) → j < length order → Times (row_at order j)) (lasts : LastsInRange order need) where
  pub periods : (j : ℕ) → j < length order → 1 ≤ (row_at order j).period
  periods j l = omega (arith, times j l)

  pub needs : (j k : ℕ) → j < length order → 1 ≤ need j k
  needs j k l = omega (arith, times j l, lasts j k l)

  pub needs_best : (j k : ℕ) → j < length order → (row_at order j).best ≤ need j k
  needs_best j k l = omega (arith, times j l, lasts j k l)

  abbrev pub work : ℕ → ℕ → ℕ
  work j t = work_of order offset need j t

  -- ---- of one rank
  pub window_most : (j s w : ℕ) → j < length order → work j (s + w) ≤ work j s + worst_part w (row_at order j)
  window_most j s w l =
      let r = row_at order j in
      let before = released_of order offset j s in
      le_trans (needed_grows (need j) (released_of order offset j (s + w)) (before + ceiling w r.period)
      (released_most r.period (offset j) (periods j l) s w))
      (needed_most (need j) (cost r) (λ k. (lasts j k l).1) before (ceiling w r.period))

  pub window_least : (j s w m : ℕ) → j < length order → offset j ≤ s → m * (row_at order j).period ≤ w
      → work j s + m * (row_at order j).best ≤ work j (s + w)
  window_least j s w m l started fits =
      let r = row_at order j in
      let before = released_of order offset j s in
      le_trans (needed_least (need j) r.best (λ k. needs_best j k l) before m)
      (needed_grows (need j) (before + m) (released_of order offset j (s + w))
      (released_least r.period (offset j) (periods j l) s w m started fits))

  -- ---- of the ranks above i
  pub window_above : (i s w : ℕ) → i ≤ length order
      → work_above work i (s + w) ≤ work_above work i s + worst_in w (rows_above order i)
  window_above i s w l =
      let part : ℕ → ℕ = λ j. worst_part w (row_at order j) in
      let each : Above i (λ j. work j (s + w) ≤ work j s + part j) = λ j b. window_most j s w (lt_of_lt_of_le b l) in
      let all = sum-le i (λ j. work j (s + w)) (λ j. work j s + part j) each in
      omega (arith, sum-add i (λ j. work j s) part, worst_above w i order l)
