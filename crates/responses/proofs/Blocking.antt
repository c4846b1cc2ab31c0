-- The blocking time of some rows: the largest of their holds less 1, or 0, and no other number is. It is within the
-- limit of a hold, and 0 where no job may hold the processor past a tick.
use mathlib.Core.Path.{◌≡◌, refl}
use mathlib.Core.Bool.{true}
use mathlib.Core.Logic.{inl, inr}
use mathlib.Core.List.{List, [], ◌∷◌}
use Prim.Native.Nat.{ℕ, zero, suc, ◌-◌, ◌≤◌, ◌<◌}
use native.Mathlib.Nat.{le_antisymm}
use native.Mathlib.Omega.{arith}
use lib.ListN.{length, drop}
use Rattle.basics.proofs.Tests.{le-or-lt}
use Rattle.basics.proofs.Numbers.{larger_left, larger_right, larger_either, larger_most}
use Rattle.rows.specs.Rows.{max_ticks, in_range, all_rows, row_at}
use Rattle.rows.specs.Rows.{Row}
use Rattle.rows.proofs.Limits.{limits, head_passes, tail_passes}
use Rattle.responses.specs.Figures.{largest_hold, blocking}
use Rattle.responses.specs.Claims.{Blocks, NoneHolds}

-- ---- the largest hold
hold_under : (rs : List Row) (i : ℕ) → i < length rs → (row_at rs i).hold ≤ largest_hold rs
hold_under [] i l = absurd (omega arith)
hold_under (r ∷ rs) zero l = omega (arith, larger_left r.hold (largest_hold rs))
hold_under (r ∷ rs) (suc i) l =
    omega (arith, hold_under rs i (omega arith), larger_right r.hold (largest_hold rs))

hold_reached : (rs : List Row) → 1 ≤ largest_hold rs
    → (i : ℕ) × (i < length rs) × ((row_at rs i).hold ≡ largest_hold rs)
hold_reached [] h = absurd (omega arith)
hold_reached (r ∷ rs) h = elim (larger_either r.hold (largest_hold rs)) [
  | inl e ↦ (0, omega arith, rw e)
  | inr e ↦ (let b = hold_reached rs (rw e at h) in (suc b.0, omega (arith, b.1), rw e b.2))
]

pub largest_most : (x : ℕ) (rs : List Row) → ((i : ℕ) → i < length rs → (row_at rs i).hold ≤ x) → largest_hold rs ≤ x
largest_most x [] h = omega arith
largest_most x (r ∷ rs) h =
    larger_most r.hold (largest_hold rs) x (h 0 (omega arith)) (largest_most x rs (λ i l. h (suc i) (omega arith)))

-- ---- the blocking time
pub blocking_is : (rs : List Row) → blocking rs ≡ largest_hold rs - 1
unfolding blocking
blocking_is rs = refl

pub blocks : (rs : List Row) → Blocks rs (blocking rs)
blocks rs = record {
  covers = λ i l. omega (arith, hold_under rs i l, blocking_is rs);
  reached = λ h.
      let b = hold_reached rs (omega (arith, blocking_is rs)) in
      (b.0, b.1, omega (arith, b.2, blocking_is rs));
}

pub blocks_only : (rs : List Row) (b : ℕ) → Blocks rs b → b ≡ blocking rs
blocks_only rs b h = le_antisymm (no_more b (blocking rs) h (blocks rs)) (no_more (blocking rs) b (blocks rs) h)
  where
    no_more : (a c : ℕ) → Blocks rs a → Blocks rs c → a ≤ c
    no_more a c x y = elim (le-or-lt a c) [
      | inl l ↦ l
      | inr l ↦ (let r = x.reached (omega arith) in absurd (omega (arith, r.2, y.covers r.0 r.1)))
    ]

pub no_blocking : (rs : List Row) → NoneHolds rs → blocking rs ≡ 0
no_blocking rs h = omega (arith, largest_most 1 rs h, blocking_is rs)

-- some rows hold nothing, and so do those from an index on
pub rest_holds : (rs : List Row) (n : ℕ) → NoneHolds rs → NoneHolds (drop n rs)
rest_holds rs zero h = h
rest_holds [] (suc n) h = λ i l. absurd (omega arith)
rest_holds (r ∷ rs) (suc n) h = rest_holds rs n (λ i l. h (suc i) (omega arith))

holds_ranged : (rs : List Row) → all_rows in_range rs ≡ true → largest_hold rs ≤ max_ticks
holds_ranged [] h = omega arith
holds_ranged (r ∷ rs) h =
    let l = limits r (head_passes in_range r rs h) in
    larger_most r.hold (largest_hold rs) max_ticks (omega (arith, l.hold_worst, l.worst.le_high))
    (holds_ranged rs (tail_passes in_range r rs h))

pub blocking_max : (rs : List Row) → all_rows in_range rs ≡ true → blocking rs ≤ max_ticks
blocking_max rs h = omega (arith, holds_ranged rs h, blocking_is rs)
