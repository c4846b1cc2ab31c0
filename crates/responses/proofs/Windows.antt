-- What a window brings of rows above. The best jobs take no more than the worst. Past a window that W's equation fills,
-- E's has room to spare, since y ticks more have less than y ticks of whole jobs: so each window from there on has room
-- for E's equation, and E is the same for all of them.
use mathlib.Core.Path.{◌≡◌, subst}
use mathlib.Core.Bool.{true}
use mathlib.Core.Logic.{inl, inr}
use mathlib.Core.List.{List, [], ◌∷◌, map}
use Prim.Native.Nat.{ℕ, zero, suc, ◌+◌, ◌-◌, ◌*◌, ◌≤◌, ◌<◌}
use native.Mathlib.Nat.{mul-le-mul, mul-le-mul_left, add-le-add, mul_comm, le_antisymm}
use native.Mathlib.Omega.{arith}
use Rattle.basics.proofs.Tests.{le-or-lt}
use Rattle.rows.specs.Rows.{Row, times_in_range, all_rows}
use Rattle.rows.proofs.Limits.{times, head_passes, tail_passes}
use Rattle.responses.specs.declared.Load.{Load}
use Rattle.responses.specs.Interference.{ceiling, interference, largest_fixed}
use Rattle.responses.specs.Figures.{worst_load, best_load, worst_in, best_in}
use Rattle.responses.proofs.Sums.{Periods, interference_sum, in_proportion}
use Rattle.responses.proofs.FixedPoints.{largest_fixed_lem, largest_above}

pub periods_some : (rs : List Row) → all_rows times_in_range rs ≡ true → Periods (map worst_load rs)
periods_some [] ok = tt
periods_some (r ∷ rs) ok =
    let l = times r (head_passes times_in_range r rs ok) in (
      omega (arith, l.best_some, l.best_cost, l.cost_period),
      periods_some rs (tail_passes times_in_range r rs ok),
    )

best_in_cost : (spared x : ℕ) (rs : List Row) → all_rows times_in_range rs ≡ true
    → interference spared x (map best_load rs) ≤ interference spared x (map worst_load rs)
best_in_cost spared x [] ok = omega arith
best_in_cost spared x (r ∷ rs) ok =
    add-le-add
    (mul-le-mul_left (ceiling x r.period - spared) (times r (head_passes times_in_range r rs ok)).best_cost)
    (best_in_cost spared x rs (tail_passes times_in_range r rs ok))

pub best_in_worst : (x : ℕ) (rs : List Row) → all_rows times_in_range rs ≡ true → best_in x rs ≤ worst_in x rs
best_in_worst x [] h = omega arith
best_in_worst x (r ∷ rs) h =
    let c = ceiling x r.period in
    let l = times r (head_passes times_in_range r rs h) in
    add-le-add
    (mul-le-mul {n₁ = c - 1} {n₂ = c - 0} (omega arith) l.best_cost)
    (best_in_worst x rs (tail_passes times_in_range r rs h))

-- a window w that a base and the rows above fill
module _ (best base w : ℕ) (rs : List Row) (ok : all_rows times_in_range rs ≡ true) (some : 1 ≤ best) (less : best ≤ base)
    (is : w ≡ base + worst_in w rs) where
  spare : (x : ℕ) → w < x → best + best_in x rs < x
  spare x past =
      let ls = map worst_load rs in
      let y = x - w in
      let ps = periods_some rs ok in
      let apart : w + y ≡ x = omega (arith, past) in
      let sum : interference 1 x ls ≤ interference 0 w ls + interference 1 y ls =
      subst (λ n. interference 1 n ls ≤ interference 0 w ls + interference 1 y ls) apart
      (interference_sum w y ls (omega (arith, past)) ps) in
      let few : interference 1 y ls < y = elim (le-or-lt y (interference 1 y ls)) [
        | inl h ↦ (
            let share : w * interference 1 y ls ≤ (y - 1) * interference 0 w ls =
            in_proportion w y ls (omega (arith, past)) ps in
            let under : (y - 1) * interference 0 w ls ≤ (y - 1) * (w - 1) =
            mul-le-mul_left (y - 1) (omega (arith, is, some, less)) in
            absurd (too_short w y (omega (arith, is, some, less)) (omega (arith, past))
            (omega (arith, mul-le-mul_left w h, share, under))))
        | inr h ↦ h
      ] in
      omega (arith, best_in_cost 1 x rs ok, sum, is, past, less, few)
    where
      too_short : (w y : ℕ) → 1 ≤ w → 1 ≤ y → w * y ≤ (y - 1) * (w - 1) → ⊥
      too_short zero y h k l = absurd (omega arith)
      too_short (suc w) zero h k l = absurd (omega arith)
      too_short (suc w) (suc y) h k l =
          let one_less : (n : ℕ) → suc n - 1 ≡ n = λ n. omega arith in
          let fewer : suc w * suc y ≤ y * w = rw (one_less y, one_less w) at l in
          omega (arith, fewer, mul_comm y w)

  -- from there on each window has room
  pub best_fits : (x : ℕ) → w ≤ x → best + best_in x rs ≤ x
  best_fits x h = elim (le-or-lt x w) [
    | inl l ↦ (let e : x ≡ w = omega arith in rw e (omega (arith, is, less, best_in_worst w rs ok)))
    | inr l ↦ omega (arith, spare x l)
  ]

  -- and E is at or below it, whichever is searched
  abbrev bests : List Load
  bests = map best_load rs

  found : (x : ℕ) → w ≤ x
      → (largest_fixed best x bests ≤ w) × (largest_fixed best x bests ≡ best + best_in (largest_fixed best x bests) rs)
  found x h =
      let e = largest_fixed best x bests in
      let f = largest_fixed_lem best x bests some (best_fits x h) in (
        elim (le-or-lt e w) [
          | inl k ↦ k
          | inr k ↦ absurd (omega (arith, spare e k, f.0))
        ],
        f.0,
      )

  pub settled : (x y : ℕ) → w ≤ x → w ≤ y → largest_fixed best x bests ≡ largest_fixed best y bests
  settled x y h k =
      let e = found x h in
      let f = found y k in
      le_antisymm
      (largest_above best y bests (largest_fixed best x bests) e.1 (omega (arith, e.0, k)))
      (largest_above best x bests (largest_fixed best y bests) f.1 (omega (arith, f.0, h)))
