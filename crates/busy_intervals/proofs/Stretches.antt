-- Jobs that follow without a pause and without a release above: each is done a cost after the one before, and as that is
-- no more than a period, none takes longer.
use mathlib.Core.Path.{◌≡◌, ap}
use mathlib.Core.Logic.{inl, inr}
use mathlib.Core.List.{List}
use Prim.Native.Nat.{ℕ, ◌+◌, ◌-◌, ◌*◌, ◌/◌, ◌≤◌, ◌<◌}
use native.Mathlib.Nat.{mul-le-mul_right}
use native.Mathlib.Omega.{arith}
use Rattle.std.proofs.Math.Nat.{div-mul-le_self}
use Rattle.basics.proofs.Tests.{le-or-lt}
use Rattle.responses.specs.declared.Load.{Load}
use Rattle.responses.specs.Interference.{ceiling}
use Rattle.responses.proofs.Sums.{rounds_up}
use Rattle.fixed_points.specs.inside.Steady.{Steady}
use Rattle.busy_intervals.specs.inside.Finishes.{Stretch}

module _ {cost period : ℕ} {ls : List Load} {finish next until : ℕ} (less : cost ≤ period) (s : Steady finish ls until)
    (on : next < finish) (k : ℕ) (room : k ≤ (until - finish) / cost) where
  within : finish + k * cost ≤ until
  within =
      omega (arith, mul-le-mul_right cost room, div-mul-le_self (until - finish) cost, s.least)

  stretched : ((j : ℕ) → j < k → next + j * period < finish + j * cost) → Stretch cost period ls finish next k
  stretched goes_on = record {
    fits = omega (arith, within, s.most);
    same = λ y h l. s.same y h (omega (arith, l, within));
    goes_on = goes_on;
  }

  -- with a cost of a period the interval goes on as long as that
  pub without_end : period - cost ≡ 0 → Stretch cost period ls finish next k
  without_end none = stretched (λ j h.
      let same : j * period ≡ j * cost = ap (λ (p : ℕ). j * p) (omega (arith, none, less)) in
      omega (arith, same, on))

  -- with a lower one it ends with the first job that is done when the next is released
  pub up_to_end : k ≤ ceiling (finish - next) (period - cost) → 1 ≤ period - cost → Stretch cost period ls finish next k
  up_to_end few some = stretched (λ j h. elim (le-or-lt (finish + j * cost) (next + j * period)) [
    | inl past ↦ (
        let gained = period - cost in
        let apart : j * period ≡ j * (gained + cost) = ap (λ (p : ℕ). j * p) (omega (arith, less)) in
        let enough = (rounds_up (finish - next) gained some).fewest j (omega (arith, past, apart)) in
        absurd (omega (arith, enough, few, h)))
    | inr m ↦ m
  ])
