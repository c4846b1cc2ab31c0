-- Up to the end of the period in which a window ends, a task is released no more often; so up to the first such end
-- none is.
use mathlib.Core.Path.{◌≡◌, refl, ap₂}
use mathlib.Core.List.{List, [], ◌∷◌}
use mathlib.Core.Logic.{inl, inr}
use Prim.Native.Nat.{ℕ, suc, ◌+◌, ◌-◌, ◌*◌, ◌≤◌, ◌<◌}
use native.Mathlib.Nat.{le_antisymm}
use native.Mathlib.Omega.{arith}
use lib.ListN.{length, get_or}
use Rattle.basics.proofs.Tests.{le-or-lt}
use Rattle.responses.specs.declared.Load.{Load}
use Rattle.responses.specs.Interference.{ceiling, interference}
use Rattle.responses.proofs.Sums.{rounds_up, ceiling_mono}
use Rattle.fixed_points.specs.inside.Loads.{no_load, Loads}
use Rattle.fixed_points.proofs.Loads.{loads_rest}

-- the end of the period of a task in which a window ends
abbrev pub end_of : ℕ → Load → ℕ
end_of x l = ceiling x l.period * l.period

-- a number is at or before the ends of the first k tasks
abbrev pub Before : ℕ → ℕ → List Load → ℕ → Type 0
Before u x ls k = (j : ℕ) → j < k → u ≤ end_of x (get_or ls j no_load)

-- one task more
pub before_next : (u v x : ℕ) (ls : List Load) (k : ℕ) → Before u x ls k → v ≤ u
    → v ≤ end_of x (get_or ls k no_load) → Before v x ls (suc k)
before_next u v x ls k b h here j l = elim (le-or-lt k j) [
  | inl m ↦ (let e : j ≡ k = omega arith in rw e here)
  | inr m ↦ omega (arith, b j m, h)
]

pub steady : (ls : List Load) → Loads ls → (u x y : ℕ) → Before u x ls (length ls) → x ≤ y → y ≤ u
    → interference 0 y ls ≡ interference 0 x ls
steady [] k u x y b h m = refl
steady (l ∷ ls) k u x y b h m =
    let some : 1 ≤ l.period = k.period_some 0 (omega arith) in
    let same : ceiling y l.period ≡ ceiling x l.period =
    le_antisymm
    ((rounds_up y l.period some).fewest (ceiling x l.period) (omega (arith, b 0 (omega arith), m)))
    (ceiling_mono x y l.period h) in
    ap₂ (λ (c i : ℕ). (c - 0) * l.cost + i) same
    (steady ls (loads_rest l ls k) u x y (λ j a. b (suc j) (omega arith)) h m)
