-- The interference of some tasks: task by task, and that it fits.
use mathlib.Core.Path.{◌≡◌, ap}
use mathlib.Core.List.{List, [], ◌∷◌}
use Prim.Native.Nat.{ℕ, suc, ◌+◌, ◌-◌, ◌*◌, ◌≤◌, ◌<◌}
use native.Mathlib.Nat.{mul-le-mul}
use native.Mathlib.Omega.{arith}
use lib.ListN.{length, get_or, drop}
use lib.Seq.{drop-cons}
use Rattle.rows.specs.Rows.{max_ticks}
use Rattle.responses.specs.declared.Load.{Load}
use Rattle.responses.specs.Interference.{ceiling, interference}
use Rattle.responses.proofs.Sums.{Periods, term_max}
use Rattle.fixed_points.specs.inside.Loads.{loads_max, no_load, Loads}

-- the tasks behind the first
pub loads_rest : (l : Load) (ls : List Load) → Loads (l ∷ ls) → Loads ls
loads_rest l ls k = record {
  few = omega (arith, k.few);
  period_some = λ i h. k.period_some (suc i) (omega arith);
  period_max = λ i h. k.period_max (suc i) (omega arith);
  cost_period = λ i h. k.cost_period (suc i) (omega arith);
}

max_from : (s x : ℕ) (ls : List Load) → Loads ls → interference s x ls ≤ length ls * (x + max_ticks)
max_from s x [] k = omega arith
max_from s x (l ∷ ls) k =
    let t = term_max s x l.period l.cost (k.cost_period 0 (omega arith)) in
    omega (arith, t, k.period_max 0 (omega arith), max_from s x ls (loads_rest l ls k))

-- interference in a window of a table fits by far
pub interference_fits : (ls : List Load) → Loads ls → (s x : ℕ) → x ≤ max_ticks
    → interference s x ls ≤ loads_max * (max_ticks + max_ticks)
interference_fits ls k s x h =
    let all = max_from s x ls k in
    omega (arith, all, mul-le-mul {m₁ = x + max_ticks} {m₂ = max_ticks + max_ticks} k.few (omega arith))

pub periods_some : (ls : List Load) → Loads ls → Periods ls
periods_some [] k = tt
periods_some (l ∷ ls) k = (k.period_some 0 (omega arith), periods_some ls (loads_rest l ls k))

-- a sum so far, with the interference still to come: with what the next task adds to it, it fits
pub sum_fits : (ls : List Load) → Loads ls → (s x i sum r : ℕ) → x ≤ max_ticks → i < length ls
    → r ≡ ceiling x (get_or ls i no_load).period
    → sum + interference s x (drop i ls) ≡ interference s x ls
    → sum + (r - s) * (get_or ls i no_load).cost ≤ loads_max * (max_ticks + max_ticks)
sum_fits ls k s x i sum r h l e w =
    let task = get_or ls i no_load in
    let next = ap (interference s x) (drop-cons ls i no_load l) in
    omega (arith, ap (λ q. (q - s) * task.cost) e, next, w, interference_fits ls k s x h)
