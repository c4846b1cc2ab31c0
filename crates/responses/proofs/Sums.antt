-- Ceilings, and interference: it grows with the window, and a task takes at most the window and one period of it.
use mathlib.Core.Path.{◌≡◌, sym, ap, ◌∙◌}
use mathlib.Core.Logic.{inl, inr}
use mathlib.Core.List.{List, [], ◌∷◌}
use Prim.Native.Nat.{ℕ, zero, suc, ◌+◌, ◌-◌, ◌*◌, ◌/◌, ◌≤◌, ◌<◌}
use native.Mathlib.Nat.{le_trans, div-mul-le_self, le-div_iff_mul-le, mul-le-mul_left, mul-le-mul_right, add-le-add}
use native.Mathlib.Nat.{div-add-mod', mod-lt, lt_of_mul-lt-mul_right, mul_comm, mul-mul-mul_comm}
use native.Mathlib.Nat.{mul-add, add-mul, sub-zero}
use native.Mathlib.Omega.{arith}
use Rattle.basics.proofs.Tests.{le-or-lt}
use Rattle.responses.specs.declared.Load.{Load}
use Rattle.responses.specs.Interference.{ceiling, interference}
use Rattle.responses.specs.Claims.{RoundsUp}

-- ---- rounding up
pub ceiling_covers : (a p : ℕ) → 1 ≤ p → a ≤ ceiling a p * p
ceiling_covers a zero l = omega arith
ceiling_covers a (suc p) l = omega (arith, div-add-mod' (a + p) (suc p), mod-lt (a + p) {m = suc p} (omega arith))

pub ceiling_close : (a p : ℕ) → 1 ≤ p → ceiling a p * p < a + p
ceiling_close a zero l = omega arith
ceiling_close a (suc p) l = omega (arith, div-add-mod' (a + p) (suc p))

pub ceiling_under : (k a p : ℕ) → 1 ≤ p → a ≤ k * p → ceiling a p ≤ k
ceiling_under k a p pos l =
    let h : ceiling a p < suc k = lt_of_mul-lt-mul_right p (omega (arith, ceiling_close a p pos)) in
    omega arith

pub rounds_up : (a p : ℕ) → 1 ≤ p → RoundsUp a p (ceiling a p)
rounds_up a p pos = record {
  covers = ceiling_covers a p pos;
  fewest = λ j h. ceiling_under j a p pos h;
}

pub ceiling_mono : (x y p : ℕ) → x ≤ y → ceiling x p ≤ ceiling y p
ceiling_mono x y zero h = omega arith
ceiling_mono x y (suc p) h =
    ceiling_under (ceiling y (suc p)) x (suc p) (omega arith) (le_trans h (ceiling_covers y (suc p) (omega arith)))

pub ceiling_some : (x p : ℕ) → 1 ≤ x → 1 ≤ p → 1 ≤ ceiling x p
ceiling_some x zero h k = k
ceiling_some x (suc p) h k = (le-div_iff_mul-le {k = suc p} {x = 1} {y = x + p} (omega arith)).1 (omega arith)

-- a window within a period meets one job
pub ceiling_one : (x p : ℕ) → 1 ≤ x → x ≤ p → ceiling x p ≡ 1
ceiling_one x p h k = omega (arith, ceiling_some x p h (omega arith), ceiling_under 1 x p (omega arith) (omega arith))

-- as the code computes it
pub ceiling_is : (x p : ℕ) → 1 ≤ p → ceiling x p ≡ (x + (p - 1)) / p
ceiling_is x zero h = absurd (omega arith)
ceiling_is x (suc p) h = ap (λ (k : ℕ). (x + k) / suc p) (omega arith)

-- ---- interference
-- no period is 0
abbrev pub Periods : List Load → Type 0
Periods [] = Unit {0}
Periods (l ∷ ls) = (1 ≤ l.period) × Periods ls

-- a cost within the period: the jobs that a window meets take at most the window and one period
pub term_max : (s x p c : ℕ) → c ≤ p → (ceiling x p - s) * c ≤ x + p
term_max s x zero c h = omega (arith, mul-le-mul_left (0 - s) h)
term_max s x (suc p) c h =
    let q = (x + p) / suc p in
    let a : (q - s) * c ≤ q * c = mul-le-mul_right c (omega arith) in
    let b : q * c ≤ q * suc p = mul-le-mul_left q h in
    omega (arith, a, b, div-mul-le_self (x + p) (suc p))

pub interference_mono : (s x y : ℕ) (ls : List Load) → x ≤ y → interference s x ls ≤ interference s y ls
interference_mono s x y [] h = omega arith
interference_mono s x y (l ∷ ls) h =
    let c = ceiling_mono x y l.period h in
    add-le-add (mul-le-mul_right l.cost (omega arith)) (interference_mono s x y ls h)

-- ---- windows one after another
ceiling_sum : (x y p : ℕ) → 1 ≤ p → ceiling (x + y) p ≤ ceiling x p + ceiling y p
ceiling_sum x y p pos =
    ceiling_under (ceiling x p + ceiling y p) (x + y) p pos
    (omega (arith, ceiling_covers x p pos, ceiling_covers y p pos))

-- one job less of each task in the later of two
pub interference_sum : (x y : ℕ) (ls : List Load) → 1 ≤ y → Periods ls
    → interference 1 (x + y) ls ≤ interference 0 x ls + interference 1 y ls
interference_sum x y [] h ps = omega arith
interference_sum x y (l ∷ ls) h ps =
    let p = l.period in
    let c = l.cost in
    let fewer : ceiling (x + y) p - 1 ≤ (ceiling x p - 0) + (ceiling y p - 1) =
    omega (arith, ceiling_sum x y p ps.0, ceiling_some y p h ps.0) in
    let term = mul-le-mul_right c fewer in
    omega (arith, term, add-mul (ceiling x p - 0) (ceiling y p - 1) c, interference_sum x y ls h ps.1)

-- the whole jobs of y ticks are to y less 1 at most as the jobs that w ticks meet are to w
whole_jobs : (y p : ℕ) → 1 ≤ y → 1 ≤ p → (ceiling y p - 1) * p ≤ y - 1
whole_jobs y p h pos = elim (le-or-lt y ((ceiling y p - 1) * p)) [
  | inl l ↦ absurd (omega (arith, ceiling_under (ceiling y p - 1) y p pos l, ceiling_some y p h pos))
  | inr l ↦ omega arith
]

pub in_proportion : (w y : ℕ) (ls : List Load) → 1 ≤ y → Periods ls
    → w * interference 1 y ls ≤ (y - 1) * interference 0 w ls
in_proportion w y [] h ps = omega arith
in_proportion w y (l ∷ ls) h ps =
    let p = l.period in
    let c = l.cost in
    let k = ceiling w p - 0 in
    let j = ceiling y p - 1 in
    let covered : w ≤ k * p = rw (sub-zero (ceiling w p)) (ceiling_covers w p ps.0) in
    let swapped : (k * p) * (j * c) ≡ (j * p) * (k * c) =
    mul-mul-mul_comm k p j c ∙ ap (λ n. n * (p * c)) (mul_comm k j) ∙ sym (mul-mul-mul_comm j p k c) in
    let more : w * (j * c) ≤ (k * p) * (j * c) = mul-le-mul_right (j * c) covered in
    let less : (j * p) * (k * c) ≤ (y - 1) * (k * c) = mul-le-mul_right (k * c) (whole_jobs y p h ps.0) in
    omega (
      arith,
      more,
      swapped,
      less,
      in_proportion w y ls h ps.1,
      mul-add w (j * c) (interference 1 y ls),
      mul-add (y - 1) (k * c) (interference 0 w ls),
    )
