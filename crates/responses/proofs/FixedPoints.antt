-- Smallest and largest numbers that a test takes, and fixed points of a growing function.
use mathlib.Core.Path.{◌≡◌, ap, sym, ◌∙◌}
use mathlib.Core.Bool.{Bool, true, false, false≢true}
use mathlib.Core.Logic.{inl, inr}
use mathlib.Core.List.{List}
use Prim.Native.Nat.{ℕ, zero, suc, ◌+◌, ◌≤◌, ◌<◌}
use native.Mathlib.Decide.{ℕ_discrete}
use native.Mathlib.Omega.{arith}
use borrow.Author.Tests.{eqb-true, eq-eqb}
use Rattle.basics.proofs.Tests.{test_of}
use Rattle.responses.specs.Extremes.{first_from, smallest, largest}
use Rattle.responses.specs.declared.Load.{Load}
use Rattle.responses.specs.Interference.{interference, is_fixed, least_fixed, largest_fixed}
use Rattle.responses.proofs.Sums.{interference_mono}

-- ---- any test
abbrev choose : Bool → ℕ → ℕ → ℕ
choose b x y = elim b [ true ↦ x | false ↦ y ]

module _ (f : ℕ → Bool) where
  first_yes : (k n : ℕ) → f k ≡ true → first_from f k (suc n) ≡ k
  first_yes k n e = ap (λ (b : Bool). choose b k (first_from f (suc k) n)) e

  first_no : (k n : ℕ) → f k ≡ false → first_from f k (suc n) ≡ first_from f (suc k) n
  first_no k n e = ap (λ (b : Bool). choose b k (first_from f (suc k) n)) e

  first_takes : (k n : ℕ) → 1 ≤ first_from f k n → (f (first_from f k n) ≡ true) × (first_from f k n < k + n)
  first_takes k zero h = absurd (omega arith)
  first_takes k (suc n) h = elim (test_of (f k)) [
    | inl e ↦ rw (first_yes k n e) (e, omega arith)
    | inr e ↦ (let t = first_takes (suc k) n (rw (first_no k n e) at h) in
        rw (first_no k n e) (t.0, omega (arith, t.1)))
  ]

  first_least : (k n v : ℕ) → 1 ≤ k → k ≤ v → v < k + n → f v ≡ true → (1 ≤ first_from f k n) × (first_from f k n ≤ v)
  first_least k zero v a b c d = absurd (omega arith)
  first_least k (suc n) v a b c d = elim (test_of (f k)) [
    | inl e ↦ rw (first_yes k n e) (a, b)
    | inr e ↦ rw (first_no k n e) (first_least (suc k) n v (omega arith) (past e (ℕ_discrete k v)) (omega arith) d)
  ]
    where
      past : f k ≡ false → Dec (k ≡ v) → suc k ≤ v
      past e (yes s) = absurd (false≢true (sym e ∙ (ap f s ∙ d)))
      past e (no s) = omega arith

  pub smallest_takes : (n : ℕ) → 1 ≤ smallest f n → (f (smallest f n) ≡ true) × (smallest f n ≤ n)
  unfolding smallest
  smallest_takes n h = let t = first_takes 1 n h in (t.0, omega (arith, t.1))

  pub smallest_least : (n v : ℕ) → 1 ≤ v → v ≤ n → f v ≡ true → (1 ≤ smallest f n) × (smallest f n ≤ v)
  unfolding smallest
  smallest_least n v a b d = first_least 1 n v (omega arith) a (omega arith) d

  largest_yes : (n : ℕ) → f (suc n) ≡ true → largest f (suc n) ≡ suc n
  unfolding largest
  largest_yes n e = ap (λ (b : Bool). choose b (suc n) (largest f n)) e

  largest_no : (n : ℕ) → f (suc n) ≡ false → largest f (suc n) ≡ largest f n
  unfolding largest
  largest_no n e = ap (λ (b : Bool). choose b (suc n) (largest f n)) e

  pub largest_takes : (n : ℕ) → 1 ≤ largest f n → (f (largest f n) ≡ true) × (largest f n ≤ n)
  unfolding largest
  largest_takes zero h = absurd (omega arith)
  largest_takes (suc n) h = elim (test_of (f (suc n))) [
    | inl e ↦ rw (largest_yes n e) (e, omega arith)
    | inr e ↦ (let t = largest_takes n (rw (largest_no n e) at h) in rw (largest_no n e) (t.0, omega (arith, t.1)))
  ]

  pub largest_largest : (n v : ℕ) → v ≤ n → f v ≡ true → v ≤ largest f n
  largest_largest zero v b d = omega arith
  largest_largest (suc n) v b d = elim (test_of (f (suc n))) [
    | inl e ↦ rw (largest_yes n e) b
    | inr e ↦ rw (largest_no n e) (largest_largest n v (before e (ℕ_discrete v (suc n))) d)
  ]
    where
      before : f (suc n) ≡ false → Dec (v ≡ suc n) → v ≤ n
      before e (yes s) = absurd (false≢true (sym e ∙ (ap f (sym s) ∙ d)))
      before e (no s) = omega arith

-- ---- a function that grows and is never 0: where it is at or below y, it has a fixed point from 1 to y
pub record FixedBelow (F : ℕ → ℕ) (y : ℕ) : Type 0 where
  pub point : ℕ
  pub is_fixed_lem : point ≡ F point
  pub some : 1 ≤ point
  pub below : point ≤ y

module _ (F : ℕ → ℕ) (mono : (x y : ℕ) → x ≤ y → F x ≤ F y) (some : (x : ℕ) → 1 ≤ F x) where
  fixed_within : (n y : ℕ) → y ≤ n → F y ≤ y → FixedBelow F y
  fixed_within zero y l h = absurd (omega (arith, some y))
  fixed_within (suc n) y l h = elim (ℕ_discrete (F y) y) [
    | yes e ↦ record { point = y; is_fixed_lem = sym e; some = omega (arith, some y); below = omega arith }
    | no e ↦ (let t = fixed_within n (F y) (omega arith) (mono (F y) y h) in
        record { point = t.point; is_fixed_lem = t.is_fixed_lem; some = t.some; below = omega arith })
  ]

  pub fixed_below : (y : ℕ) → F y ≤ y → FixedBelow F y
  fixed_below y h = fixed_within y y (omega arith) h

-- ---- the fixed points of interference
pub demand_mono : (s base : ℕ) (ls : List Load) (x y : ℕ) → x ≤ y
    → base + interference s x ls ≤ base + interference s y ls
demand_mono s base ls x y h = omega (arith, interference_mono s x y ls h)

module _ (base limit : ℕ) (ls : List Load) where
  pub least_fixed_lem : 1 ≤ least_fixed base limit ls
      → (least_fixed base limit ls ≡ base + interference 0 (least_fixed base limit ls) ls)
      × (least_fixed base limit ls ≤ limit)
  least_fixed_lem h =
      let t = smallest_takes (is_fixed 0 base ls) limit h in
      let w = least_fixed base limit ls in
      (eqb-true w (base + interference 0 w ls) t.0, t.1)

  pub least_least : (v : ℕ) → 1 ≤ v → v ≡ base + interference 0 v ls → v ≤ limit
      → (1 ≤ least_fixed base limit ls) × (least_fixed base limit ls ≤ v)
  least_least v h e l = smallest_least (is_fixed 0 base ls) limit v h l (eq-eqb v (base + interference 0 v ls) e)

  -- a fixed point within the limit, and at most every other, is the least
  pub least_is : (w : ℕ) → 1 ≤ w → w ≡ base + interference 0 w ls → w ≤ limit
      → ((v : ℕ) → 1 ≤ v → v ≡ base + interference 0 v ls → v ≤ limit → w ≤ v) → w ≡ least_fixed base limit ls
  least_is w h e l k =
      let p = least_least w h e l in
      let q = least_fixed_lem p.0 in
      omega (arith, p.1, k (least_fixed base limit ls) p.0 q.0 q.1)

  -- with none, it is 0
  pub least_none : ((v : ℕ) → 1 ≤ v → v ≡ base + interference 0 v ls → v ≤ limit → ⊥) → 0 ≡ least_fixed base limit ls
  least_none k = elim (ℕ_discrete (least_fixed base limit ls) 0) [
    | yes e ↦ sym e
    | no e ↦ (
        let h : 1 ≤ least_fixed base limit ls = omega arith in
        let q = least_fixed_lem h in
        absurd (k (least_fixed base limit ls) h q.0 q.1))
  ]

  pub largest_above : (v : ℕ) → v ≡ base + interference 1 v ls → v ≤ limit → v ≤ largest_fixed base limit ls
  largest_above v e l = largest_largest (is_fixed 1 base ls) limit v l (eq-eqb v (base + interference 1 v ls) e)

  -- where what is taken of the limit fits it, there is one
  pub largest_fixed_lem : 1 ≤ base → base + interference 1 limit ls ≤ limit
      → (largest_fixed base limit ls ≡ base + interference 1 (largest_fixed base limit ls) ls)
      × (1 ≤ largest_fixed base limit ls)
      × (largest_fixed base limit ls ≤ limit)
  largest_fixed_lem h k =
      let x = fixed_below (λ y. base + interference 1 y ls) (demand_mono 1 base ls) (λ y. omega arith) limit k in
      let e = largest_fixed base limit ls in
      let some : 1 ≤ e = omega (arith, x.some, largest_above x.point x.is_fixed_lem x.below) in
      let t = largest_takes (is_fixed 1 base ls) limit some in
      (eqb-true e (base + interference 1 e ls) t.0, some, t.1)

  pub largest_is : (e : ℕ) → 1 ≤ base → base + interference 1 limit ls ≤ limit → e ≡ base + interference 1 e ls
      → e ≤ limit → ((v : ℕ) → v ≡ base + interference 1 v ls → v ≤ limit → v ≤ e) → e ≡ largest_fixed base limit ls
  largest_is e h k f l m =
      let q = largest_fixed_lem h k in
      omega (arith, largest_above e f l, m (largest_fixed base limit ls) q.0 q.2)
