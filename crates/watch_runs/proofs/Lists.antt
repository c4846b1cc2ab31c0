-- A list's number within it, whatever stands past its end; a list with one number set; what holds of none passed.
use mathlib.Core.Path.{◌≡◌, refl, ap, ◌∙◌}
use mathlib.Core.List.{List, [], ◌∷◌}
use mathlib.Core.Logic.{inl, inr}
use Prim.Native.Nat.{ℕ, zero, suc, ◌+◌, ◌≤◌, ◌<◌}
use native.Mathlib.Omega.{arith}
use native.Mathlib.Decide.{ℕ_discrete}
use native.Mathlib.Nat.{not-suc-le-zero}
use lib.ListN.{length, get_or, set}
use lib.Seq.{get_or-set_same, get_or-set_other}
use Rattle.basics.proofs.Tests.{le-or-lt}

pub get_d_any : (l : List ℕ) (i a b : ℕ) → i < length l → get_or l i a ≡ get_or l i b
get_d_any [] i a b h = absurd (not-suc-le-zero h)
get_d_any (x ∷ l) zero a b h = refl
get_d_any (x ∷ l) (suc i) a b h = get_d_any l i a b (omega arith)

-- what holds of the number set, and of the others as they were
pub set_each : (P : ℕ → ℕ → Type 0) (l : List ℕ) (i v : ℕ) → i < length l → P i v → (j : ℕ)
    → ((j ≡ i → ⊥) → P j (get_or l j 0)) → P j (get_or (set l i v) j 0)
set_each P l i v h here j other = elim (ℕ_discrete j i) [
  | yes e ↦ rw (e, get_or-set_same l i v 0 h) here
  | no ne ↦ rw (get_or-set_other l i j v 0 ne) (other ne)
]

pub set_within : (l : List ℕ) (i v most n : ℕ) → i < length l → ((j : ℕ) → j < n → get_or l j 0 ≤ most) → v ≤ most
    → (j : ℕ) → j < n → get_or (set l i v) j 0 ≤ most
set_within l i v most n h all here j b = set_each (λ j x. x ≤ most) l i v h here j (λ ne. all j b)

pub passed : (o : List ℕ) (from rank m : ℕ) → ((x : ℕ) → from ≤ x → x < m → get_or o x 0 ≡ rank → ⊥)
    → (get_or o m 0 ≡ rank → ⊥) → (x : ℕ) → from ≤ x → x < m + 1 → get_or o x 0 ≡ rank → ⊥
passed o from rank m h g x a b e = elim (le-or-lt m x) [
  | inl s ↦ (let y : m ≡ x = omega arith in g (ap (λ (z : ℕ). get_or o z 0) y ∙ e))
  | inr s ↦ h x a s e
]
