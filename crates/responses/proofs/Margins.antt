-- The difference that a margin by a line is, as signed integers of 64 bits take it: no step of it overflows.
use mathlib.Core.Path.{◌≡◌, sym, ◌∙◌, subst}
use mathlib.Core.Bool.{Bool, cond}
use mathlib.Core.Logic.{inl, inr}
use Prim.Native.Nat.{ℕ, suc, ◌+◌, ◌-◌, ◌*◌, ◌^◌, ◌≤◌, ◌<◌}
use native.Mathlib.Nat.{mul-le-mul}
use native.Mathlib.Omega.{arith}
use borrow.Author.Tests.{ltb-true}
use lib.Dec.{ltb}
use lib.IntN.{pos, negsuc, sub_ℕ, ◌-ℤ◌}
use lib.Signed.{mag}
use mir.Syntax.{w64}
use mir.Val.{to_z, of_z, SFits}
use mir.Facts.{to_z_pos, to_z-of_z}
use Rattle.basics.proofs.Tests.{test_of}
use Rattle.curves.proofs.Floors.{sub_is}
use Rattle.rows.specs.Rows.{max_ticks, max_alpha, max_beta}

-- both numbers that a margin is the difference of fit a signed integer
pub margin_parts_fit : (alpha beta w e : ℕ) → alpha ≤ max_alpha → beta ≤ max_beta → w ≤ max_ticks → e ≤ w
    → (beta < 2 ^ 63) × (1000 * e + alpha * (w - e) < 2 ^ 63)
margin_parts_fit alpha beta w e la lb a b =
    let m = mul-le-mul {n₁ = alpha} {m₁ = w - e} {n₂ = max_alpha} {m₂ = max_ticks} la (omega arith) in
    (omega (arith, lb), omega (arith, m))

sub_small : (a b m : ℕ) → a < m → b ≤ m → mag (sub_ℕ a b) < m
sub_small a b m ha hb = elim (test_of (ltb a b)) [
  | inl e ↦ (let h = ltb-true a b e in
      subst (λ (t : Bool). mag (cond t (negsuc (b - suc a)) (pos (a - b))) < m) (sym e) (omega arith))
  | inr e ↦ subst (λ (t : Bool). mag (cond t (negsuc (b - suc a)) (pos (a - b))) < m) (sym e) (omega arith)
]

module _ (a b : ℕ) (ha : a < 2 ^ 63) (hb : b < 2 ^ 63) where
  signed : to_z w64 a -ℤ to_z w64 b ≡ sub_ℕ a b
  signed = rw (to_z_pos w64 {n = a} ha, to_z_pos w64 {n = b} hb) (sub_is a b)

  pub signed-fits : SFits w64 (to_z w64 a -ℤ to_z w64 b)
  signed-fits = rw signed record { sfits = sub_small a b (2 ^ 63) ha (omega arith) }

  pub signed_is : to_z w64 (of_z w64 (to_z w64 a -ℤ to_z w64 b)) ≡ sub_ℕ a b
  signed_is = to_z-of_z signed-fits ∙ signed
