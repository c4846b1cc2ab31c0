-- A signed quotient rounded down is the largest whole number at most the quotient; it keeps order, sign and range.
use mathlib.Core.Path.{◌≡◌, refl, ap, sym, ◌∙◌}
use mathlib.Core.Bool.{Bool, true, cond}
use mathlib.Core.Logic.{inl, inr}
use Prim.Native.Nat.{ℕ, zero, suc, ◌+◌, ◌-◌, ◌*◌, ◌/◌, ◌≤◌, ◌<◌}
use native.Mathlib.Nat.{le-div_iff_mul-le, div-lt_iff_lt-mul, div-mul-le_self, div-le_of_le-mul}
use native.Mathlib.Nat.{div-one, lt-div-mul-add, mul-le-mul_right}
use native.Mathlib.Omega.{arith}
use borrow.Author.Tests.{le-ltb, lt-ltb, le-leb, lt-leb, leb-true, leb-false}
use lib.Dec.{leb}
use lib.IntN.{ℤ, pos, negsuc, neg_ℤ, sub_ℕ, nat_abs, ◌-ℤ◌, ◌*ℤ◌}
use lib.Signed.{le_z}
use mir.Syntax.{w64}
use mir.Val.{to_z, of_z, SFits}
use mir.Facts.{to_z-of_z}
use Rattle.basics.proofs.Tests.{test_of, le-or-lt, never}
use Rattle.curves.specs.Curves.{floor_of}

-- two tests that are true of the same numbers
same_test : (a b x y : ℕ) → (a ≤ b → x ≤ y) → (x ≤ y → a ≤ b) → leb a b ≡ leb x y
same_test a b x y f g = elim (test_of (leb a b)) [
  | inl e ↦ e ∙ sym (le-leb x y (f (leb-true a b e)))
  | inr e ↦ e ∙ sym (lt-leb x y (elim (test_of (leb x y)) [
    | inl k ↦ absurd (let h = g (leb-true x y k) in let l = leb-false a b e in omega arith)
    | inr k ↦ leb-false x y k
  ]))
]

-- a quotient and its divisor
below_quotient : (m n d : ℕ) → m ≤ n / suc d → m * suc d ≤ n
below_quotient m n d h =
    omega (arith, mul-le-mul_right {m = m} {n = n / suc d} (suc d) h, div-mul-le_self n (suc d))

quotient_above : (m n d : ℕ) → m * suc d ≤ n → m ≤ n / suc d
quotient_above m n d h = (le-div_iff_mul-le {k = suc d} {x = m} {y = n} (omega arith)).1 h

quotient_most : (n k d : ℕ) → n ≤ k * suc d → n / suc d ≤ k
quotient_most n k d h = div-le_of_le-mul (suc d) {m = n} {n = k} (omega arith)

quotient_below : (m n d : ℕ) → n / suc d ≤ m → n ≤ m * suc d + d
quotient_below m n d h =
    omega (arith, mul-le-mul_right {m = n / suc d} {n = m} (suc d) h, lt-div-mul-add {a = n} {b = suc d} (omega arith))

below_product : (m n d : ℕ) → n ≤ m * suc d + d → n / suc d ≤ m
below_product m n d h =
    let l = (div-lt_iff_lt-mul {k = suc d} {x = n} {y = suc m} (omega arith)).1 (omega arith) in omega arith

quotients : (m n d : ℕ) → m ≤ n → m / suc d ≤ n / suc d
quotients m n d h = quotient_above (m / suc d) n d (omega (arith, div-mul-le_self m (suc d)))

product : (m d : ℕ) → suc m * suc d ≡ suc (m * suc d + d)
product m d = omega arith

-- m ≤ z / d rounded down exactly where m × d ≤ z
pub floor_largest : (m z : ℤ) (d : ℕ) → le_z m (floor_of z (suc d)) ≡ le_z (m *ℤ pos (suc d)) z
floor_largest (pos m) (pos n) d =
    same_test m (n / suc d) (m * suc d) n (below_quotient m n d) (quotient_above m n d)
floor_largest (pos m) (negsuc n) d = refl
floor_largest (negsuc m) (pos n) d =
    sym (ap (λ (x : ℕ). le_z (neg_ℤ (pos x)) (pos n)) (product m d))
floor_largest (negsuc m) (negsuc n) d =
    same_test (n / suc d) m n (m * suc d + d) (quotient_below m n d) (below_product m n d)
    ∙ sym (ap (λ (x : ℕ). le_z (neg_ℤ (pos x)) (negsuc n)) (product m d))

-- with a larger dividend it does not fall
pub le_z_refl : (z : ℤ) → le_z z z ≡ true
le_z_refl (pos n) = le-leb n n (omega arith)
le_z_refl (negsuc n) = le-leb n n (omega arith)

pub floor_rises : (y z : ℤ) (d : ℕ) → le_z y z ≡ true → le_z (floor_of y (suc d)) (floor_of z (suc d)) ≡ true
floor_rises (pos m) (pos n) d h = le-leb _ _ (quotients m n d (leb-true m n h))
floor_rises (pos m) (negsuc n) d h = never h
floor_rises (negsuc m) (pos n) d h = refl
floor_rises (negsuc m) (negsuc n) d h = le-leb _ _ (quotients n m d (leb-true n m h))

-- 0 or more exactly where the dividend is
pub floor_sign : (z : ℤ) (d : ℕ) → le_z (pos 0) (floor_of z d) ≡ le_z (pos 0) z
floor_sign (pos n) d = le-leb 0 (n / d) (omega arith) ∙ sym (le-leb 0 n (omega arith))
floor_sign (negsuc n) d = refl

pub floor_one : (z : ℤ) → floor_of z 1 ≡ z
floor_one (pos n) = ap pos (div-one n)
floor_one (negsuc n) = ap negsuc (div-one n)

-- a dividend within k divisors gives at most k, either way
pub floor_small : (z : ℤ) (d k : ℕ) → nat_abs z ≤ k * suc d → nat_abs (floor_of z (suc d)) ≤ k
floor_small (pos n) d k h = quotient_most n k d h
floor_small (negsuc n) d k h = (div-lt_iff_lt-mul {k = suc d} {x = n} {y = k} (omega arith)).1 h

-- ---- a difference
pub sub_pos : (a b : ℕ) → b ≤ a → sub_ℕ a b ≡ pos (a - b)
sub_pos a b h = ap (λ (t : Bool). cond t (negsuc (b - suc a)) (pos (a - b))) (le-ltb a b h)

pub sub_neg : (a b : ℕ) → a < b → sub_ℕ a b ≡ negsuc (b - suc a)
sub_neg a b h = ap (λ (t : Bool). cond t (negsuc (b - suc a)) (pos (a - b))) (lt-ltb a b h)

-- as integers take it
pub sub_is : (a b : ℕ) → pos a -ℤ pos b ≡ sub_ℕ a b
sub_is a zero = ap pos (omega arith) ∙ sym (sub_pos a 0 (omega arith))
sub_is a (suc b) = refl

-- 0 or more exactly where what is taken fits
pub sub_sign : (a b : ℕ) → le_z (pos 0) (sub_ℕ a b) ≡ leb b a
sub_sign a b = elim (le-or-lt b a) [
  | inl h ↦ rw (sub_pos a b h, le-leb b a h) (le-leb 0 (a - b) (omega arith))
  | inr h ↦ rw (sub_neg a b h, lt-leb b a h) refl
]

-- it is larger where less is taken
pub sub_falls : (a b c : ℕ) → b ≤ c → le_z (sub_ℕ a c) (sub_ℕ a b) ≡ true
sub_falls a b c h = elim (le-or-lt c a) [
  | inl p ↦ rw (sub_pos a c p, sub_pos a b (omega arith)) (le-leb (a - c) (a - b) (omega arith))
  | inr p ↦ elim (le-or-lt b a) [
    | inl q ↦ rw (sub_neg a c p, sub_pos a b q) refl
    | inr q ↦ rw (sub_neg a c p, sub_neg a b q) (le-leb (b - suc a) (c - suc a) (omega arith))
  ]
]

pub sub_small : (a b m : ℕ) → a ≤ m → b ≤ m → nat_abs (sub_ℕ a b) ≤ m
sub_small a b m ha hb = elim (le-or-lt b a) [
  | inl p ↦ rw (sub_pos a b p) (omega arith)
  | inr p ↦ rw (sub_neg a b p) (omega arith)
]

-- what a call answers as a signed integer, read back
pub answered : (z x : ℤ) → SFits w64 z → z ≡ x → to_z w64 (of_z w64 z) ≡ x
answered z x f e = to_z-of_z f ∙ e
