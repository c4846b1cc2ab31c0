-- A test and its opposite.
use mathlib.Core.Path.{◌≡◌}
use mathlib.Core.Bool.{not}
use mathlib.Core.Logic.{inl, inr}
use Prim.Native.Nat.{ℕ}
use lib.Dec.{leb, ltb}
use borrow.Author.Tests.{leb-true, leb-false, le-ltb, lt-ltb}
use Rattle.basics.specs.Basics.{pick}
use Rattle.basics.proofs.Tests.{test_of}

pub flips : (v b x y : ℕ) → pick (leb v b) x y ≡ pick (ltb b v) y x
flips v b x y = elim (test_of (leb v b)) [
  | inl e ↦ rw (e, le-ltb b v (leb-true v b e))
  | inr e ↦ rw (e, lt-ltb b v (leb-false v b e))
]

pub not_flips : (v b x y : ℕ) → pick (not (leb v b)) x y ≡ pick (ltb b v) x y
not_flips v b x y = elim (test_of (leb v b)) [
  | inl e ↦ rw (e, le-ltb b v (leb-true v b e))
  | inr e ↦ rw (e, lt-ltb b v (leb-false v b e))
]
