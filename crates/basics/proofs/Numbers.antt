-- The larger of two numbers is at least both, and no more than whatever is; so of several the sequence does not count.
use mathlib.Core.Path.{◌≡◌}
use mathlib.Core.Logic.{◌⊎◌, inl, inr}
use Prim.Native.Nat.{ℕ, ◌≤◌}
use native.Mathlib.Nat.{le_antisymm, le_trans}
use native.Mathlib.Omega.{arith}
use lib.Dec.{leb}
use borrow.Author.Tests.{leb-true, leb-false}
use Rattle.basics.specs.Basics.{larger}
use Rattle.basics.proofs.Tests.{test_of}

pub larger_left : (a b : ℕ) → a ≤ larger a b
larger_left a b = elim (test_of (leb a b)) [ inl e ↦ rw e (leb-true a b e) | inr e ↦ rw e (omega arith) ]

pub larger_right : (a b : ℕ) → b ≤ larger a b
larger_right a b =
    elim (test_of (leb a b)) [ inl e ↦ rw e (omega arith) | inr e ↦ rw e (omega (arith, leb-false a b e)) ]

-- it is one of the two
pub larger_either : (a b : ℕ) → (larger a b ≡ a) ⊎ (larger a b ≡ b)
larger_either a b = elim (test_of (leb a b)) [ inl e ↦ inr (rw e) | inr e ↦ inl (rw e) ]

pub larger_most : (a b x : ℕ) → a ≤ x → b ≤ x → larger a b ≤ x
larger_most a b x h k = elim (test_of (leb a b)) [ inl e ↦ rw e k | inr e ↦ rw e h ]

under_swapped : (a b c : ℕ) → larger a (larger b c) ≤ larger b (larger a c)
under_swapped a b c =
    let x = larger b (larger a c) in
    let rest = larger_right b (larger a c) in
    larger_most a (larger b c) x (le_trans (larger_left a c) rest)
    (larger_most b c x (larger_left b (larger a c)) (le_trans (larger_right a c) rest))

pub larger_swap : (a b c : ℕ) → larger a (larger b c) ≡ larger b (larger a c)
larger_swap a b c = le_antisymm (under_swapped a b c) (under_swapped b a c)

-- of three it is the same in either pairing
pub larger_assoc : (a b c : ℕ) → larger (larger a b) c ≡ larger a (larger b c)
larger_assoc a b c =
    le_antisymm
    (larger_most (larger a b) c (larger a (larger b c))
    (larger_most a b (larger a (larger b c)) (larger_left a (larger b c))
    (le_trans (larger_left b c) (larger_right a (larger b c))))
    (le_trans (larger_right b c) (larger_right a (larger b c))))
    (larger_most a (larger b c) (larger (larger a b) c)
    (le_trans (larger_left a b) (larger_left (larger a b) c))
    (larger_most b c (larger (larger a b) c) (le_trans (larger_right a b) (larger_left (larger a b) c))
    (larger_right (larger a b) c)))

pub larger_none : (a : ℕ) → larger a 0 ≡ a
larger_none a = le_antisymm (larger_most a 0 a (omega arith) (omega arith)) (larger_left a 0)
