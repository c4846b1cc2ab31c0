-- Finite sums over ranks. They keep the order of their parts and add up part by part; so if each part of one sum is at
-- most that of another, and the sums are the same, then their parts are the same.
use mathlib.Core.Path.{◌≡◌, refl}
use Prim.Native.Nat.{ℕ, zero, suc, ◌+◌, ◌≤◌, ◌<◌}
use native.Mathlib.Omega.{arith}
use Rattle.basics.specs.Basics.{sum_to}

-- P holds of every rank above n
abbrev pub Above : ℕ → (ℕ → Type 0) → Type 0
Above n P = (j : ℕ) → j < n → P j

pub sum-zero : (n : ℕ) → sum_to n (λ j. 0) ≡ 0
sum-zero zero = refl
sum-zero (suc n) = omega (arith, sum-zero n)

pub sum-add : (n : ℕ) (f g : ℕ → ℕ) → sum_to n (λ j. f j + g j) ≡ sum_to n f + sum_to n g
sum-add zero f g = refl
sum-add (suc n) f g = omega (arith, sum-add n (λ j. f (suc j)) (λ j. g (suc j)))

pub sum_last : (n : ℕ) (f : ℕ → ℕ) → sum_to (suc n) f ≡ sum_to n f + f n
sum_last zero f = omega arith
sum_last (suc n) f = omega (arith, sum_last n (λ j. f (suc j)))

pub sum-le : (n : ℕ) (f g : ℕ → ℕ) → Above n (λ j. f j ≤ g j) → sum_to n f ≤ sum_to n g
sum-le zero f g h = omega arith
sum-le (suc n) f g h =
    let first = h 0 (omega arith) in
    let others = sum-le n (λ j. f (suc j)) (λ j. g (suc j)) (λ j l. h (suc j) (omega arith)) in
    omega arith

-- sums squeezed together: so is each of their parts
pub sum_tight : (n : ℕ) (f g : ℕ → ℕ) → Above n (λ j. f j ≤ g j) → sum_to n g ≤ sum_to n f → Above n (λ j. g j ≤ f j)
sum_tight zero f g h s j l = omega arith
sum_tight (suc n) f g h s zero l =
    let others = sum-le n (λ j. f (suc j)) (λ j. g (suc j)) (λ j l. h (suc j) (omega arith)) in
    omega arith
sum_tight (suc n) f g h s (suc j) l =
    let first = h 0 (omega arith) in
    sum_tight n (λ j. f (suc j)) (λ j. g (suc j)) (λ j l. h (suc j) (omega arith)) (omega arith) j (omega arith)
