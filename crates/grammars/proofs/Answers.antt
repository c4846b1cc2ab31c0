-- What the test of a number makes of a line's answer.
use mathlib.Core.Path.{◌≡◌, refl}
use Prim.Native.Nat.{ℕ, zero, suc}
use native.Mathlib.Omega.{arith}
use Rattle.text.specs.Line.{Line}
use Rattle.text.specs.Line as L
use Rattle.grammars.specs.inside.Answers.{unless, tested}

-- every case of a line's answer but its number
abbrev pub NoNumber : Line → Type 0
NoNumber (L.Number v next) = ⊥
NoNumber L.End = Unit {0}
NoNumber (L.Refused n j) = Unit {0}

-- where there is no test, every answer stays
pub no_test : (l : Line) (k : ℕ) → l ≡ tested (λ v. 0) l k
no_test (L.Number v next) k = refl
no_test L.End k = refl
no_test (L.Refused n j) k = refl

-- and so does an answer that is no number
pub untested : (fault : ℕ → ℕ) (l : Line) (k : ℕ) → NoNumber l → l ≡ tested fault l k
untested fault (L.Number v next) k none = absurd none
untested fault L.End k none = refl
untested fault (L.Refused n j) k none = refl

-- a number that passes its test is the line's own
pub tested_number : (fault : ℕ → ℕ) (l : Line) (k v next : ℕ) → tested fault l k ≡ L.Number v next
    → l ≡ L.Number v next
tested_number fault (L.Number u past) k v next e = by_fault (fault u) e
  where
    by_fault : (n : ℕ) → unless n (L.Number u past) k ≡ L.Number v next → L.Number u past ≡ L.Number v next
    by_fault zero h = h
    by_fault (suc n) h = let z : ◌≡◌ {A = ℕ} 0 1 = cc in absurd (omega arith)
tested_number fault L.End k v next e = e
tested_number fault (L.Refused n j) k v next e = e
