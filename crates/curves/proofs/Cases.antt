-- Curves, and margins under them, computed.
use mathlib.Core.Path.{◌≡◌, refl}
use mathlib.Core.Bool.{true, false}
use mathlib.Core.List.{List, [], ◌∷◌}
use Prim.Native.Nat.{ℕ}
use lib.IntN.{ℤ, pos, neg_ℤ}
use Rattle.curves.specs.Curves.{Point, point, well_formed, points_from, permitted, curve_margin}

-- a negative number
abbrev minus : ℕ → ℤ
minus n = neg_ℤ (pos n)

-- one point: its allow up to its delay and at it, and unstable past it
abbrev one : List Point
one = point 20 5 ∷ []

one_well : well_formed one ≡ true
unfolding well_formed
one_well = refl

one_before : curve_margin one 14 10 ≡ pos 1000
unfolding curve_margin permitted
one_before = refl

one_at : curve_margin one 26 20 ≡ minus 1000
unfolding curve_margin permitted
one_at = refl

one_past : curve_margin one 21 21 ≡ minus 1000
unfolding curve_margin permitted
one_past = refl

-- three points; between the first two a tick of delay costs a third of a tick
abbrev three : List Point
three = point 10 4 ∷ point 13 3 ∷ point 20 0 ∷ []

three_by_turns : points_from 3 (10 ∷ 4 ∷ 13 ∷ 3 ∷ 20 ∷ 0 ∷ 7 ∷ []) ≡ three
three_by_turns = refl

three_well : well_formed three ≡ true
unfolding well_formed
three_well = refl

-- 4 - 1/3 permitted and 4 taken: -1/3 in thousandths, rounded down
third_below : curve_margin three 15 11 ≡ minus 334
unfolding curve_margin permitted
third_below = refl

-- 4 - 1/3 permitted and 3 taken: 2/3
two_thirds_above : curve_margin three 14 11 ≡ pos 666
unfolding curve_margin permitted
two_thirds_above = refl

-- at each delay the allow itself, and past the last
at_first : curve_margin three 14 10 ≡ pos 0
unfolding curve_margin permitted
at_first = refl

at_second : curve_margin three 16 13 ≡ pos 0
unfolding curve_margin permitted
at_second = refl

at_last : curve_margin three 20 20 ≡ pos 0
unfolding curve_margin permitted
at_last = refl

past_all : curve_margin three 23 22 ≡ minus 2000
unfolding curve_margin permitted
past_all = refl

-- a delay that does not rise, an allow that rises
level : well_formed (point 10 4 ∷ point 10 3 ∷ []) ≡ false
unfolding well_formed
level = refl

rising : well_formed (point 10 4 ∷ point 11 5 ∷ []) ≡ false
unfolding well_formed
rising = refl
