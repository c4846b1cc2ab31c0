-- Lines, keys and digits, one byte after another: what a loop over a text needs at each turn. What is left to be read
-- decides what the whole answers, so that one equation is the whole invariant.
use Rattle.std.proofs.Common.{◌≡◌, ℕ, suc, ◌<◌, ◌≤◌, ◌&&◌, eqb, ltb, List, [], ◌∷◌, length, get_or, drop, refl, ap, inl, inr, arith, drop-cons, lt-ltb, eq-eqb, ne_eqb, le-leb}
use Prim.Native.Nat.compare
use borrow.Author.Tests.{lt-leb}
use Rattle.basics.proofs.Tests.{test_of, true_within}
use Rattle.std.specs.Prelude.{None}
use Rattle.std.specs.List.{list_any, starts_with}
use Rattle.text.specs.Text.{line_feed, digit_zero}
use Rattle.text.specs.Lines.{max_digits, line_of, begins, digits_from, number_of}

-- ---- the first line, from an offset on
module _ (s : List ℕ) (i : ℕ) (h : i < length s) where
  pub line_ends : get_or s i 0 ≡ line_feed → line_of (drop i s) ≡ []
  line_ends e = rw (drop-cons s i 0 h, eq-eqb (get_or s i 0) line_feed e, line_of)

  pub line_goes_on : (get_or s i 0 ≡ line_feed → ⊥) → line_of (drop i s) ≡ get_or s i 0 ∷ line_of (drop (suc i) s)
  line_goes_on n = rw (drop-cons s i 0 h, ne_eqb (get_or s i 0) line_feed n, line_of)

-- it ends where a feed stands in the text
pub feed_ends : (s : List ℕ) → list_any (λ b. eqb b line_feed) s ≡ ltb (length (line_of s)) (length s)
feed_ends [] = refl
feed_ends (b ∷ s) =
    elim (test_of (eqb b line_feed)) [
      | inl e ↦ rw (e, line_of, lt-ltb 0 (length (b ∷ s)) (omega arith))
      | inr e ↦ rw (e, line_of, compare.suc-suc (suc (length (line_of s))) (length s)) (feed_ends s)
    ]

-- ---- a text begins with a key as slices do
pub begins_is : (key s : List ℕ) → starts_with eqb s key ≡ begins key s
begins_is [] s = refl
begins_is (x ∷ key) [] = refl
begins_is (x ∷ key) (y ∷ s) = ap (λ b. eqb x y && b) (begins_is key s)

-- ---- a number's form
pub number_empty : (s : List ℕ) → length s < 1 → number_of s ≡ None
unfolding number_of
number_empty s h = simp (lt-leb 1 (length s) h)

pub number_long : (s : List ℕ) → max_digits < length s → number_of s ≡ None
unfolding number_of
number_long s h = simp (le-leb 1 (length s) (omega arith), lt-leb (length s) max_digits h)

module _ (s : List ℕ) (some : 1 ≤ length s) (few : length s ≤ max_digits) where
  pub number_leads : get_or s 0 0 ≡ digit_zero → 1 < length s → number_of s ≡ None
  unfolding number_of
  number_leads e h =
      simp (
        true_within 1 max_digits (length s) some few,
        eq-eqb (get_or s 0 0) digit_zero e,
        lt-ltb 1 (length s) h,
      )

  pub number_starts : (get_or s 0 0 ≡ digit_zero → ⊥) → number_of s ≡ digits_from 0 s
  unfolding number_of
  number_starts n =
      simp (true_within 1 max_digits (length s) some few, ne_eqb (get_or s 0 0) digit_zero n)
