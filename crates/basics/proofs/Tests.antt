-- A test is true or false, joined tests are taken apart and put together, and a range's test gives its two bounds.
use mathlib.Core.Path.{◌≡◌, refl, ap, sym, ◌∙◌}
use mathlib.Core.Bool.{Bool, true, false, ◌&&◌, ◌||◌, not}
use mathlib.Core.List.{List, [], ◌∷◌, ◌++◌}
use mathlib.Core.Logic.{◌⊎◌, inl, inr}
use Prim.Native.Nat.{ℕ, ◌≤◌, ◌<◌}
use native.Mathlib.Omega.{arith}
use lib.Dec.{leb, eqb}
use borrow.Author.Tests.{leb-true, leb-false, le-leb, eqb-false, ne_eqb, not-true}
-- a test's value with its equation, and joined tests
pub use Rattle.std.proofs.lemmas.Bool.{cases_Bool as test_of, and_from as and_both, or_cases, or_parts as or_neither, or_right, false_from_ne_true as false_of}
use Rattle.basics.specs.Basics.{pick, within, is_in, distinct}

pub true_not_false : (b : Bool) → b ≡ true → b ≡ false → ⊥
true_not_false b p q = let z : ◌≡◌ {A = ℕ} 0 1 = cc in omega arith

pub never : {A : Type 0} → false ≡ true → A
never e = absurd (true_not_false false e refl)

-- ---- joined tests
pub and_left : (a b : Bool) → (a && b) ≡ true → a ≡ true
and_left true b e = refl
and_left false b e = e

pub and_right : (a b : Bool) → (a && b) ≡ true → b ≡ true
and_right true b e = e
and_right false b e = absurd (true_not_false false e refl)

-- ---- a test that refuses by a number, 0 for none: what was not refused has passed
pub not_refused : (b : Bool) (n : ℕ) → 0 < n → pick b n 0 ≡ 0 → b ≡ false
not_refused true n some e = absurd (omega arith)
not_refused false n some e = refl

pub let_through : (b : Bool) (n : ℕ) → 0 < n → pick b 0 n ≡ 0 → b ≡ true
let_through true n some e = refl
let_through false n some e = absurd (omega arith)

-- ---- numbers
pub le-or-lt : (a b : ℕ) → (a ≤ b) ⊎ (b < a)
le-or-lt a b = elim (test_of (leb a b)) [ inl e ↦ inl (leb-true a b e) | inr e ↦ inr (leb-false a b e) ]

pub record Within (low high value : ℕ) : Type 0 where
  pub low_le : low ≤ value
  pub le_high : value ≤ high

pub within_true : (low high value : ℕ) → within low high value ≡ true → Within low high value
within_true low high value e = record {
  low_le = leb-true low value (and_left (leb low value) (leb value high) e);
  le_high = leb-true value high (and_right (leb low value) (leb value high) e);
}

pub true_within : (low high value : ℕ) → low ≤ value → value ≤ high → within low high value ≡ true
true_within low high value l h = simp (le-leb low value l, le-leb value high h)

pub eqb_swap : (x y : ℕ) → eqb x y ≡ false → eqb y x ≡ false
eqb_swap x y e = ne_eqb y x (λ h. eqb-false x y e (sym h))

-- ---- lists
pub in_append : (x : ℕ) (s t : List ℕ) → is_in x (s ++ t) ≡ (is_in x s || is_in x t)
in_append x [] t = refl
in_append x (y ∷ s) t = elim (test_of (eqb x y)) [ inl e ↦ rw e | inr e ↦ rw e (in_append x s t) ]

pub in_front : (x : ℕ) (s t : List ℕ) → is_in x s ≡ true → is_in x (s ++ t) ≡ true
in_front x s t h = in_append x s t ∙ ap (λ b. b || is_in x t) h

pub distinct_last : (xs : List ℕ) (x : ℕ) → distinct xs ≡ true → is_in x xs ≡ false → distinct (xs ++ (x ∷ [])) ≡ true
distinct_last [] x e h = refl
distinct_last (y ∷ xs) x e h =
    let new = not-true (is_in y xs) (and_left (not (is_in y xs)) (distinct xs) e) in
    let o = or_neither (eqb x y) (is_in x xs) h in
    rw (in_append y xs (x ∷ []), new, eqb_swap x y o.0)
    (distinct_last xs x (and_right (not (is_in y xs)) (distinct xs) e) o.1)

-- among different numbers, one is none of those before it
pub distinct_before : (xs : List ℕ) (x : ℕ) (ys : List ℕ) → distinct (xs ++ (x ∷ ys)) ≡ true → is_in x xs ≡ false
distinct_before [] x ys h = refl
distinct_before (y ∷ xs) x ys h =
    let all = xs ++ (x ∷ ys) in
    let other = not-true (is_in y all) (and_left (not (is_in y all)) (distinct all) h) in
    let behind = (or_neither (is_in y xs) (is_in y (x ∷ ys)) (sym (in_append y xs (x ∷ ys)) ∙ other)).1 in
    rw (eqb_swap y x (or_neither (eqb y x) (is_in y ys) behind).0)
    (distinct_before xs x ys (and_right (not (is_in y all)) (distinct all) h))
