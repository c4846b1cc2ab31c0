-- A curve's tests taken apart, and the line between two neighbours: the first allow less its share of the fall, so that
-- it lies between the two allows and never rises.
use mathlib.Core.Path.{◌≡◌, ap, ◌∙◌}
use mathlib.Core.Bool.{true, ◌&&◌}
use mathlib.Core.List.{List, [], ◌∷◌}
use Prim.Native.Nat.{ℕ, ◌+◌, ◌-◌, ◌*◌, ◌≤◌, ◌<◌}
use native.Mathlib.Nat.{mul-le-mul_right, sub_self}
use native.Mathlib.Omega.{arith}
use borrow.Author.Tests.{ltb-true, leb-true}
use lib.Dec.{leb, ltb}
use lib.ListN.{length}
use Rattle.basics.specs.Basics.{within}
use Rattle.basics.proofs.Tests.{and_left, and_right, within_true}
use Rattle.curves.specs.declared.Fraction.{Fraction}
use Rattle.curves.specs.Curves.{Point, min_delay, max_delay, min_allow, max_allow, max_points}
use Rattle.curves.specs.Curves.{in_limits, follows, orderly_from, orderly, well_formed, whole, on_line}
use Rattle.curves.specs.Claims.{AtMost, IsWhole, OnLine}

-- ---- a curve's tests taken apart
pub record Limited (p : Point) : Type 0 where
  pub delay_max : p.delay ≤ max_delay
  pub allow_max : p.allow ≤ max_allow

pub limited : (p : Point) → in_limits p ≡ true → Limited p
limited p h =
    let d = within min_delay max_delay p.delay in
    let a = within min_allow max_allow p.allow in
    record {
      delay_max = (within_true min_delay max_delay p.delay (and_left d a h)).le_high;
      allow_max = (within_true min_allow max_allow p.allow (and_right d a h)).le_high;
    }

pub record Step (p q : Point) (qs : List Point) : Type 0 where
  pub delays : p.delay < q.delay
  pub allows : q.allow ≤ p.allow
  pub rest : orderly_from q qs ≡ true

pub step : (p q : Point) (qs : List Point) → orderly_from p (q ∷ qs) ≡ true → Step p q qs
step p q qs h =
    let d = ltb p.delay q.delay in
    let a = leb q.allow p.allow in
    let r = and_right (in_limits p) (follows p q && orderly_from q qs) h in
    let f = and_left (follows p q) (orderly_from q qs) r in
    record {
      delays = ltb-true p.delay q.delay (and_left d a f);
      allows = leb-true q.allow p.allow (and_right d a f);
      rest = and_right (follows p q) (orderly_from q qs) r;
    }

pub head_in : (p : Point) (ps : List Point) → orderly_from p ps ≡ true → in_limits p ≡ true
head_in p [] h = h
head_in p (q ∷ qs) h = and_left (in_limits p) (follows p q && orderly_from q qs) h

pub head_limited : (p : Point) (ps : List Point) → orderly_from p ps ≡ true → Limited p
head_limited p ps h = limited p (head_in p ps h)

pub orderly_of : (c : List Point) → well_formed c ≡ true → orderly c ≡ true
unfolding well_formed
orderly_of c h = and_right (leb (length c) max_points) (orderly c) h

pub few_of : (c : List Point) → well_formed c ≡ true → length c ≤ max_points
unfolding well_formed
few_of c h = leb-true (length c) max_points (and_left (leb (length c) max_points) (orderly c) h)

-- ---- the line between two points
-- a stretch of ticks in two parts, and an amount in two parts
parts : (a d e f : ℕ) → d ≤ e → e ≤ f → a * (f - d) ≡ a * (f - e) + a * (e - d)
parts a d e f l r = let s : f - d ≡ (f - e) + (e - d) = omega arith in ap (λ (x : ℕ). a * x) s ∙ omega arith

amounts : (a b x : ℕ) → b ≤ a → a * x ≡ b * x + (a - b) * x
amounts a b x h = let s : a ≡ b + (a - b) = omega arith in ap (λ (y : ℕ). y * x) s ∙ omega arith

module _ (p q : Point) (d : p.delay < q.delay) where
  -- it is the first allow less its share of the fall
  pub line_slope : (e : ℕ) → p.delay ≤ e → e ≤ q.delay → q.allow ≤ p.allow
      → (on_line p q e).over + (p.allow - q.allow) * (e - p.delay) ≡ p.allow * (on_line p q e).under
  line_slope e l r a =
      omega (arith, parts p.allow p.delay e q.delay l r, amounts p.allow q.allow (e - p.delay) a)

  pub line_is : (e : ℕ) → p.delay ≤ e → e ≤ q.delay → q.allow ≤ p.allow → OnLine p q e (on_line p q e)
  line_is e l r a = record {
    shares = let s = ap (λ (x : ℕ). x * (q.delay - p.delay)) (line_slope e l r a) in omega arith;
  }

  -- a whole number at the line's start
  pub line_from : (e : ℕ) (f : Fraction) → p.delay ≡ e → IsWhole p.allow f → OnLine p q e f
  line_from e f h w = record {
    shares =
        let z : e - p.delay ≡ 0 = omega arith in
        rw (w.exact, z) (omega arith);
  }

  pub line_start : (e : ℕ) → p.delay ≡ e → IsWhole p.allow (on_line p q e)
  line_start e h = record { some = omega arith; exact = rw (← h) (rw (sub_self p.delay) (omega arith)) }

  pub line_end : (e : ℕ) → q.delay ≡ e → IsWhole q.allow (on_line p q e)
  line_end e h = record { some = omega arith; exact = rw (← h) (rw (sub_self q.delay) (omega arith)) }

  -- between the two allows
  pub line_most : (e : ℕ) → p.delay ≤ e → e ≤ q.delay → q.allow ≤ p.allow
      → AtMost (on_line p q e) (whole p.allow)
  line_most e l r a = record { crossed = omega (arith, line_slope e l r a) }

  pub line_least : (e : ℕ) → p.delay ≤ e → e ≤ q.delay → q.allow ≤ p.allow
      → AtMost (whole q.allow) (on_line p q e)
  line_least e l r a = record {
    crossed = omega (arith, parts q.allow p.delay e q.delay l r, mul-le-mul_right (q.delay - e) a);
  }

  -- and it falls
  pub line_falls : (e f : ℕ) → p.delay ≤ e → e ≤ f → f ≤ q.delay → q.allow ≤ p.allow
      → AtMost (on_line p q f) (on_line p q e)
  line_falls e f l m r a = record {
    crossed = mul-le-mul_right (q.delay - p.delay) (omega (
      arith,
      parts p.allow e f q.delay m r,
      parts q.allow p.delay e f l m,
      mul-le-mul_right (f - e) a,
    ));
  }

-- ---- fractions
-- through a whole number
pub through : (k : ℕ) (f g : Fraction) → AtMost f (whole k) → AtMost (whole k) g → AtMost f g
through k f g x y = record {
  crossed =
      let a = mul-le-mul_right g.under x.crossed in
      let b = mul-le-mul_right f.under y.crossed in
      omega arith;
}

pub whole_most : (m n : ℕ) → m ≤ n → AtMost (whole m) (whole n)
whole_most m n h = record { crossed = omega arith }

pub none_most : (f : Fraction) → AtMost (whole 0) f
none_most f = record { crossed = omega arith }
