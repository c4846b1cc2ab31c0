-- A curve taken point by point: with one point more it keeps the limits exactly where it kept them before and has room,
-- and the point is in its limits and follows the last. By going along the curve to its last point.
use mathlib.Core.Path.{◌≡◌, refl, ap, sym, ◌∙◌, subst}
use mathlib.Core.Bool.{Bool, true, false, ◌&&◌}
use mathlib.Core.List.{List, [], ◌∷◌, ◌++◌, append_assoc, append-nil}
use Prim.Native.Nat.{ℕ, zero, suc, ◌+◌, ◌<◌}
use native.Mathlib.Omega.{arith}
use borrow.Author.Tests.{le-leb}
use lib.Dec.{leb}
use lib.ListN.{length, get_or, length-append}
use Rattle.basics.proofs.Tests.{and_left, and_right, and_both}
use Rattle.curves.specs.Curves.{Point, no_point, max_points, in_limits, follows, orderly_from, orderly, well_formed}
use Rattle.curves.specs.Curves.{points_from}
use Rattle.curves.proofs.Lines.{orderly_of, few_of}
use Rattle.curves.proofs.PointNumbers.{point_in, points_at_lem, points_length, points_snoc}

-- the last of some points
abbrev pub last_of : Point → List Point → Point
last_of p [] = p
last_of p (q ∷ qs) = last_of q qs

-- whether a point may stand behind a curve: the first may, a later one where it follows the last
abbrev pub takes : List Point → Point → Bool
takes [] p = true
takes (q ∷ qs) p = follows (last_of q qs) p

-- ---- the tests
and_turn : (a b : Bool) → (a && b) ≡ (b && a)
and_turn true true = refl
and_turn true false = refl
and_turn false true = refl
and_turn false false = refl

and_shift : (a b c d : Bool) → (a && (b && (c && d))) ≡ ((a && (b && c)) && d)
and_shift true true c d = refl
and_shift true false c d = refl
and_shift false b c d = refl

orderly_last_from : (q : Point) (qs : List Point) (p : Point)
    → orderly_from q (qs ++ (p ∷ [])) ≡ (orderly_from q qs && (in_limits p && follows (last_of q qs) p))
orderly_last_from q [] p = ap (λ (b : Bool). in_limits q && b) (and_turn (follows q p) (in_limits p))
orderly_last_from q (r ∷ rs) p =
    ap (λ (b : Bool). in_limits q && (follows q r && b)) (orderly_last_from r rs p)
    ∙ and_shift (in_limits q) (follows q r) (orderly_from r rs) (in_limits p && follows (last_of r rs) p)

pub orderly_last : (c : List Point) (p : Point) → orderly (c ++ (p ∷ [])) ≡ (orderly c && (in_limits p && takes c p))
orderly_last [] p = and_turn true (in_limits p)
orderly_last (q ∷ qs) p = orderly_last_from q qs p

-- ---- a curve with one point more
module _ (c : List Point) (p : Point) where
  abbrev more : List Point
  more = c ++ (p ∷ [])

  more_length : length more ≡ suc (length c)
  more_length = length-append c (p ∷ []) ∙ omega arith

  pub well_more : well_formed c ≡ true → length c < max_points → in_limits p ≡ true → takes c p ≡ true
      → well_formed more ≡ true
  unfolding well_formed
  well_more w l i t =
      and_both (leb (length more) max_points) (orderly more)
      (le-leb (length more) max_points (omega (arith, more_length)))
      (orderly_last c p ∙ and_both (orderly c) (in_limits p && takes c p) (orderly_of c w)
      (and_both (in_limits p) (takes c p) i t))

  pub record Grown : Type 0 where
    pub before : well_formed c ≡ true
    pub room : length c < max_points
    pub limits : in_limits p ≡ true
    pub taken : takes c p ≡ true

  pub well_only : well_formed more ≡ true → Grown
  unfolding well_formed
  well_only h =
      let o = sym (orderly_last c p) ∙ orderly_of more h in
      let r = and_right (orderly c) (in_limits p && takes c p) o in
      let l : length c < max_points = omega (arith, few_of more h, more_length) in
      record {
        before = and_both (leb (length c) max_points) (orderly c) (le-leb (length c) max_points (omega arith))
            (and_left (orderly c) (in_limits p && takes c p) o);
        room = l;
        limits = and_left (in_limits p) (takes c p) r;
        taken = and_right (in_limits p) (takes c p) r;
      }

-- ---- the last point by its index
last_of_at : (q : Point) (qs : List Point) → last_of q qs ≡ get_or (q ∷ qs) (length qs) no_point
last_of_at q [] = refl
last_of_at q (r ∷ rs) = last_of_at r rs

pub takes_first : (c : List Point) (p : Point) → length c ≡ 0 → takes c p ≡ true
takes_first [] p h = refl
takes_first (q ∷ qs) p h = absurd (omega arith)

pub takes_next : (c : List Point) (p : Point) (i : ℕ) → length c ≡ suc i → takes c p ≡ follows (get_or c i no_point) p
takes_next [] p i h = absurd (omega arith)
takes_next (q ∷ qs) p i h =
    let e : length qs ≡ i = omega arith in
    ap (λ (r : Point). follows r p) (last_of_at q qs ∙ ap (λ (k : ℕ). get_or (q ∷ qs) k no_point) e)

-- ---- points whose numbers stand by turns
module _ (vs : List ℕ) where
  pub points_take : (n : ℕ) (p : Point) → takes (points_from (suc n) vs) p ≡ follows (point_in n vs) p
  points_take n p =
      takes_next (points_from (suc n) vs) p n (points_length (suc n) vs)
      ∙ ap (λ (q : Point). follows q p) (points_at_lem (suc n) vs n (omega arith))

  pub points_more : (n : ℕ) → well_formed (points_from n vs) ≡ true → n < max_points → in_limits (point_in n vs) ≡ true
      → takes (points_from n vs) (point_in n vs) ≡ true → well_formed (points_from (suc n) vs) ≡ true
  points_more n w l i t =
      ap well_formed (points_snoc n vs)
      ∙ well_more (points_from n vs) (point_in n vs) w (omega (arith, points_length n vs)) i t

  pub points_only : (n : ℕ) → well_formed (points_from (suc n) vs) ≡ true → Grown (points_from n vs) (point_in n vs)
  points_only n h =
      well_only (points_from n vs) (point_in n vs) (sym (ap well_formed (points_snoc n vs)) ∙ h)

  -- the first points of a curve are one
  pub points_front : (n m : ℕ) → well_formed (points_from (n + m) vs) ≡ true → well_formed (points_from n vs) ≡ true
  points_front n zero h =
      let e : n + 0 ≡ n = omega arith in
      subst (λ (k : ℕ). well_formed (points_from k vs) ≡ true) e h
  points_front n (suc m) h =
      let e : n + suc m ≡ suc (n + m) = omega arith in
      points_front n m
      (points_only (n + m) (subst (λ (k : ℕ). well_formed (points_from k vs) ≡ true) e h)).before

-- ---- a curve taken apart at one of its points
pub well_front : (c d : List Point) → well_formed (c ++ d) ≡ true → well_formed c ≡ true
well_front c [] h = sym (ap well_formed (append-nil c)) ∙ h
well_front c (p ∷ ps) h =
    (well_only c p (well_front (c ++ (p ∷ [])) ps (ap well_formed (append_assoc c (p ∷ []) ps) ∙ h))).before

pub well_at : (c : List Point) (p : Point) (ps : List Point) → well_formed (c ++ (p ∷ ps)) ≡ true → Grown c p
well_at c p ps h = well_only c p (well_front (c ++ (p ∷ [])) ps (ap well_formed (append_assoc c (p ∷ []) ps) ∙ h))
