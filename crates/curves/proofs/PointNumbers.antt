-- Points whose numbers stand by turns: as many as are asked for, the one at index i of the numbers at 2 i and behind
-- it. Only those numbers count, a curve's own numbers give the curve again, and so do points that are lent one by one.
-- Each law by going two numbers on.
use mathlib.Core.Path.{◌≡◌, refl, ap, ap₂, sym, ◌∙◌}
use mathlib.Core.List.{List, [], ◌∷◌, ◌++◌}
use Prim.Native.Nat.{ℕ, zero, suc, ◌+◌, ◌*◌, ◌<◌}
use native.Mathlib.Omega.{arith}
use lib.ListN.{length, get_or, take, drop, length-map, get_or-map}
use lib.Seq.{get_or-take, get_or-drop}
use Rattle.std.specs.Simd.{first_chunks}
use Rattle.curves.specs.Curves.{Point, point, no_point, points_from, point_from, points_of, numbers_of}

-- the numbers of point i
abbrev pub point_in : ℕ → List ℕ → Point
point_in i vs = point (get_or vs (2 * i) 0) (get_or vs (suc (2 * i)) 0)

-- two numbers on
number_on : (vs : List ℕ) (i j : ℕ) → 2 + i ≡ j → get_or (drop 2 vs) i 0 ≡ get_or vs j 0
number_on vs i j e = get_or-drop 2 vs i 0 ∙ ap (λ (k : ℕ). get_or vs k 0) e

point_on : (i : ℕ) (vs : List ℕ) → point_in i (drop 2 vs) ≡ point_in (suc i) vs
point_on i vs =
    ap₂ point (number_on vs (2 * i) (2 * suc i) (omega arith))
    (number_on vs (suc (2 * i)) (suc (2 * suc i)) (omega arith))

pub points_length : (n : ℕ) (vs : List ℕ) → length (points_from n vs) ≡ n
points_length zero vs = refl
points_length (suc n) vs = ap suc (points_length n (drop 2 vs))

pub points_at_lem : (n : ℕ) (vs : List ℕ) (i : ℕ) → i < n → get_or (points_from n vs) i no_point ≡ point_in i vs
points_at_lem zero vs i l = absurd (omega arith)
points_at_lem (suc n) vs zero l = refl
points_at_lem (suc n) vs (suc i) l = points_at_lem n (drop 2 vs) i (omega arith) ∙ point_on i vs

-- one point more
pub points_snoc : (n : ℕ) (vs : List ℕ) → points_from (suc n) vs ≡ points_from n vs ++ (point_in n vs ∷ [])
points_snoc zero vs = refl
points_snoc (suc n) vs =
    ap (λ (c : List Point). point_in 0 vs ∷ c)
    (points_snoc n (drop 2 vs) ∙ ap (λ (p : Point). points_from n (drop 2 vs) ++ (p ∷ [])) (point_on n vs))

-- nothing but their numbers counts
pub points_same : (n : ℕ) (xs ys : List ℕ) → ((k : ℕ) → k < 2 * n → get_or xs k 0 ≡ get_or ys k 0)
    → points_from n xs ≡ points_from n ys
points_same zero xs ys h = refl
points_same (suc n) xs ys h =
    ap₂ (λ (p : Point) (c : List Point). p ∷ c) (ap₂ point (h 0 (omega arith)) (h 1 (omega arith)))
    (points_same n (drop 2 xs) (drop 2 ys)
    (λ k l. number_on xs k (2 + k) refl ∙ (h (2 + k) (omega arith) ∙ sym (number_on ys k (2 + k) refl))))

pub points_again : (c : List Point) → points_from (length c) (numbers_of c) ≡ c
points_again [] = refl
points_again (p ∷ ps) = ap (λ (c : List Point). p ∷ c) (points_again ps)

-- ---- points that are lent one by one
pub points_long : (points : List (List ℕ)) → length (points_of points) ≡ length points
points_long points = length-map points point_from

pub point_at : (points : List (List ℕ)) (i : ℕ) → get_or (points_of points) i no_point ≡ point_from (get_or points i [])
point_at points i = get_or-map point_from points i []

-- those of numbers that stand by turns
chunks_from : (n : ℕ) (vs : List ℕ) → points_of (first_chunks 2 n vs) ≡ points_from n vs
chunks_from zero vs = refl
chunks_from (suc n) vs =
    ap₂ (λ (p : Point) (c : List Point). p ∷ c)
    (ap₂ point (get_or-take 2 vs 0 0 (omega arith)) (get_or-take 2 vs 1 0 (omega arith)))
    (chunks_from n (drop 2 vs))

pub chunks_are : (n m : ℕ) (vs : List ℕ) → m ≡ n → points_of (first_chunks 2 m (take (2 * n) vs)) ≡ points_from n vs
chunks_are n m vs e =
    ap (λ (k : ℕ). points_of (first_chunks 2 k (take (2 * n) vs))) e
    ∙ chunks_from n (take (2 * n) vs)
    ∙ points_same n (take (2 * n) vs) vs (λ k l. get_or-take (2 * n) vs k 0 l)

-- ---- the numbers of a curve
pub numbers_length : (c : List Point) → length (numbers_of c) ≡ 2 * length c
numbers_length [] = refl
numbers_length (p ∷ ps) = omega (arith, numbers_length ps)

pub numbers_last : (c : List Point) (p : Point) → numbers_of (c ++ (p ∷ [])) ≡ numbers_of c ++ (p.delay ∷ p.allow ∷ [])
numbers_last [] p = refl
numbers_last (q ∷ qs) p = ap (λ (l : List ℕ). q.delay ∷ q.allow ∷ l) (numbers_last qs p)

-- the numbers of point i
pub numbers_at : (c : List Point) (i : ℕ) → i < length c → get_or c i no_point ≡ point_in i (numbers_of c)
numbers_at c i h =
    ap (λ (l : List Point). get_or l i no_point) (sym (points_again c)) ∙ points_at_lem (length c) (numbers_of c) i h
