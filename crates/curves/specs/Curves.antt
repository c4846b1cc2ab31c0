-- A curve: the jitter that a task is permitted at each earliest response, point by point, and the margin that this
-- leaves to its responses.
use Rattle.std.specs.Prelude.{Bool, true, ◌&&◌, List, [], ◌∷◌, map, ℕ, zero, suc, ◌+◌, ◌-◌, ◌*◌, ◌/◌, leb, ltb, ℤ, pos, negsuc, length, get_or, drop}
use Rattle.std.proofs.Math.IntN.{sub_ℕ}
use Rattle.basics.specs.Basics.{pick, within}
use Rattle.curves.specs.declared.Fraction.{Fraction}

-- ---- points
-- at an earliest response of `delay` ticks, `allow` ticks of jitter are permitted
pub record Point : Type 0 where
  pub delay : ℕ
  pub allow : ℕ

abbrev pub point : ℕ → ℕ → Point
point d a = record { delay = d; allow = a }

-- what stands past the points of a curve
abbrev pub no_point : Point
no_point = point 0 0

-- ---- limits: how many points, and the ticks of a delay and of an allow
abbrev pub min_points : ℕ
min_points = 0

abbrev pub max_points : ℕ
max_points = 8

abbrev pub min_delay : ℕ
min_delay = 0

abbrev pub max_delay : ℕ
max_delay = 1000000

abbrev pub min_allow : ℕ
min_allow = 0

abbrev pub max_allow : ℕ
max_allow = 1000000

-- the largest response that a curve is asked about
abbrev pub max_response : ℕ
max_response = 1000000

abbrev pub in_limits : Point → Bool
in_limits p = within min_delay max_delay p.delay && within min_allow max_allow p.allow

-- a later point: its delay is above that of the point before it, and its allow not above that one's
abbrev pub follows : Point → Point → Bool
follows p q = ltb p.delay q.delay && leb q.allow p.allow

-- every point is in its limits and follows the one before it
abbrev pub orderly_from : Point → List Point → Bool
orderly_from p [] = in_limits p
orderly_from p (q ∷ qs) = in_limits p && (follows p q && orderly_from q qs)

abbrev pub orderly : List Point → Bool
orderly [] = true
orderly (p ∷ ps) = orderly_from p ps

unfoldable pub well_formed : List Point → Bool
well_formed c = leb (length c) max_points && orderly c

-- n points of numbers that stand by turns: the first delay, its allow, the next delay, and so on
abbrev pub points_from : ℕ → List ℕ → List Point
points_from zero vs = []
points_from (suc n) vs = point (get_or vs 0 0) (get_or vs 1 0) ∷ points_from n (drop 2 vs)

-- points that are lent one by one, each as its two numbers
abbrev pub point_from : List ℕ → Point
point_from vs = point (get_or vs 0 0) (get_or vs 1 0)

abbrev pub points_of : List (List ℕ) → List Point
points_of points = map point_from points

-- and the numbers of points, by turns
abbrev pub numbers_of : List Point → List ℕ
numbers_of [] = []
numbers_of (p ∷ ps) = p.delay ∷ p.allow ∷ numbers_of ps

-- ---- the permitted jitter, as a fraction
abbrev pub fraction : ℕ → ℕ → Fraction
fraction n d = record { over = n; under = d }

abbrev pub whole : ℕ → Fraction
whole n = fraction n 1

-- on the straight line from p to q, at e from p's delay to q's
abbrev pub on_line : Point → Point → ℕ → Fraction
on_line p q e =
    fraction
    (p.allow * (q.delay - e) + q.allow * (e - p.delay))
    (q.delay - p.delay)

-- at e past the delay of p: on the line to the next point that e is not past; past the last, nothing is permitted
abbrev pub along : Point → List Point → ℕ → Fraction
along p [] e = whole 0
along p (q ∷ qs) e = pick (leb e q.delay) (on_line p q e) (along q qs e)

-- up to the first delay the first allow, and along the curve after it
unfoldable pub permitted : List Point → ℕ → Fraction
permitted [] e = whole 0
permitted (p ∷ ps) e = pick (leb e p.delay) (whole p.allow) (along p ps e)

-- ---- the margin
-- z / d rounded down, towards minus infinity
abbrev pub floor_of : ℤ → ℕ → ℤ
floor_of (pos n) d = pos (n / d)
floor_of (negsuc n) d = negsuc (n / d)

-- 1,000 × (f − jitter) rounded down
abbrev pub thousandths : Fraction → ℕ → ℤ
thousandths f j = floor_of (sub_ℕ (1000 * f.over) (1000 * (j * f.under))) f.under

abbrev pub last_from : Point → List Point → ℕ
last_from p [] = p.delay
last_from p (q ∷ qs) = last_from q qs

abbrev pub last_delay : List Point → ℕ
last_delay [] = 0
last_delay (p ∷ ps) = last_from p ps

-- of responses w and e under a curve: past the last delay, 1,000 × (last delay − e)
unfoldable pub curve_margin : List Point → ℕ → ℕ → ℤ
curve_margin c w e =
    pick (leb e (last_delay c))
    (thousandths (permitted c e) (w - e))
    (sub_ℕ (1000 * last_delay c) (1000 * e))
