-- What is claimed of a curve and of the margin under it.
use Rattle.std.specs.Prelude.{◌≡◌, true, List, ◌↔◌, ℕ, suc, ◌+◌, ◌-◌, ◌*◌, ◌≤◌, ◌<◌, ℤ, pos, nat_abs, ◌-ℤ◌, ◌*ℤ◌, length, get_or}
use Rattle.std.proofs.Math.IntN.{sub_ℕ}
use Rattle.std.specs.Int.Signed.{le_z}
use Rattle.curves.specs.declared.Fraction.{Fraction}
use Rattle.curves.specs.Curves.{Point, no_point, max_points, max_delay, max_allow, max_response, well_formed}
use Rattle.curves.specs.Curves.{whole, on_line, permitted}
use Rattle.curves.specs.Curves.{last_delay, curve_margin}

-- points that keep the limits, by their indices: not too many, each number within its own, each delay above the one
-- before it, each allow not above the one before it
pub record InSequence (c : List Point) : Type 0 where
  pub few : length c ≤ max_points
  pub delays : (i : ℕ) → i < length c → (get_or c i no_point).delay ≤ max_delay
  pub allows : (i : ℕ) → i < length c → (get_or c i no_point).allow ≤ max_allow
  pub later : (i : ℕ) → suc i < length c → (get_or c i no_point).delay < (get_or c (suc i) no_point).delay
  pub lower : (i : ℕ) → suc i < length c → (get_or c (suc i) no_point).allow ≤ (get_or c i no_point).allow

-- just these are well formed
abbrev pub FormedSo : Type 0
FormedSo = (c : List Point) → (well_formed c ≡ true) ↔ InSequence c

-- f ≤ g, cross-multiplied
pub record AtMost (f g : Fraction) : Type 0 where
  pub crossed : f.over * g.under ≤ g.over * f.under

-- f is the whole number n
pub record IsWhole (n : ℕ) (f : Fraction) : Type 0 where
  pub some : 1 ≤ f.under
  pub exact : f.over ≡ n * f.under

-- f is on the straight line from p to q at e: p's allow less the share of the fall, cross-multiplied
pub record OnLine (p q : Point) (e : ℕ) (f : Fraction) : Type 0 where
  pub shares : f.over * (q.delay - p.delay) + (p.allow - q.allow) * (e - p.delay) * f.under
      ≡ p.allow * (q.delay - p.delay) * f.under

-- the largest margin, either way
abbrev pub max_margin : ℕ
max_margin = 1000000000

-- the jitter that a curve permits
pub record Permits (c : List Point) : Type 0 where
  pub under_some : (e : ℕ) → 1 ≤ (permitted c e).under
  -- the first allow up to the first delay, and the straight line between neighbours
  pub first : (e : ℕ) → 1 ≤ length c → e ≤ (get_or c 0 no_point).delay → permitted c e ≡ whole (get_or c 0 no_point).allow
  pub between : (i e : ℕ) → suc i < length c → (get_or c i no_point).delay ≤ e → e ≤ (get_or c (suc i) no_point).delay
      → OnLine (get_or c i no_point) (get_or c (suc i) no_point) e (permitted c e)
  -- at a point's own delay its allow is permitted, on both lines that meet there
  pub at_point : (i e : ℕ) → i < length c → (get_or c i no_point).delay ≡ e
      → IsWhole (get_or c i no_point).allow (permitted c e)
  pub line_after : (i e : ℕ) → suc i < length c → (get_or c i no_point).delay ≡ e
      → IsWhole (get_or c i no_point).allow (on_line (get_or c i no_point) (get_or c (suc i) no_point) e)
  -- its last delay is that of its last point
  pub last : (i : ℕ) → length c ≡ suc i → last_delay c ≡ (get_or c i no_point).delay
  -- it never rises
  pub never_rises : (e f : ℕ) → e ≤ f → AtMost (permitted c f) (permitted c e)

-- the margin of responses w and e
pub record Margined (c : List Point) (w e : ℕ) : Type 0 where
  -- 0 or more exactly where e is not past the last delay and the jitter is permitted: nothing is lost by rounding
  pub stable_only : le_z (pos 0) (curve_margin c w e) ≡ true
      → (e ≤ last_delay c) × AtMost (whole (w - e)) (permitted c e)
  pub stable_if : e ≤ last_delay c → AtMost (whole (w - e)) (permitted c e)
      → le_z (pos 0) (curve_margin c w e) ≡ true
  -- rounded down: a whole number is at most the margin exactly where it is at most 1,000 × (permitted − jitter)
  pub rounded_down : e ≤ last_delay c → (m : ℤ)
      → le_z m (curve_margin c w e)
      ≡ le_z (m *ℤ pos (permitted c e).under)
      (sub_ℕ (1000 * (permitted c e).over) (1000 * ((w - e) * (permitted c e).under)))
  -- past the last delay, 1,000 for each tick past it, whatever W is
  pub past : last_delay c < e → curve_margin c w e ≡ pos (1000 * last_delay c) -ℤ pos (1000 * e)
  -- with a smaller W and the same E it does not fall
  pub eased : (v : ℕ) → v ≤ w → le_z (curve_margin c w e) (curve_margin c v e) ≡ true
  pub small : w ≤ max_response → e ≤ w → nat_abs (curve_margin c w e) ≤ max_margin
