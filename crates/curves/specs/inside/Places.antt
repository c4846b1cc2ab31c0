-- A promise between functions: where among the points of a curve, as they are lent, a response lies.
use Rattle.std.specs.Prelude.{List, [], ℕ, ◌≤◌, ◌<◌, length, get_or}
use Rattle.curves.specs.Curves.{Point, point_from}

-- point i
abbrev pub lent_point : List (List ℕ) → ℕ → Point
lent_point points i = point_from (get_or points i [])

-- e is past the delays of the first n points
abbrev pub Passed : ℕ → List (List ℕ) → ℕ → Type 0
Passed n points e = (k : ℕ) → k < n → (lent_point points k).delay < e

-- r is the index of the first point whose delay e is not past
pub record Reached (points : List (List ℕ)) (e r : ℕ) : Type 0 where
  pub held : r < length points
  pub passed : Passed r points e
  pub reached : e ≤ (lent_point points r).delay
