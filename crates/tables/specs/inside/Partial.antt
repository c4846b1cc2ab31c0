-- A row that is being read.
use Rattle.std.specs.Prelude.{List, ℕ, ◌≤◌, ◌<◌, length, get_or}
use Rattle.curves.specs.Curves.{max_points}
use Rattle.rows.specs.Rows.{points_at, lines_for}

-- the numbers of a row's lines so far are not yet all, and its points not too many
pub record Partial (vs : List ℕ) : Type 0 where
  pub few : get_or vs points_at 0 ≤ max_points
  pub more : length vs < lines_for (get_or vs points_at 0)
