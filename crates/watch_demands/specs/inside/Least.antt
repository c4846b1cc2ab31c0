-- Promised between functions: the first of the least of some numbers, as the next release of a run is found.
use Rattle.std.specs.Prelude.{ℕ, ◌≤◌, ◌<◌}

pub record LeastIs (n : ℕ) (f : ℕ → ℕ) (r : ℕ) : Type 0 where
  pub within : r < n
  pub least : (j : ℕ) → j < n → f r ≤ f j
  pub first : (j : ℕ) → j < r → f r < f j
