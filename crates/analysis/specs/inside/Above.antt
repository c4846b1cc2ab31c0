-- A promise between functions: the loads of some rows, and the figures of a row under them.
use Rattle.std.specs.Prelude.{◌≡◌, Bool, true, false, Option, Some, None, List, ℕ, ◌≤◌, length, map}
use Rattle.rows.specs.Rows.{max_ticks, cost, times_in_range, in_range, all_rows}
use Rattle.rows.specs.Rows.{Row}
use Rattle.fixed_points.specs.inside.Loads.{loads_max}
use Rattle.busy_intervals.specs.declared.Times.{Times}
use Rattle.responses.specs.declared.Load.{Load}
use Rattle.responses.specs.Figures.{Answered, worst_load, best_load, blocking, is_stable, figures_under}

-- the loads of some rows, one for each
pub record Filled (rows : List Row) (worst best : List Load) : Type 0 where
  pub worst_is : worst ≡ map worst_load rows
  pub best_is : best ≡ map best_load rows

-- some rows have loads, and there is a place for each
pub record Fillable (rows : List Row) (worst best : ℕ) : Type 0 where
  pub worst_held : worst ≡ length rows
  pub best_held : best ≡ length rows
  pub times_are_in_range : all_rows times_in_range rows ≡ true

-- a row in range, the loads of rows above it whose times are in range, and the blocking time of the rows below it
pub record Under (t : Row) (blocked : ℕ) (worst best : List Load) : Type 0 where
  pub is_in_range : in_range t ≡ true
  pub rows : List Row
  pub few : length rows ≤ loads_max
  pub filled : Filled rows worst best
  pub times_are_in_range : all_rows times_in_range rows ≡ true
  pub below : List Row
  pub blocked_is : blocked ≡ blocking below
  pub blocked_max : blocked ≤ max_ticks

-- a row's numbers as the search of W takes them
pub record TimesAre (t : Row) (blocked : ℕ) (x : Times) : Type 0 where
  pub cost_is : x.cost ≡ cost t
  pub blocked_is : x.blocked ≡ blocked
  pub period_is : x.period ≡ t.period
  pub deadline_is : x.deadline ≡ t.deadline

-- the figures of a row, whatever rows have these loads, and whatever rows below have that blocking time
abbrev pub FiguresIn : Row → ℕ → List Load → List Load → Answered → Type 0
FiguresIn t blocked worst best x =
    (rows below : List Row) → Filled rows worst best → blocked ≡ blocking below → x ≡ figures_under t rows below

-- and whether it is stable
abbrev pub StableIn : Row → ℕ → List Load → List Load → Bool → Type 0
StableIn t blocked worst best b =
    (rows below : List Row) → Filled rows worst best → blocked ≡ blocking below → b ≡ is_stable t rows below

-- what was said of that is so, where something was
abbrev pub StableSaid : Row → ℕ → List Load → List Load → Option Bool → Type 0
StableSaid t blocked worst best None = Unit {0}
StableSaid t blocked worst best (Some b) = StableIn t blocked worst best b

-- something was, where all jobs were to be searched
abbrev pub Decided : Bool → Option Bool → Type 0
Decided all None = all ≡ false
Decided all (Some b) = Unit {0}
