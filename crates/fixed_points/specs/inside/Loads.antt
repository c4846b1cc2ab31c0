-- A promise between functions: tasks whose interference fits.
use Rattle.std.specs.Prelude.{List, ℕ, ◌≤◌, ◌<◌, length, get_or}
use Rattle.rows.specs.Rows.{max_ticks}
use Rattle.responses.specs.declared.Load.{Load}
use Rattle.responses.specs.Interference.{load}

-- the most tasks: with them no sum overflows
abbrev pub loads_max : ℕ
loads_max = 64

-- the largest base of a fixed point: likewise
abbrev pub base_max : ℕ
base_max = 1000000000000

-- no task
abbrev pub no_load : Load
no_load = load 0 0

-- some tasks, each with its cost within its period
pub record Loads (ls : List Load) : Type 0 where
  pub few : length ls ≤ loads_max
  pub period_some : (i : ℕ) → i < length ls → 1 ≤ (get_or ls i no_load).period
  pub period_max : (i : ℕ) → i < length ls → (get_or ls i no_load).period ≤ max_ticks
  pub cost_period : (i : ℕ) → i < length ls → (get_or ls i no_load).cost ≤ (get_or ls i no_load).period
