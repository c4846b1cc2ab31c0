-- A promise between functions: w(q) of a task by its numbers, and the limits that these keep.
use Rattle.std.specs.Prelude.{◌≡◌, List, ℕ, suc, ◌+◌, ◌*◌, ◌≤◌, ◌<◌, leb}
use Rattle.basics.specs.Basics.{pick}
use Rattle.rows.specs.Rows.{max_ticks}
use Rattle.responses.specs.declared.Load.{Load}
use Rattle.responses.specs.Interference.{interference, least_fixed}

-- w(q)
abbrev pub finishes : ℕ → ℕ → List Load → ℕ → ℕ
finishes cost blocked ls q = least_fixed (suc q * cost + blocked) max_ticks ls

-- up to where a job is searched that is late past a tick
abbrev pub limit_for : ℕ → ℕ
limit_for due = pick (leb due max_ticks) due max_ticks

pub record InLimits (cost blocked period deadline : ℕ) : Type 0 where
  pub cost_some : 1 ≤ cost
  pub cost_period : cost ≤ period
  pub period_max : period ≤ max_ticks
  pub blocked_max : blocked ≤ max_ticks
  pub deadline_max : deadline ≤ max_ticks

-- after a job that is done at `finish`, with the next released at `next`, k jobs follow without a pause: no task above
-- is released meanwhile, and the interval goes on
pub record Stretch (cost period : ℕ) (ls : List Load) (finish next k : ℕ) : Type 0 where
  pub fits : finish + k * cost ≤ max_ticks
  pub same : (y : ℕ) → finish ≤ y → y ≤ finish + k * cost → interference 0 y ls ≡ interference 0 finish ls
  pub goes_on : (j : ℕ) → j < k → next + j * period < finish + j * cost
