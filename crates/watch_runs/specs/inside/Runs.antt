-- Promises between functions: a run of some ticks, what it asks of its ranks, and the text that it writes.
use Rattle.std.specs.Prelude.{◌≡◌, List, ℕ, ◌+◌, ◌*◌, ◌≤◌, ◌<◌, length, Result}
use Rattle.text.specs.Buffers.{Wrote}
use Rattle.text.specs.inside.Puts.{put}
use Rattle.rows.specs.Rows.{max_ticks, row_at}
use Rattle.rows.specs.Rows.{Row}
use Rattle.responses.specs.Claims.{NoneHolds}
use Rattle.plans.specs.declared.Refusal.{Refusal}
use Rattle.plans.specs.Outcomes.{fitted, Written}
use Rattle.watch_demands.specs.Runs.{jobs_text}
use Rattle.watch_runs.specs.inside.Owners.{rank_at}
use Rattle.watch_runs.specs.declared.steps.Board.{Board}
use Rattle.watch_runs.specs.inside.States.{Suits, Fits}

-- ---- texts
-- the longest text of a job, and of a run
abbrev pub job_room : ℕ
job_room = 83

abbrev pub run_room : ℕ
run_room = job_room * max_ticks

-- a job's text at an offset, if it fits; and where it ends
pub record PutIf (text : List ℕ) (at : ℕ) (buffer buffer' : List ℕ) (end : ℕ) : Type 0 where
  pub ends : end ≡ at + length text
  pub short : length text ≤ job_room
  pub fits : end ≤ length buffer → buffer' ≡ put at text buffer

-- a text from the start on, if it fits; and its length
pub record WroteIf (text buffer buffer' : List ℕ) (long : ℕ) : Type 0 where
  pub long_is : long ≡ length text
  pub fits : long ≤ length buffer → Wrote text buffer buffer' long

-- ---- runs
-- the ranks are those of an order, none of whose tasks holds the processor, with the owners of the lengths
pub record Describes (order : List Row) (offset : ℕ → ℕ) (x : Board) : Type 0 where
  pub suits : Suits order offset x
  pub task_is : (j : ℕ) → j < length x.ranks.now → (rank_at x.ranks.now j).task ≡ (row_at order j).task
  pub none_holds : NoneHolds order

-- what a run asks of its ranks
pub record Startable (ticks : ℕ) (x : Board) : Type 0 where
  pub soon : ticks ≤ max_ticks
  pub fits : Fits x

-- whatever order the ranks are of, its text is written if it fits
pub record Runs (ticks : ℕ) (x : Board) (buffer buffer' : List ℕ) (long : ℕ) : Type 0 where
  pub long_max : long ≤ job_room * ticks
  pub wrote :
      (order : List Row) (offset : ℕ → ℕ) → Describes order offset x
      → WroteIf (jobs_text order offset x.lengths.now ticks) buffer buffer' long

-- or refused
abbrev pub RunsOrder : ℕ → Board → List ℕ → List ℕ → Result ℕ Refusal → Type 0
RunsOrder ticks x buffer buffer' r =
    (order : List Row) (offset : ℕ → ℕ) → Describes order offset x
    → Written (fitted (length buffer) (jobs_text order offset x.lengths.now ticks)) buffer buffer' r
