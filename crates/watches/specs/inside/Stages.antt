-- Promised between functions: what is known at each stage of a text to watch, of the table's numbers, of the ranks of its
-- order, and that the text reads as from here on.
use Rattle.std.specs.Prelude.{◌≡◌, true, List, [], ℕ, ◌+◌, ◌≤◌, ◌<◌, length, Result}
use Rattle.grammars.specs.Grammars.{read, read_from}
use Rattle.grammars.specs.Sequences.{second}
use Rattle.rows.specs.Rows.{max_tasks, max_ticks, rows_for, row_at}
use Rattle.rows.specs.Rows.{Row}
use Rattle.rows.specs.inside.LentOrders.{rows_in_order}
use Rattle.tables.specs.TableLines.{at-end, read_table}
use Rattle.rows.specs.inside.Numbers.{TaskNumbers}
use Rattle.readers.specs.inside.Numbers.{row_start}
use Rattle.readers.specs.inside.Numbers as TableNumbers
use Rattle.readers.specs.inside.Readings.{Held}
use Rattle.watch_demands.specs.WatchLines.{max_release, max_lengths, RunStage, at_ticks, releases_stage}
use Rattle.watch_demands.specs.WatchLines.{lengths_stage, offset_of, WatchStage, watch_text, watch_start}
use Rattle.plans.specs.declared.Refusal.{Refusal}
use Rattle.plans.specs.Outcomes.{Written}
use Rattle.watch_demands.specs.Calls.{run_in_time}
use Rattle.watch_runs.specs.inside.Owners.{rank_at, Owned}
use Rattle.watches.specs.declared.ranking.Ranking.{Ranking}
use Rattle.watches.specs.inside.Lines.{range_at}
use Rattle.watches.specs.inside.Rankings.{RankIs}

-- ---- the table: the reviewer reads it from a text, and none of its tasks holds
module _ (front : List ℕ) where
  abbrev pub rows_of : List Row
  rows_of = (read_table true front).rows

  abbrev pub tasks_of : List ℕ
  tasks_of = (read_table true front).order

  abbrev pub order_of : List Row
  order_of = rows_for tasks_of rows_of

  -- a stage of the run behind it
  abbrev pub behind : RunStage → WatchStage
  behind s = second (at-end (read_table true front).board rows_of tasks_of) s

  pub record Unheld : Type 0 where
    pub ok : (read_table true front).refused ≡ 0
    pub none_holds : (i : ℕ) → i < length rows_of → (row_at rows_of i).hold ≡ 0

-- the text reads as from line k at an offset on
abbrev pub Resumes : List ℕ → WatchStage → ℕ → ℕ → Type 0
Resumes text s at k = read watch_text watch_start text ≡ read_from watch_text text s at k

-- ---- behind the table, whose n rows stand among its numbers
pub record AtReleases (text : List ℕ) (at k : ℕ) (ns : List ℕ) (n : ℕ) : Type 0 where
  pub front : List ℕ
  pub table : Unheld front
  pub held : Held true front ns n
  pub few : n ≤ max_tasks
  pub ranks_held : row_start n + n ≤ length ns
  pub ranks_small : TaskNumbers (TableNumbers.behind n n ns)
  pub resumes : Resumes text (behind front (releases_stage (length (rows_of front)) [])) at k
  pub soon : k ≤ 1000

-- ---- the order of a table, with the first releases of its rows, and those of its ranks
pub record LaidBy (front releases : List ℕ) (x : Ranking) : Type 0 where
  pub table : Unheld front
  pub few : length (order_of front) ≤ max_tasks
  pub order_is : rows_in_order x.order.lent ≡ order_of front
  pub ranks_many : length x.ranks.now ≡ length (order_of front)
  pub ranges_many : length x.ranges.now ≡ length (order_of front)
  pub rank_is :
      (j : ℕ) → j < length (order_of front)
      → RankIs (row_at (order_of front) j) (offset_of (rows_of front) (tasks_of front) releases j)
      (rank_at x.ranks.now j) (range_at x.ranges.now j)
  pub offset_max : (j : ℕ) → j < length (order_of front) → (rank_at x.ranks.now j).offset ≤ max_release

pub record Laid (x : Ranking) : Type 0 where
  pub front : List ℕ
  pub releases : List ℕ
  pub laid : LaidBy front releases x

-- ---- the stages of the run
pub record AtTicks (text : List ℕ) (at k : ℕ) (x : Ranking) : Type 0 where
  pub front : List ℕ
  pub releases : List ℕ
  pub laid : LaidBy front releases x
  pub resumes : Resumes text (behind front (at_ticks releases)) at k
  pub soon : k ≤ 2000

-- so many lengths follow
pub record AtLengths (text : List ℕ) (at k : ℕ) (x : Ranking) (ticks count : ℕ) : Type 0 where
  pub front : List ℕ
  pub releases : List ℕ
  pub laid : LaidBy front releases x
  pub resumes : Resumes text (behind front (lengths_stage count releases ticks [])) at k
  pub soon : k ≤ 3000
  pub few_ticks : ticks ≤ max_ticks
  pub few : count ≤ max_lengths

-- ---- the run of whatever order it is
abbrev pub RunsLaid : Ranking → (ticks : ℕ) (owners lengths buffer buffer' : List ℕ) → Result ℕ Refusal → Type 0
RunsLaid x ticks owners lengths buffer buffer' r =
    (front releases : List ℕ) → LaidBy front releases x
    → let offset = offset_of (rows_of front) (tasks_of front) releases in
    Owned (order_of front) offset owners → length owners ≡ length lengths
    → Written (run_in_time (length buffer) (order_of front) offset lengths ticks) buffer buffer' r
