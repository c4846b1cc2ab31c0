-- A promise between functions: the numbers of a row, rows at positions, and an order as its task numbers.
use Rattle.std.specs.Prelude.{List, map, ℕ, ◌+◌, ◌*◌, ◌≤◌, ◌<◌, length, get_or, take, drop}
use Rattle.rows.specs.Rows.{Row, max_task, row_at, tasks_of, position_of}
pub use Rattle.rows.specs.Numbers.{line_count, switch_at, field_count, lines_from, row_from, rows_of, row_in}

-- the switch of row i of the numbers, and the number of one of its lines
abbrev pub switch_in : List ℕ → ℕ → ℕ
switch_in ns i = get_or (drop (field_count * i) ns) switch_at 0

abbrev pub line_in : List ℕ → ℕ → ℕ → ℕ
line_in ns i k = get_or (lines_from (drop (field_count * i) ns)) k 0

-- the rows at some positions
abbrev pub rows_in : List ℕ → List ℕ → List Row
rows_in ns positions = map (row_in ns) positions

-- the rows of a table at some positions
abbrev pub rows_at : List Row → List ℕ → List Row
rows_at table positions = map (row_at table) positions

-- where some tasks stand among the rows of a table
abbrev pub positions_for : List ℕ → List Row → List ℕ
positions_for tasks table = map (λ t. position_of t (tasks_of table)) tasks

-- each number is below n, as the positions of n rows are
abbrev pub Below : ℕ → List ℕ → Type 0
Below n ps = (k : ℕ) → k < length ps → get_or ps k 0 < n

-- n numbers from an index on
abbrev pub between : ℕ → ℕ → List ℕ → List ℕ
between start n ws = drop start (take (start + n) ws)

-- each is a task's number
abbrev pub TaskNumbers : List ℕ → Type 0
TaskNumbers os = (i : ℕ) → i < length os → get_or os i 0 ≤ max_task
