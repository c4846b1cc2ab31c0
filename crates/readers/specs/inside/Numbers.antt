-- Promised between functions: a table as its numbers. Those of the head's lines come first, then those of each row, its
-- lines' with room for the most points and the switch, then the ranks.
use Rattle.std.specs.Prelude.{List, ◌⊎◌, ℕ, ◌+◌, ◌*◌, ◌/◌, ◌≤◌, length, get_or, drop}
use Rattle.curves.specs.Curves.{min_points}
use Rattle.rows.specs.Rows.{Row, max_tasks, lines_for}
use Rattle.rows.specs.inside.Numbers.{field_count, rows_of, between}

-- the lines of the head: the board's, the tasks' and the switch's
abbrev pub head_count : ℕ
head_count = 3

-- the numbers of the longest table with its ranks
abbrev pub most_numbers : ℕ
most_numbers = head_count + field_count * max_tasks + max_tasks

-- the fewest bytes of a line: the shortest key with its equals sign, a digit and a line feed
abbrev pub line_bytes : ℕ
line_bytes = 7

-- a row has at least so many: the lines of no points, though it has room for the numbers of the most
abbrev pub row_bytes : ℕ
row_bytes = line_bytes * lines_for min_points

-- the bytes of a text for which so many numbers are enough
abbrev pub bytes_for : ℕ → ℕ
bytes_for n = row_bytes * n / field_count

-- there is room for a text's numbers: for as many as any table has, or for as many as the text can have
abbrev pub Room : List ℕ → List ℕ → Type 0
Room text ns = (most_numbers ≤ length ns) ⊎ (length text ≤ bytes_for (length ns))

-- where row n begins, counted from 0
abbrev pub row_start : ℕ → ℕ
row_start n = head_count + field_count * n

abbrev pub board_in : List ℕ → ℕ
board_in ws = get_or ws 0 0

-- where the switch stands
abbrev pub head_switch_at : ℕ
head_switch_at = 2

abbrev pub switch_in : List ℕ → ℕ
switch_in ws = get_or ws head_switch_at 0

-- the first n rows
abbrev pub rows_in : ℕ → List ℕ → List Row
rows_in n ws = rows_of n (drop head_count ws)

-- the first numbers behind n rows: those of the next row, or the ranks
abbrev pub behind : ℕ → ℕ → List ℕ → List ℕ
behind n m ws = between (row_start n) m ws
