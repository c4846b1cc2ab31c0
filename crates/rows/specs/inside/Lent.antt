-- A promise between functions: rows as they are lent, a list of numbers for each.
use Rattle.std.specs.Prelude.{List, [], map, ℕ, get_or}
use Rattle.rows.specs.Rows.{Row}
use Rattle.rows.specs.Numbers.{row_from}

-- the rows
abbrev pub table_of : List (List ℕ) → List Row
table_of rows = map row_from rows

-- row i of them
abbrev pub lent_row : List (List ℕ) → ℕ → Row
lent_row rows i = row_from (get_or rows i [])

-- the rows at some positions
abbrev pub lent_rows : List (List ℕ) → List ℕ → List Row
lent_rows rows positions = map (lent_row rows) positions
