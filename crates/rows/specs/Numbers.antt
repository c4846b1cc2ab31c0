-- Rows as numbers, as they are lent to a call: those of a row's lines with room for the most points, then its switch, and
-- row after row.
use Rattle.std.specs.Prelude.{List, [], ◌∷◌, ℕ, zero, suc, ◌*◌, get_or, take, drop}
use Rattle.curves.specs.Curves.{max_points}
use Rattle.rows.specs.Rows.{Row, lines_for, row_of}

-- the most lines of a row; its numbers are those of its lines, with room for so many, and then the switch
abbrev pub line_count : ℕ
line_count = lines_for max_points

abbrev pub switch_at : ℕ
switch_at = line_count

abbrev pub field_count : ℕ
field_count = suc switch_at

-- the numbers of a row's lines, where its numbers begin a list; and the row
abbrev pub lines_from : List ℕ → List ℕ
lines_from ws = take line_count ws

abbrev pub row_from : List ℕ → Row
row_from ws = row_of (get_or ws switch_at 0) (lines_from ws)

-- n rows, from their first number on
abbrev pub rows_of : ℕ → List ℕ → List Row
rows_of zero ws = []
rows_of (suc n) ws = row_from ws ∷ rows_of n (drop field_count ws)

-- row i of the numbers
abbrev pub row_in : List ℕ → ℕ → Row
row_in ns i = row_from (drop (field_count * i) ns)
