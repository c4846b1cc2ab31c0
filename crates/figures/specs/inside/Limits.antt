-- A promise between functions: when a row among numbers has figures.
use Rattle.std.specs.Prelude.{Bool, ◌&&◌, List, ℕ, ◌*◌, leb, ltb, length}
use Rattle.rows.specs.Rows.{max_tasks, in_range, all_rows}
use Rattle.rows.specs.inside.Numbers.{field_count, rows_of}

-- row i is one of n rows, no more than a table can have; the numbers hold them, and each is in range
abbrev pub in_limits : List ℕ → ℕ → ℕ → Bool
in_limits ns n i =
    leb n max_tasks && (ltb i n && (leb (field_count * n) (length ns) && all_rows in_range (rows_of n ns)))
