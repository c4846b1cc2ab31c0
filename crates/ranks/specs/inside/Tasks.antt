-- Promises between functions: room for a text's numbers, and a table's rows in an order of their tasks.
use Rattle.std.specs.Prelude.{◌≡◌, true, List, ◌⊎◌, ℕ, ◌≤◌, length}
use Rattle.rows.specs.Rows.{Row, max_tasks, in_range, all_rows, all_tasks}
use Rattle.rows.specs.inside.Arrays.{ranked}
use Rattle.rows.specs.declared.Order.{Order}
use Rattle.readers.specs.inside.Numbers.{most_numbers, bytes_for}

-- so many numbers are enough for a text's, and no more than are ever asked for
abbrev pub RoomFor : List ℕ → ℕ → Type 0
RoomFor text n = (n ≤ most_numbers) × ((most_numbers ≤ n) ⊎ (length text ≤ bytes_for n))

-- rows of a table, and an order of as many tasks, each of one of them
pub record Tasked (table : List Row) (order : Order) : Type 0 where
  pub few : length table ≤ max_tasks
  pub is_in_range : all_rows in_range table ≡ true
  pub as_many : order.count ≡ length table
  pub there : all_tasks (ranked order) table ≡ true
