-- A promise between functions: rows and tasks by value, lists at the front of arrays that have room for a table's rows.
use Rattle.std.specs.Prelude.{List, ◌++◌, ℕ, ◌-◌, length, take, replicate}
use Rattle.rows.specs.declared.Order.{Order}
use Rattle.rows.specs.Rows.{max_tasks}

-- a list at the front of an array, and nothing past it
abbrev pub padded : {A : Type 0} → A → List A → List A
padded nothing xs = xs ++ replicate (max_tasks - length xs) nothing

-- the order that ranks some tasks
abbrev pub ranking : List ℕ → Order
ranking tasks = record { tasks = padded 0 tasks; count = length tasks }

-- the tasks that an order ranks: those that it counts
abbrev pub ranked : Order → List ℕ
ranked order = take order.count order.tasks
