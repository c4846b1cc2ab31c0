-- A promise between functions: the search finds the order chosen by stability, of rows that are lent.
use Rattle.std.specs.Prelude.{◌≡◌, Bool, true, false, List, [], ◌∷◌, ◌++◌, ℕ, zero, suc, ◌-◌, ◌/◌, ◌%◌, ◌^◌, ◌≤◌, ◌<◌, take, Option, Some, None, length, get_or}
use Rattle.std.proofs.Common.{unwrap_or}
use Rattle.std.proofs.Math.Option as Maths
use Rattle.std.proofs.Math.Option.{none, some}
use Rattle.rows.specs.Rows.{max_tasks, in_range, all_rows, tasks_of, distinct_rows}
use Rattle.rows.specs.declared.Order.{Order}
use Rattle.rows.specs.inside.Arrays.{ranking}
use Rattle.rows.specs.inside.Lent.{table_of, lent_row}
use Rattle.rows.specs.Rows.{Row}
use Rattle.responses.specs.declared.Load.{Load}
use Rattle.analysis.specs.inside.Above.{Filled}
use Rattle.orders.specs.Orders.{Chosen}
use Rattle.search.specs.inside.Sets.{members, fits, goes}
use Rattle.orders.specs.Stability.{stable, chosen_order}

-- rows that a table can have
pub record TableRows (table : List Row) : Type 0 where
  pub few : length table ≤ max_tasks
  pub is_in_range : all_rows in_range table ≡ true
  pub distinct : distinct_rows table ≡ true

-- rows that are lent are such a table
pub record Lent (rows : List (List ℕ)) : Type 0 where
  pub table : TableRows (table_of rows)

-- the loads of a table's rows in set m stand at the front, and are counted
pub record Gathered (table : List Row) (m : ℕ) (worst best : List Load) (count : ℕ) : Type 0 where
  pub few : count ≤ length table
  pub counted : length (members m table) ≡ count
  pub filled : Filled (members m table) (take count worst) (take count best)

-- what was said of whether row i passes as the lowest of set m is so, where something was
abbrev pub FitsSaid : List Row → ℕ → ℕ → Option Bool → Type 0
FitsSaid table m i None = Unit {0}
FitsSaid table m i (Some b) = b ≡ fits stable table m i

-- whether row i may go lowest in set m; where it may, whether it does is whether it passes and the rest has an order
pub record MayGo (table : List Row) (m i : ℕ) (r : Option Bool) : Type 0 where
  pub in_set : unwrap_or r true ≡ true → m / 2 ^ i % 2 ≡ 1
  pub passes : unwrap_or r true ≡ true → FitsSaid table m i r
  pub goes_not : unwrap_or r true ≡ false → goes stable table m i ≡ false

-- taking out of set m the row that its byte is, a row in range, out of the rest the row that the
-- rest's byte is, and so on, leaves no row after k steps
abbrev pub Chained : List (List ℕ) → List ℕ → ℕ → ℕ → Type 0
Chained rows sets zero m = m ≡ 0
Chained rows sets (suc k) m =
    let i = get_or sets m 0 in
    (i < max_tasks)
    × (i < length rows)
    × (in_range (lent_row rows i) ≡ true)
    × (m / 2 ^ i % 2 ≡ 1)
    × Chained rows sets k (m - 2 ^ i)

-- the tasks of the rows taken out, the first lowest
abbrev pub chain_tasks : List (List ℕ) → List ℕ → ℕ → ℕ → List ℕ
chain_tasks rows sets zero m = []
chain_tasks rows sets (suc k) m =
    let i = get_or sets m 0 in
    chain_tasks rows sets k (m - 2 ^ i) ++ ((lent_row rows i).task ∷ [])

-- an order's tasks as the code has them, or none
abbrev pub choice_of : Maths.Option (List Row) → Option Order
choice_of none = None
choice_of (some os) = Some (ranking (tasks_of os))

-- the choice is the order chosen, which is as `Chosen` says
pub record Chooses (table : List Row) (r : Option Order) : Type 0 where
  pub choice_is : r ≡ choice_of (chosen_order table)
  pub chosen : Chosen stable table
