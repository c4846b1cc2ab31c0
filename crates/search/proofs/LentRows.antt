-- Rows that are lent: a set that the search is at is a set of the table, which has fewer rows than a byte has values, and
-- each row is in range.
use mathlib.Core.Path.{◌≡◌, sym, ap, ◌∙◌, subst}
use mathlib.Core.Bool.{true}
use mathlib.Core.List.{List}
use Prim.Native.Nat.{ℕ, ◌^◌, ◌≤◌, ◌<◌}
use native.Mathlib.Omega.{arith}
use lib.ListN.{length}
use lib.Pow.{pow_mono}
use Rattle.rows.specs.Rows.{max_buffer, max_tasks, in_range, times_in_range}
use Rattle.rows.specs.inside.Numbers.{row_from}
use Rattle.rows.specs.inside.Lent.{table_of, lent_row}
use Rattle.rows.proofs.Limits.{in_range_times, at_passes}
use Rattle.rows.proofs.LentRows.{table_at}
use Rattle.analysis.proofs.Found.{map_long}
use Rattle.orders.specs.Stability.{stable}
use Rattle.search.specs.inside.Sets.{unknown, Recorded}
use Rattle.search.specs.inside.Search.{Lent}
use Rattle.search.proofs.Props.{recorded_so}

module _ {rows : List (List ℕ)} (l : Lent rows) where
  pub small : length (table_of rows) < unknown
  small = omega (arith, l.table.few)

  pub a_set : (m : ℕ) → m < 2 ^ length rows → m < 2 ^ length (table_of rows)
  a_set m h = subst (λ (k : ℕ). m < 2 ^ k) (sym (map_long row_from rows)) h

  pub a_row : (i : ℕ) → i < length rows → i < length (table_of rows)
  a_row i h = omega (arith, map_long row_from rows)

  pub few_rows : length rows ≤ max_tasks
  few_rows = omega (arith, map_long row_from rows, l.table.few)

  pub ranged : (i : ℕ) → i < length rows → in_range (lent_row rows i) ≡ true
  ranged i h = ap in_range (sym (table_at rows i h)) ∙ at_passes in_range (table_of rows) i l.table.is_in_range (a_row i h)

  pub times_ranged : (i : ℕ) → i < length rows → times_in_range (lent_row rows i) ≡ true
  times_ranged i h = in_range_times (lent_row rows i) (ranged i h)

  -- what a search keeps of its record is the fact itself
  pub recorded_of : {sets : List ℕ} → ∥ Recorded stable (table_of rows) sets ∥₁ → Recorded stable (table_of rows) sets
  recorded_of {sets} r = recorded_so stable (table_of rows) small sets r

-- a record of the sets of k rows has room for those of no more rows
pub sets_held : {n k : ℕ} → n ≤ k → k ≤ max_tasks → (2 ^ n ≤ 2 ^ k) × (2 ^ k ≤ max_buffer)
sets_held few most = (pow_mono few, pow_mono most)
