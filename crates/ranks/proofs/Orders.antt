-- What the calls plan: rows in an order of their tasks, at the positions of these tasks.
use mathlib.Core.Path.{◌≡◌, refl, sym, ap, ap₂, subst, ◌∙◌}
use mathlib.Core.Bool.{true}
use mathlib.Core.List.{List, [], ◌∷◌, ◌++◌, append-nil}
use Prim.Native.Nat.{ℕ, suc, ◌≤◌}
use native.Mathlib.Omega.{arith}
use lib.ListN.{length, drop, length-map, length-take, drop_of_length-le}
use Rattle.rows.specs.Rows.{max_tasks, in_range, all_rows, rows_for}
use Rattle.rows.specs.declared.Order.{Order}
use Rattle.rows.specs.inside.Arrays.{ranked}
use Rattle.rows.specs.inside.Numbers.{row_from, rows_at, positions_for, Below}
use Rattle.rows.specs.inside.Lent.{table_of, lent_row, lent_rows}
use Rattle.rows.proofs.LentRows.{table_at}
use Rattle.rows.proofs.Tasks.{positions_below, positions_length, positions_rows, at_all_pass}
use Rattle.ranks.specs.inside.Tasks.{Tasked}

-- rows at positions are those of the table
pub at_positions : (rows : List (List ℕ)) (ps : List ℕ) → Below (length rows) ps
    → lent_rows rows ps ≡ rows_at (table_of rows) ps
at_positions rows [] h = refl
at_positions rows (p ∷ ps) h =
    ap₂ ◌∷◌ (sym (table_at rows p (h 0 (omega arith)))) (at_positions rows ps (λ k l. h (suc k) (omega arith)))

module _ (rows : List (List ℕ)) {order : Order} (t : Tasked (table_of rows) order) (ps : List ℕ) {qs : List ℕ}
    (room : length ps ≤ length (ranked order))
    (is : qs ≡ positions_for (ranked order) (table_of rows) ++ drop (length (ranked order)) ps) where
  placed : qs ≡ positions_for (ranked order) (table_of rows)
  placed =
      let found = positions_for (ranked order) (table_of rows) in
      is
      ∙ ap (λ l. found ++ l) (drop_of_length-le ps {i = length (ranked order)} (omega (arith, room)))
      ∙ append-nil found

  below : Below (length (table_of rows)) qs
  below = subst (Below (length (table_of rows))) (sym placed) (positions_below (ranked order) (table_of rows) t.there)

  pub held : Below (length rows) qs
  held k l = omega (arith, below k l, length-map rows row_from)

  -- the rows at the positions are those of the tasks
  pub planned_rows : lent_rows rows qs ≡ rows_for (ranked order) (table_of rows)
  planned_rows =
      at_positions rows qs held
      ∙ ap (rows_at (table_of rows)) placed
      ∙ positions_rows (ranked order) (table_of rows)

  pub few_planned : length (lent_rows rows qs) ≤ max_tasks
  few_planned =
      omega (
        arith,
        length-map qs (lent_row rows),
        t.few,
        t.as_many,
        length-take order.count order.tasks,
        positions_length (ranked order) (table_of rows),
        ap length placed,
      )

  pub planned_in_range : all_rows in_range (lent_rows rows qs) ≡ true
  planned_in_range =
      ap (all_rows in_range) (at_positions rows qs held) ∙ at_all_pass in_range (table_of rows) qs below t.is_in_range
