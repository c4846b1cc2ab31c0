-- The order that the rank lines of a sound table give: its rows are the table's, each once, in range, and where none of
-- the table's tasks holds the processor none of its does.
use mathlib.Core.Path.{◌≡◌, refl, sym, ap, ◌∙◌}
use mathlib.Core.Bool.{Bool, true}
use mathlib.Core.List.{List, [], ◌∷◌}
use Prim.Native.Nat.{ℕ, suc, ◌<◌}
use native.Mathlib.Omega.{arith}
use lib.Dec.{leb}
use lib.ListN.{length}
use borrow.Author.Tests.{leb-true, le-leb}
use Rattle.basics.proofs.Tests.{and_both}
use Rattle.rows.specs.Rows.{in_range, all_rows, row_at, rows_for, tasks_of}
use Rattle.rows.specs.Rows.{Row}
use Rattle.rows.proofs.Limits.{Limits, limits, at_passes}
use Rattle.tables.specs.TableLines.{TableRead}
use Rattle.tables.specs.Claims.{Accepted}
use Rattle.responses.specs.Claims.{NoneHolds}
use Rattle.orders.specs.Orders.{Possible}
use Rattle.orders.proofs.Possible.{possible_length, possible_passes}
use Rattle.orders.proofs.Tasks.{possible_tasks, rows_for_lem}
use Rattle.demands.specs.Demands.{Given}
use Rattle.watch_demands.proofs.Unheld.{NoHolds}

every_passes : (f : Row → Bool) (rs : List Row) → ((i : ℕ) → i < length rs → f (row_at rs i) ≡ true)
    → all_rows f rs ≡ true
every_passes f [] h = refl
every_passes f (r ∷ rs) h =
    and_both (f r) (all_rows f rs) (h 0 (omega arith)) (every_passes f rs (λ i l. h (suc i) (omega arith)))

module _ (a : TableRead) (sound : Accepted true a) where
  abbrev order : List Row
  order = rows_for a.order a.rows

  is_possible_order : Possible order a.rows × (tasks_of order ≡ a.order)
  is_possible_order = possible_tasks a.order a.rows (sound.ranks_possible refl)

  pub is_given : Given a.rows a.order order
  is_given = record { possible = is_possible_order.0; tasks_are = is_possible_order.1 }

  -- no other order is given
  pub given_only : (os : List Row) → Given a.rows a.order os → order ≡ os
  given_only os g =
      ap (λ (ts : List ℕ). rows_for ts a.rows) (sym g.tasks_are) ∙ rows_for_lem sound.rows_distinct g.possible

  pub order_long : length order ≡ length a.rows
  order_long = possible_length is_possible_order.0

  pub order_in_range : all_rows in_range order ≡ true
  order_in_range = possible_passes in_range is_possible_order.0 sound.rows_in_range

  pub order_limits : (i : ℕ) → i < length order → Limits (row_at order i)
  order_limits i l = limits (row_at order i) (at_passes in_range order i order_in_range l)

  pub order_unheld : NoHolds a.rows → NoneHolds order
  order_unheld none i l =
      let short : Row → Bool = λ r. leb r.hold 1 in
      let all = every_passes short a.rows (λ j h. le-leb (row_at a.rows j).hold 1 (omega (arith, none j h))) in
      leb-true (row_at order i).hold 1 (at_passes short order i (possible_passes short is_possible_order.0 all) l)
