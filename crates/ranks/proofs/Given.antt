-- The reviewer: the tasks of the rank lines stand behind the rows, and their rows are the order given.
use mathlib.Core.Path.{◌≡◌, refl, sym, ap, ap₂, subst, ◌∙◌}
use mathlib.Core.Bool.{true, ◌&&◌}
use mathlib.Core.List.{List}
use Prim.Native.Nat.{ℕ}
use lib.Dec.{eqb}
use lib.ListN.{length}
use Rattle.basics.specs.Basics.{distinct}
use Rattle.basics.proofs.Tests.{and_right}
use Rattle.rows.specs.Rows.{Row, all_tasks, rows_for}
use Rattle.rows.specs.inside.Arrays.{ranking, ranked}
use Rattle.rows.specs.inside.Numbers.{TaskNumbers}
use Rattle.rows.specs.inside.Lent.{table_of}
use Rattle.rows.specs.declared.Order.{Order}
use Rattle.rows.proofs.Tasks.{all_small}
use Rattle.rows.proofs.Arrays.{ranked_are}
use Rattle.tables.specs.TableLines.{TableRead, read_table}
use Rattle.tables.specs.Claims.{Accepted}
use Rattle.readers.specs.inside.Numbers.{board_in, rows_in, behind}
use Rattle.readers.specs.inside.Readings.{Held}
use Rattle.readers.proofs.Tables.{ranks_counted}
use Rattle.tables.proofs.Readings.{read}
use Rattle.plans.specs.Outcomes.{if_in_time}
use Rattle.demands.specs.Calls.{given_order, reviewed}
use Rattle.demands.proofs.Outcomes.{on_accepted}
use Rattle.ranks.proofs.Readings.{rows_are}

module _ {text ns : List ℕ} {n : ℕ} (t : Held true text ns n) where
  abbrev answer : TableRead
  answer = read_table true text

  sound : Accepted true answer
  sound = (read true text).sound t.ok

  -- as many ranks as rows
  many : length answer.order ≡ n
  many = ranks_counted true answer sound ∙ sym t.count_is

  ranks_are : behind n n ns ≡ answer.order
  ranks_are = ap (λ (k : ℕ). behind n k ns) (sym many) ∙ t.order_is

  all_there : all_tasks answer.order answer.rows ≡ true
  all_there =
      let counts = eqb (length answer.order) (length answer.rows) && distinct answer.order in
      and_right counts (all_tasks answer.order answer.rows) (sound.ranks_possible refl)

  pub ranks_small : TaskNumbers (behind n n ns)
  ranks_small =
      subst TaskNumbers (sym ranks_are) (all_small answer.order answer.rows all_there sound.rows_in_range)

  module _ (rows : List (List ℕ)) (lends : table_of rows ≡ rows_in n ns) {order : Order}
      (is : order ≡ ranking (behind n n ns)) where
    order_is : order ≡ ranking answer.order
    order_is = is ∙ ap ranking ranks_are

    tasks_are : ranked order ≡ answer.order
    tasks_are = ap ranked order_is ∙ ranked_are answer.order

    pub given_plan : (room : ℕ)
        → if_in_time room (board_in ns) (rows_for (ranked order) (table_of rows)) ≡ reviewed text room
    given_plan room =
        ap₂ (λ (b : ℕ) (os : List Row). if_in_time room b os) t.board_is (ap₂ rows_for tasks_are (rows_are t rows lends))
        ∙ sym (on_accepted answer (if_in_time room answer.board (given_order text)) t.ok)
