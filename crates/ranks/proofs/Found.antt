-- The planner: where the search found no order of a text's rows there is none; else the rows of its tasks are the
-- order's, and none of them is late.
use Rattle.std.proofs.Common.{◌≡◌, List, ℕ, false, Option, Some, None, Ok, Err, length, refl, sym, ap, ap₂, ◌∙◌, arith}
use Rattle.std.specs.Option.{ok_or}
use mathlib.Core.Option as Maths
use mathlib.Core.Option.{none, some}
use Rattle.rows.specs.Rows.{Row, in_range, all_rows, all_tasks, tasks_of, rows_for}
use Rattle.rows.specs.inside.Arrays.{ranking, ranked}
use Rattle.rows.specs.inside.Lent.{table_of}
use Rattle.rows.specs.declared.Order.{Order}
use Rattle.rows.proofs.Tasks.{tasks_length}
use Rattle.rows.proofs.Arrays.{ranked_are}
use Rattle.tables.specs.TableLines.{TableRead, read_table}
use Rattle.readers.specs.inside.Numbers.{board_in, rows_in}
use Rattle.readers.specs.inside.Readings.{Held}
use Rattle.orders.specs.Stability.{chosen_order}
use Rattle.orders.specs.Orders.{Possible}
use Rattle.orders.proofs.Possible.{possible_length}
use Rattle.orders.proofs.Tasks.{rows_for_lem, possible_all}
use Rattle.search.specs.inside.Search.{choice_of, Chooses}
use Rattle.plans.specs.declared.Refusal.{Refusal}
use Rattle.plans.specs.declared.Refusal.TheVariants.{NoOrder}
use Rattle.plans.specs.Outcomes.{refuses, if_in_time, Written}
use Rattle.plans.proofs.Outcomes.{timely_outcome, refused}
use Rattle.demands.specs.Calls.{if_ordered, planned}
use Rattle.demands.proofs.Outcomes.{on_accepted}
use Rattle.demands.proofs.Planner as Planner
use Rattle.demands.proofs.Reviewer.{none_late_first}
use Rattle.ranks.specs.inside.Tasks.{Tasked}
use Rattle.ranks.proofs.Readings.{rows_are}

-- ---- what a choice says of the order chosen
none_chosen : (o : Maths.Option (List Row)) → None ≡ choice_of o → o ≡ none
none_chosen none e = refl
none_chosen (some os) e = absurd cc

some_chosen : (o : Maths.Option (List Row)) (order : Order) → Some order ≡ choice_of o
    → (os : List Row) × ((o ≡ some os) × (order ≡ ranking (tasks_of os)))
some_chosen none order e = absurd cc
some_chosen (some os) order e = (os, (refl, cc))

-- a search's answer by the result that it is turned into
none_found : (o : Option Order) {e d : Refusal} → Err e ≡ ok_or o d → (o ≡ None) × (e ≡ d)
none_found None is = (refl, cc)
none_found (Some order) is = absurd cc

some_found : (o : Option Order) (d : Refusal) {order : Order} → Ok order ≡ ok_or o d → o ≡ Some order
some_found None d is = absurd cc
some_found (Some order) d is = cc

module _ {text ns : List ℕ} {n : ℕ} (t : Held false text ns n) (rows : List (List ℕ))
    (lends : table_of rows ≡ rows_in n ns) {o : Option Order} (found : Chooses (table_of rows) o) where
  abbrev answer : TableRead
  answer = read_table false text

  -- no order is found
  unordered_plan : o ≡ None → (room : ℕ) → planned text room ≡ refuses 8 0
  unfolding if_ordered
  unordered_plan is room =
      on_accepted answer (if_ordered room answer.board (chosen_order answer.rows)) t.ok
      ∙ ap (if_ordered room answer.board)
      (none_chosen (chosen_order answer.rows)
      (sym is ∙ found.choice_is ∙ ap (λ l. choice_of (chosen_order l)) (rows_are t rows lends)))

  pub unordered : {e : Refusal} → Err e ≡ ok_or o NoOrder → (room : ℕ) {buffer : List ℕ}
      → Written (planned text room) buffer buffer (Err e)
  unordered is room =
      let none = none_found o is in
      rw none.1 (refused (unordered_plan none.0 room) (refl, refl))

  -- an order is found
  module _ {order : Order} (is : Ok order ≡ ok_or o NoOrder) where
    abbrev some_order : (os : List Row) × ((chosen_order answer.rows ≡ some os) × (order ≡ ranking (tasks_of os)))
    some_order =
        some_chosen (chosen_order answer.rows) order
        (sym (some_found o NoOrder is) ∙ found.choice_is ∙ ap (λ l. choice_of (chosen_order l)) (rows_are t rows lends))

    abbrev its_rows : List Row
    its_rows = some_order.0

    possible : Possible its_rows answer.rows
    possible = (Planner.choice text t.ok).is_possible_order its_rows some_order.1.0

    tasks_are : ranked order ≡ tasks_of its_rows
    tasks_are = ap ranked some_order.1.1 ∙ ranked_are (tasks_of its_rows)

    pub found_tasked : Tasked (table_of rows) order
    found_tasked =
        let same = rows_are t rows lends in
        let sound = Planner.sound text t.ok in
        record {
          few = omega (arith, ap length same, sound.few_rows);
          is_in_range = ap (all_rows in_range) same ∙ sound.rows_in_range;
          as_many =
              ap (λ (o : Order). o.count) some_order.1.1 ∙ tasks_length its_rows ∙ possible_length possible
              ∙ sym (ap length same);
          there = ap₂ all_tasks tasks_are same ∙ possible_all possible;
        }

    pub ordered_plan : (room : ℕ)
        → if_in_time room (board_in ns) (rows_for (ranked order) (table_of rows)) ≡ planned text room
    unfolding if_ordered
    ordered_plan room =
        let distinct = (Planner.sound text t.ok).rows_distinct in
        let rows_are' = ap₂ rows_for tasks_are (rows_are t rows lends) ∙ rows_for_lem distinct possible in
        let none_late = none_late_first its_rows (Planner.in_time text t.ok its_rows some_order.1.0) in
        ap₂ (λ (b : ℕ) (os : List Row). if_in_time room b os) t.board_is rows_are'
        ∙ timely_outcome room answer.board its_rows none_late
        ∙ sym (on_accepted answer (if_ordered room answer.board (chosen_order answer.rows)) t.ok
        ∙ ap (if_ordered room answer.board) some_order.1.0)
