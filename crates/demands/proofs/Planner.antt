-- The planner's demands, for every text and every room. A text is refused for its reason; an accepted one has rows in
-- range with distinct tasks, so the order chosen is as the rule says, is stable, and so is kept on every board.
use mathlib.Core.Path.{◌≡◌, refl, sym, ap, subst, ◌∙◌}
use mathlib.Core.Bool.{true, false, not}
use mathlib.Core.List.{List, [], ◌∷◌}
use mathlib.Core.Logic.{inl, inr}
use mathlib.Core.Option.{Option, none, some}
use Prim.Native.Nat.{ℕ, suc, ◌≤◌, ◌<◌}
use native.Mathlib.Omega.{arith}
use lib.IntN.{pos}
use lib.ListN.{length}
use lib.Signed.{le_z}
use borrow.Author.Tests.{not-true}
use Rattle.basics.specs.Basics.{is_in}
use Rattle.basics.proofs.Tests.{and_left, and_right, true_not_false, le-or-lt, in_front}
use Rattle.rows.specs.Rows.{in_range, all_rows, row_at}
use Rattle.rows.specs.Rows.{Row}
use Rattle.tables.specs.TableLines.{TableRead, read_table}
use Rattle.tables.specs.Claims.{Accepted, Tells, table_refusals}
use Rattle.tables.proofs.Readings.{read}
use Rattle.responses.specs.Figures.{rows_above, rows_below, is_late, margin, is_stable}
use Rattle.orders.specs.Orders.{Chosen}
use Rattle.orders.specs.Stability.{stable, chosen_order}
use Rattle.orders.proofs.Choosing.{some_or_none}
use Rattle.orders.proofs.Possible.{possible_length, possible_passes}
use Rattle.orders.proofs.Stability.{stable_at, chosen}
use Rattle.boards.specs.Claims.{NoneLate}
use Rattle.plans.specs.Entries.{entries}
use Rattle.plans.specs.Plans.{plan_text, plan_room}
use Rattle.plans.specs.Outcomes.{Outcome, writes, refuses, fitted}
use Rattle.plans.proofs.Outcomes.{fits, fits_not}
use Rattle.plans.proofs.Lengths.{plan_fits}
use Rattle.demands.specs.Calls.{if_ordered, planned}
use Rattle.demands.specs.Demands.{Promised, entry_at, planner_refusals}
use Rattle.demands.specs.Demands.{EveryOrderFails, ByRule, TablePlan, PlanDemands}
use Rattle.demands.proofs.Outcomes.{same_refusal, not_both, zero_or_more, on_accepted, on_refused}
use Rattle.demands.proofs.Outcomes.{nine_is, written_is}
use Rattle.demands.proofs.Texts.{Accepts, failing, refused_listed, refused_else, telling, tells_only}
use Rattle.demands.proofs.Texts.{refused_exactly}
use Rattle.demands.proofs.Promises.{by_formulas, promised}

module _ (text : List ℕ) where
  abbrev answer : TableRead
  answer = read_table false text

  -- ---- the order of an accepted table
  module _ (ok : Accepts false text) where
    pub sound : Accepted false answer
    sound = (read false text).sound ok

    pub choice : Chosen stable answer.rows
    choice = chosen answer.rows sound.rows_distinct

    module _ (order : List Row) (is : chosen_order answer.rows ≡ some order) where
      pub order_in_range : all_rows in_range order ≡ true
      order_in_range = possible_passes in_range (choice.is_possible_order order is) sound.rows_in_range

      rank_stable : (i : ℕ) → i < length order
          → is_stable (row_at order i) (rows_above order i) (rows_below order i) ≡ true
      rank_stable = stable_at order (choice.is_passing order is)

      pub in_time : NoneLate order
      in_time i h =
          let late = is_late (row_at order i) (rows_above order i) (rows_below order i) in
          let m = margin (row_at order i) (rows_above order i) (rows_below order i) in
          not-true late (and_left (not late) (le_z (pos 0) m) (rank_stable i h))

      order_promised : Promised order
      order_promised = promised order order_in_range in_time

      order_margins : (i : ℕ) → i < length order → le_z (pos 0) (entry_at order i).margin ≡ true
      order_margins i h =
          let late = is_late (row_at order i) (rows_above order i) (rows_below order i) in
          let m = margin (row_at order i) (rows_above order i) (rows_below order i) in
          ap (λ e. le_z (pos 0) e.margin) (order_promised.entry_is i h)
          ∙ and_right (not late) (le_z (pos 0) m) (rank_stable i h)

      -- at most `max_tasks` ranks within the limits
      order_fits : length (plan_text answer.board (entries order)) ≤ plan_room
      order_fits =
          let as_many = possible_length (choice.is_possible_order order is) in
          let fits = plan_fits answer.board order (omega (arith, sound.board_high)) (omega (arith, sound.few_rows))
          order_in_range in_time in
          omega (arith, fits, as_many, sound.few_rows)

  -- ---- how the outcome comes about
  module _ (room : ℕ) where
    -- the plan of an order
    abbrev plan_for : List Row → List ℕ
    plan_for order = plan_text answer.board (entries order)

    data Cases : Type 0 where
      refused : (n : ℕ) → answer.refused ≡ suc n → planned text room ≡ refuses (suc n) answer.line → Cases
      unordered : Accepts false text → chosen_order answer.rows ≡ none → planned text room ≡ refuses 8 0 → Cases
      short : Accepts false text → (order : List Row) → chosen_order answer.rows ≡ some order
          → room < length (plan_for order) → planned text room ≡ refuses 9 0 → Cases
      written : Accepts false text → (order : List Row) → chosen_order answer.rows ≡ some order
          → length (plan_for order) ≤ room → planned text room ≡ writes (plan_for order) → Cases

    accepted : Accepts false text → (o : Option (List Row)) → chosen_order answer.rows ≡ o → Cases
    unfolding if_ordered
    accepted a none o = unordered a o (on_accepted answer _ a ∙ ap (if_ordered room answer.board) o)
    accepted a (some order) o =
        let is : planned text room ≡ fitted room (plan_for order) =
        on_accepted answer _ a ∙ ap (if_ordered room answer.board) o in
        elim (le-or-lt (length (plan_for order)) room) [
          | inl h ↦ written a order o h (is ∙ fits room (plan_for order) h)
          | inr h ↦ short a order o h (is ∙ fits_not room (plan_for order) h)
        ]

    cases : Cases
    cases = elim (zero_or_more answer.refused) [
      | inl e ↦ accepted e (chosen_order answer.rows) refl
      | inr e ↦ refused e.0 e.1 (on_refused answer _ e.0 e.1)
    ]

    listed : Cases → (n p : ℕ) → planned text room ≡ refuses n p → is_in n planner_refusals ≡ true
    listed (refused m r is) n p e =
        subst (λ k. is_in k planner_refusals ≡ true) (same_refusal (sym is ∙ e)).0
        (in_front (suc m) table_refusals (8 ∷ 9 ∷ []) (refused_listed false text m r))
    listed (unordered a o is) n p e = subst (λ k. is_in k planner_refusals ≡ true) (same_refusal (sym is ∙ e)).0 refl
    listed (short a order o h is) n p e = subst (λ k. is_in k planner_refusals ≡ true) (same_refusal (sym is ∙ e)).0 refl
    listed (written a order o h is) n p e = absurd (not_both (sym is ∙ e))

    -- ---- an accepted table's outcome, by the order chosen
    abbrev on_rows : Outcome
    on_rows = if_ordered room answer.board (chosen_order answer.rows)

    unordered_is : chosen_order answer.rows ≡ none → on_rows ≡ refuses 8 0
    unfolding if_ordered
    unordered_is o = ap (if_ordered room answer.board) o

    ordered_is : (order : List Row) → chosen_order answer.rows ≡ some order → on_rows ≡ fitted room (plan_for order)
    unfolding if_ordered
    ordered_is order o = ap (if_ordered room answer.board) o

    -- it has none of a text's numbers
    other : Cases → Accepts false text → (n k : ℕ) → on_rows ≡ refuses n k → is_in n table_refusals ≡ false
    other (refused m r is) ok n k e = absurd (omega (arith, r, ok))
    other (unordered a o is) ok n k e =
        subst (λ m. is_in m table_refusals ≡ false) (same_refusal (sym is ∙ (on_accepted answer on_rows ok ∙ e))).0 refl
    other (short a order o h is) ok n k e =
        subst (λ m. is_in m table_refusals ≡ false) (same_refusal (sym is ∙ (on_accepted answer on_rows ok ∙ e))).0 refl
    other (written a order o h is) ok n k e = absurd (not_both (sym is ∙ (on_accepted answer on_rows ok ∙ e)))

    eight_only : Cases → planned text room ≡ refuses 8 0 → EveryOrderFails answer.rows
    eight_only (refused n r is) e = absurd (refused_else false text n 8 r refl (same_refusal (sym is ∙ e)).0)
    eight_only (unordered a o is) e = (choice a).none_passes o
    eight_only (short a order o h is) e =
        absurd (let z : ◌≡◌ {A = ℕ} 9 8 = (same_refusal (sym is ∙ e)).0 in omega arith)
    eight_only (written a order o h is) e = absurd (not_both (sym is ∙ e))

    module _ (ok : Accepts false text) where
      on_rows_lem : planned text room ≡ on_rows
      on_rows_lem = on_accepted answer on_rows ok

      -- the order by the rule is the one chosen
      by_rule : (order : List Row) → ByRule answer.rows order → chosen_order answer.rows ≡ some order
      by_rule order r = elim (some_or_none (chosen_order answer.rows)) [
        | inr o ↦ absurd (true_not_false _ r.is_stable_order ((choice ok).none_passes o order r.possible))
        | inl o ↦ (
            let os = o.0 in
            let possible = (choice ok).is_possible_order os o.1 in
            let before = (choice ok).by_rule os order o.1 r.possible r.is_stable_order in
            let after = r.comes_first os possible ((choice ok).is_passing os o.1) in
            o.1 ∙ ap some ((choice ok).one_only os order possible r.possible before after))
      ]

      pub rule_of : (order : List Row) → chosen_order answer.rows ≡ some order → ByRule answer.rows order
      rule_of order o = record {
        possible = (choice ok).is_possible_order order o;
        is_stable_order = (choice ok).is_passing order o;
        comes_first = λ os possible passing. (choice ok).by_rule order os o possible passing;
      }

      table_plan : TablePlan room answer.board answer.rows (planned text room)
      table_plan = record {
        by_formulas = λ os p. by_formulas os (possible_passes in_range p (sound ok).rows_in_range);
        eight = (eight_only cases, λ h. on_rows_lem ∙ unordered_is ((choice ok).none_only h));
        ordered = λ order r.
            let o = by_rule order r in
            let is = on_rows_lem ∙ ordered_is order o in
            record {
              nine = nine_is room (plan_for order) (planned text room) is;
              written = written_is room (plan_for order) (planned text room) is;
              promised = order_promised ok order o;
            };
        margins = λ order r. order_margins ok order (by_rule order r);
        chosen = choice ok;
      }

    has_room : Cases → plan_room ≤ room → (p : ℕ) → planned text room ≡ refuses 9 p → ⊥
    has_room (refused n r is) h p e = refused_else false text n 9 r refl (same_refusal (sym is ∙ e)).0
    has_room (unordered a o is) h p e = let z : ◌≡◌ {A = ℕ} 8 9 = (same_refusal (sym is ∙ e)).0 in omega arith
    has_room (short a order o l is) h p e = omega (arith, order_fits a order o)
    has_room (written a order o l is) h p e = not_both (sym is ∙ e)

    pub plan_demands : PlanDemands text room (planned text room)
    plan_demands = record {
      read = read false text;
      listed = listed cases;
      refused = refused_exactly false text on_rows (other cases);
      accepted = λ b rows t.
          let is = tells_only false text b rows [] t in
          subst (λ (a : TableRead). TablePlan room a.board a.rows (planned text room)) is
          (table_plan (ap (λ (a : TableRead). a.refused) is));
      has_room = has_room cases;
    }

    -- ---- the demands decide: the outcome that meets them is the call's
    module _ (w : Outcome) (d : PlanDemands text room w) where
      told : Accepts false text → TablePlan room answer.board answer.rows w
      told a = d.accepted answer.board answer.rows
          (subst (Tells false text answer.board answer.rows) ((sound a).no_ranks refl) (telling false text a))

      only : Cases → w ≡ planned text room
      only (refused n r is) = ((d.refused (suc n) answer.line).1 (failing false text n r)).0 ∙ sym is
      only (unordered a o is) = (told a).eight.1 ((choice a).none_passes o) ∙ sym is
      only (short a order o h is) = ((told a).ordered order (rule_of a order o)).nine.1 h ∙ sym is
      only (written a order o h is) = ((told a).ordered order (rule_of a order o)).written.1 h ∙ sym is

      pub decided : w ≡ planned text room
      decided = only cases
