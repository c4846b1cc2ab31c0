-- The reviewer's demands, for every text and every room. The rank lines of an accepted text make a possible order, so
-- its rows are in range; where none of them is late, the figures written are by the formulas and kept on every board.
use mathlib.Core.Path.{◌≡◌, refl, sym, ap, subst, ◌∙◌}
use mathlib.Core.Bool.{true, false}
use mathlib.Core.List.{List, [], ◌∷◌}
use mathlib.Core.Logic.{inl, inr}
use Prim.Native.Nat.{ℕ, suc, ◌≤◌, ◌<◌}
use native.Mathlib.Omega.{arith}
use lib.ListN.{length}
use Rattle.basics.specs.Basics.{is_in}
use Rattle.basics.proofs.Tests.{true_not_false, le-or-lt, in_front}
use Rattle.rows.specs.Rows.{in_range, all_rows, tasks_of, rows_for, row_at}
use Rattle.rows.specs.Rows.{Row}
use Rattle.tables.specs.TableLines.{TableRead, read_table}
use Rattle.tables.specs.Claims.{Accepted, ranked_refusals}
use Rattle.tables.proofs.Readings.{read}
use Rattle.responses.specs.Figures.{rows_above, rows_below, is_late}
use Rattle.orders.specs.Orders.{Possible}
use Rattle.orders.proofs.Possible.{possible_length, possible_passes}
use Rattle.orders.proofs.Tasks.{possible_tasks, rows_for_lem}
use Rattle.boards.specs.Claims.{NoneLate}
use Rattle.plans.specs.Entries.{entries, first_late}
use Rattle.plans.specs.Plans.{plan_text, plan_room}
use Rattle.plans.specs.Outcomes.{Outcome, writes, refuses, fitted, if_in_time}
use Rattle.plans.proofs.Outcomes.{fits, fits_not, late_outcome, timely_outcome}
use Rattle.plans.proofs.Entries.{first_late_none, first_late_some}
use Rattle.plans.proofs.Lengths.{plan_fits}
use Rattle.demands.specs.Calls.{given_order, reviewed}
use Rattle.demands.specs.Demands.{Promised, reviewer_refusals, Given, FirstLate, OrderReview, ReviewDemands}
use Rattle.demands.proofs.Outcomes.{same_refusal, not_both, zero_or_more, on_accepted, on_refused}
use Rattle.demands.proofs.Outcomes.{nine_is, written_is}
use Rattle.demands.proofs.Texts.{Accepts, failing, refused_listed, refused_else, telling, tells_only}
use Rattle.demands.proofs.Texts.{refused_exactly}
use Rattle.demands.proofs.Promises.{by_formulas, promised}

pub none_late_first : (order : List Row) → NoneLate order → first_late order ≡ 0
none_late_first order h = elim (zero_or_more (first_late order)) [
  | inl e ↦ e
  | inr e ↦ (
      let l = first_late_some order e.0 e.1 in
      absurd (true_not_false _ l.late (h e.0 l.there)))
]

-- the first late rank is the one that is noted
pub first_of : (order : List Row) (k : ℕ) → first_late order ≡ suc k → FirstLate order k
first_of order k e =
    let l = first_late_some order k e in
    record { there = l.there; late = l.late; above_in_time = l.above_in_time }

pub first-is : (order : List Row) (k : ℕ) → FirstLate order k → first_late order ≡ suc k
first-is order k l = elim (zero_or_more (first_late order)) [
  | inl z ↦ absurd (true_not_false _ l.late (first_late_none order z k l.there))
  | inr e ↦ (
      let n = first_of order e.0 e.1 in
      let low = not_lower e.0 k n.late l in
      let high = not_lower k e.0 l.late n in
      omega (arith, e.1))
]
  where
    -- a late rank is not above the first
    not_lower :
        (i j : ℕ) →
        is_late (row_at order i) (rows_above order i) (rows_below order i) ≡ true →
        FirstLate order j →
        j ≤ i
    not_lower i j late f = elim (le-or-lt j i) [
      | inl h ↦ h
      | inr h ↦ absurd (true_not_false _ late (f.above_in_time i h))
    ]

module _ (text : List ℕ) where
  abbrev answer : TableRead
  answer = read_table true text

  abbrev order : List Row
  order = given_order text

  -- ---- the order of an accepted text
  module _ (ok : Accepts true text) where
    pub sound : Accepted true answer
    sound = (read true text).sound ok

    is_possible_order : Possible order answer.rows × (tasks_of order ≡ answer.order)
    is_possible_order = possible_tasks answer.order answer.rows (sound.ranks_possible refl)

    pub order_in_range : all_rows in_range order ≡ true
    order_in_range = possible_passes in_range is_possible_order.0 sound.rows_in_range

    module _ (in_time : NoneLate order) where
      order_promised : Promised order
      order_promised = promised order order_in_range in_time

      order_fits : length (plan_text answer.board (entries order)) ≤ plan_room
      order_fits =
          let as_many = possible_length is_possible_order.0 in
          let fits = plan_fits answer.board order (omega (arith, sound.board_high)) (omega (arith, sound.few_rows))
          order_in_range in_time in
          omega (arith, fits, as_many, sound.few_rows)

  -- ---- how the outcome comes about
  module _ (room : ℕ) where
    abbrev plan : List ℕ
    plan = plan_text answer.board (entries order)

    data Cases : Type 0 where
      refused : (n : ℕ) → answer.refused ≡ suc n → reviewed text room ≡ refuses (suc n) answer.line → Cases
      late : Accepts true text → (k : ℕ) → FirstLate order k → reviewed text room ≡ refuses 7 (suc k) → Cases
      short : Accepts true text → NoneLate order → room < length plan → reviewed text room ≡ refuses 9 0 → Cases
      written : Accepts true text → NoneLate order → length plan ≤ room → reviewed text room ≡ writes plan → Cases

    accepted : Accepts true text → Cases
    accepted a =
        elim (zero_or_more (first_late order)) [
          | inl z ↦
              let is : reviewed text room ≡ fitted room plan =
              on_accepted answer _ a ∙ timely_outcome room answer.board order z in
              let in_time : NoneLate order = first_late_none order z in
              elim (le-or-lt (length plan) room) [
                | inl h ↦ written a in_time h (is ∙ fits room plan h)
                | inr h ↦ short a in_time h (is ∙ fits_not room plan h)
              ]
          | inr l ↦
              let is = late_outcome room answer.board order (suc l.0) l.1 (λ e. omega (arith, e)) in
              late a l.0 (first_of order l.0 l.1) (on_accepted answer _ a ∙ is)
        ]

    cases : Cases
    cases = elim (zero_or_more answer.refused) [
      | inl e ↦ accepted e
      | inr e ↦ refused e.0 e.1 (on_refused answer _ e.0 e.1)
    ]

    listed : Cases → (n p : ℕ) → reviewed text room ≡ refuses n p → is_in n reviewer_refusals ≡ true
    listed (refused m r is) n p e =
        subst (λ k. is_in k reviewer_refusals ≡ true) (same_refusal (sym is ∙ e)).0
        (in_front (suc m) ranked_refusals (7 ∷ 9 ∷ []) (refused_listed true text m r))
    listed (late a k l is) n p e = subst (λ k. is_in k reviewer_refusals ≡ true) (same_refusal (sym is ∙ e)).0 refl
    listed (short a t h is) n p e = subst (λ k. is_in k reviewer_refusals ≡ true) (same_refusal (sym is ∙ e)).0 refl
    listed (written a t h is) n p e = absurd (not_both (sym is ∙ e))

    -- ---- an accepted text's outcome, by the first late rank
    abbrev on_order : Outcome
    on_order = if_in_time room answer.board order

    -- it has none of a text's numbers
    other : Cases → Accepts true text → (n k : ℕ) → on_order ≡ refuses n k → is_in n ranked_refusals ≡ false
    other (refused m r is) ok n k e = absurd (omega (arith, r, ok))
    other (late a j l is) ok n k e =
        subst (λ m. is_in m ranked_refusals ≡ false) (same_refusal (sym is ∙ (on_accepted answer on_order ok ∙ e))).0 refl
    other (short a t h is) ok n k e =
        subst (λ m. is_in m ranked_refusals ≡ false) (same_refusal (sym is ∙ (on_accepted answer on_order ok ∙ e))).0 refl
    other (written a t h is) ok n k e = absurd (not_both (sym is ∙ (on_accepted answer on_order ok ∙ e)))

    -- 7 is said of the first late rank, counted from 1
    seven_only : Cases → (p : ℕ) → reviewed text room ≡ refuses 7 p → (k : ℕ) × (p ≡ suc k) × FirstLate order k
    seven_only (refused n r is) p e = absurd (refused_else true text n 7 r refl (same_refusal (sym is ∙ e)).0)
    seven_only (late a k l is) p e = (k, sym (same_refusal (sym is ∙ e)).1, l)
    seven_only (short a t h is) p e = absurd (let z : ◌≡◌ {A = ℕ} 9 7 = (same_refusal (sym is ∙ e)).0 in omega arith)
    seven_only (written a t h is) p e = absurd (not_both (sym is ∙ e))

    pub seven_ranked : reviewed text room ≡ refuses 7 0 → ⊥
    seven_ranked e = omega (arith, (seven_only cases 0 e).1)

    module _ (ok : Accepts true text) where
      on_order_lem : reviewed text room ≡ on_order
      on_order_lem = on_accepted answer on_order ok

      timely : first_late order ≡ 0 → reviewed text room ≡ fitted room plan
      timely z = on_order_lem ∙ timely_outcome room answer.board order z

      order_review : OrderReview room answer.board order (reviewed text room)
      order_review = record {
        by_formulas = by_formulas order (order_in_range ok);
        seven = λ k. (
          λ e.
              let s = seven_only cases (suc k) e in
              subst (FirstLate order) (omega (arith, s.1)) s.2,
          λ l.
              let at = first-is order k l in
              on_order_lem ∙ late_outcome room answer.board order (suc k) at (λ e. omega (arith, e)),
        );
        in_time = λ t.
            let is = timely (none_late_first order t) in
            record {
              nine = nine_is room plan (reviewed text room) is;
              written = written_is room plan (reviewed text room) is;
              promised = order_promised ok t;
            };
      }

      -- no other order is given
      given_only : (os : List Row) → Given answer.rows answer.order os → order ≡ os
      given_only os g =
          ap (λ (ts : List ℕ). rows_for ts answer.rows) (sym g.tasks_are)
          ∙ rows_for_lem (sound ok).rows_distinct g.possible

      is_given : Given answer.rows answer.order order
      is_given = record { possible = (is_possible_order ok).0; tasks_are = (is_possible_order ok).1 }

    has_room : Cases → plan_room ≤ room → (p : ℕ) → reviewed text room ≡ refuses 9 p → ⊥
    has_room (refused n r is) h p e = refused_else true text n 9 r refl (same_refusal (sym is ∙ e)).0
    has_room (late a k l is) h p e = let z : ◌≡◌ {A = ℕ} 7 9 = (same_refusal (sym is ∙ e)).0 in omega arith
    has_room (short a t l is) h p e = omega (arith, order_fits a t)
    has_room (written a t l is) h p e = not_both (sym is ∙ e)

    pub review_demands : ReviewDemands text room (reviewed text room)
    review_demands = record {
      read = read true text;
      listed = listed cases;
      refused = refused_exactly true text on_order (other cases);
      given = λ b rows tasks t.
          let is = tells_only true text b rows tasks t in
          subst (λ (a : TableRead). Given a.rows a.order (rows_for a.order a.rows)) is
          (is_given (ap (λ (a : TableRead). a.refused) is));
      accepted = λ b rows tasks t.
          let is = tells_only true text b rows tasks t in
          let ok = ap (λ (a : TableRead). a.refused) is in
          subst (λ (a : TableRead). (os : List Row) → Given a.rows a.order os
          → OrderReview room a.board os (reviewed text room)) is
          (λ os g. subst (λ (o : List Row). OrderReview room answer.board o (reviewed text room))
          (given_only ok os g) (order_review ok));
      has_room = has_room cases;
    }

    -- ---- the demands decide: the outcome that meets them is the call's
    module _ (w : Outcome) (d : ReviewDemands text room w) where
      told : Accepts true text → OrderReview room answer.board order w
      told a = d.accepted answer.board answer.rows answer.order (telling true text a) order (is_given a)

      only : Cases → w ≡ reviewed text room
      only (refused n r is) = ((d.refused (suc n) answer.line).1 (failing true text n r)).0 ∙ sym is
      only (late a k l is) = ((told a).seven k).1 l ∙ sym is
      only (short a t h is) = ((told a).in_time t).nine.1 h ∙ sym is
      only (written a t h is) = ((told a).in_time t).written.1 h ∙ sym is

      pub decided : w ≡ reviewed text room
      decided = only cases
