-- What is promised of every text: the three demands, about the very figures that a plan's text writes. They are said of
-- any outcome and in document 01's words, apart from how the outcome is found; only one outcome meets them.
use Rattle.std.specs.Prelude.{◌≡◌, Bool, true, false, ◌↔◌, ℕ, suc, ◌≤◌, ◌<◌, pos, length, get_or, Result}
use mathlib.Core.List.{List, [], ◌∷◌, ◌++◌, Perm}
use Rattle.std.specs.Int.Signed.{le_z}
use Rattle.basics.specs.Basics.{is_in}
use Rattle.rows.specs.Rows.{tasks_of, rows_for, row_at}
use Rattle.rows.specs.Rows.{Row}
use Rattle.tables.specs.Claims.{Tells, Fails, table_refusals, ranked_refusals, Read}
use Rattle.responses.specs.Figures.{rows_above, rows_below, is_late}
use Rattle.responses.specs.Claims.{Figured, Ends, ByCondition, CurveCounts, ByNumbers, DeadlineCounts}
use Rattle.responses.specs.Claims.{AsRequest4, AsRequest2, AsDocument01, NoSwitch, NoneHolds, SwitchUpTo, Grows}
use Rattle.orders.specs.Orders.{Possible, position_in, positions_up, not_after, Chosen}
use Rattle.orders.specs.Stability.{stable, order_stable}
use Rattle.boards.specs.Claims.{LastsInRange, Kept, NoneLate}
use Rattle.boards.specs.Runs.{BoardRuns}
use Rattle.plans.specs.declared.Entry.{Entry}
use Rattle.plans.specs.declared.Refusal.{Refusal}
use Rattle.plans.specs.Entries.{entry, entries, no_entry}
use Rattle.plans.specs.Plans.{plan_text, plan_room}
use Rattle.plans.specs.Outcomes.{Outcome, writes, refuses, Written}
use Rattle.demands.specs.Calls.{planned, reviewed}

-- ---- the figures of an order
-- late or not, those of rank i are those of its row between the rows above it and those below it, by the formulas
pub record ByFormulas (order : List Row) : Type 0 where
  pub figured : (i : ℕ) → i < length order → Figured (row_at order i) (rows_above order i) (rows_below order i)
  -- its busy interval always ends
  pub ends : (i : ℕ) → i < length order → Ends (row_at order i) (rows_above order i) (rows_below order i)
  -- the margin is that of its row's stability condition, its curve or with no points its line, and of no other row's
  pub by_condition : (i : ℕ) → i < length order → ByCondition (row_at order i) (rows_above order i) (rows_below order i)
  pub own_curve : (i : ℕ) → i < length order → CurveCounts (row_at order i) (rows_above order i) (rows_below order i)
  -- a deadline counts for its own row alone, and a longer one changes no figure of a row in time
  pub own_deadline :
      (i d : ℕ) → i < length order → DeadlineCounts (row_at order i) (rows_above order i) (rows_below order i) d
  -- with the period as deadline W, late and E are those of request 4
  pub within_period :
      (i : ℕ) → i < length order → (row_at order i).deadline ≡ (row_at order i).period
      → AsRequest4 (row_at order i) (rows_above order i) (rows_below order i)

-- ---- an order whose plan is written
-- rank i of a plan, counted from 0
abbrev pub entry_at : List Row → ℕ → Entry
entry_at order i = get_or (entries order) i no_entry

pub record Promised (order : List Row) : Type 0 where
  -- demand 2: rank i's entry has the figures of its row between the rows above it and those below it, and they are
  -- those of the formulas
  pub as_many : length (entries order) ≡ length order
  pub entry_is :
      (i : ℕ) → i < length order → entry_at order i ≡ entry (row_at order i) (rows_above order i) (rows_below order i)
  pub by_formulas : ByFormulas order
  -- by which rows are above and which below, and not by their sequence
  pub by_sets :
      (i : ℕ) (above' below' : List Row) → i < length order
      → Perm (rows_above order i) above' → Perm (rows_below order i) below'
      → entry_at order i ≡ entry (row_at order i) above' below'
  -- with the switch beside each `worst` and nowhere else; with the period as deadline and a switch of 0 those before
  -- the switch, and with every hold 0 or 1 too, those of document 01
  pub by_numbers : (i : ℕ) → i < length order → ByNumbers (row_at order i) (rows_above order i) (rows_below order i)
  pub without_switch :
      NoSwitch order → (i : ℕ) → i < length order → (row_at order i).deadline ≡ (row_at order i).period
      → AsRequest2 (row_at order i) (rows_above order i) (rows_below order i)
  pub without_either :
      NoSwitch order → NoneHolds order → (i : ℕ) → i < length order
      → (row_at order i).deadline ≡ (row_at order i).period
      → AsDocument01 (row_at order i) (rows_above order i) (rows_below order i)
  -- under a greater switch no `worst` line of the same order falls and no `best` line changes, and what is stable there
  -- is stable here
  pub switch_grows :
      (s : ℕ) → SwitchUpTo s order → (i : ℕ) → i < length order
      → Grows (row_at order i) (rows_above order i) (rows_below order i) s
  -- demand 3: on every board, for all first releases, job lengths and stretches, the run is by the rules, and it keeps
  -- the `worst` and `best` lines
  pub by_rules :
      (offset : ℕ → ℕ) (need : ℕ → ℕ → ℕ) (keeps : ℕ → Bool) → LastsInRange order need
      → BoardRuns order offset need keeps
  pub kept :
      (offset : ℕ → ℕ) (need : ℕ → ℕ → ℕ) (keeps : ℕ → Bool) → LastsInRange order need
      → Kept order offset need keeps (λ i. (entry_at order i).worst) (λ i. (entry_at order i).best)

-- what the plan of an order comes to: 9 exactly where the room is shorter, and else its text
pub record PlanOf (room board : ℕ) (order : List Row) (w : Outcome) : Type 0 where
  pub nine : (w ≡ refuses 9 0) ↔ (room < length (plan_text board (entries order)))
  pub written : (w ≡ writes (plan_text board (entries order))) ↔ (length (plan_text board (entries order)) ≤ room)
  pub promised : Promised order

-- ---- the planner
-- no possible order of the rows is stable
abbrev pub EveryOrderFails : List Row → Type 0
EveryOrderFails rows = (os : List Row) → Possible os rows → order_stable os ≡ false

-- the order that the rule chooses: stable, and not after any other stable one
pub record ByRule (rows order : List Row) : Type 0 where
  pub possible : Possible order rows
  pub is_stable_order : order_stable order ≡ true
  pub comes_first :
      (os : List Row) → Possible os rows → order_stable os ≡ true
      → not_after (positions_up (position_in rows) order) (positions_up (position_in rows) os) ≡ true

-- an accepted table: "no order" exactly where every order fails, each by the formulas; else the plan of the order that
-- the rule chooses
pub record TablePlan (room board : ℕ) (rows : List Row) (w : Outcome) : Type 0 where
  pub by_formulas : (os : List Row) → Possible os rows → ByFormulas os
  pub eight : (w ≡ refuses 8 0) ↔ EveryOrderFails rows
  pub ordered : (order : List Row) → ByRule rows order → PlanOf room board order w
  pub margins :
      (order : List Row) → ByRule rows order
      → (i : ℕ) → i < length order → le_z (pos 0) (entry_at order i).margin ≡ true
  pub chosen : Chosen stable rows

abbrev pub planner_refusals : List ℕ
planner_refusals = table_refusals ++ (8 ∷ 9 ∷ [])

pub record PlanDemands (text : List ℕ) (room : ℕ) (w : Outcome) : Type 0 where
  -- demand 1: a text is refused exactly for its reason, with its line, or accepted as it is written
  pub read : Read false text
  pub listed : (n p : ℕ) → w ≡ refuses n p → is_in n planner_refusals ≡ true
  pub refused : (n k : ℕ) → ((w ≡ refuses n k) × (is_in n table_refusals ≡ true)) ↔ Fails false text n k
  -- demands 2 and 3
  pub accepted : (board : ℕ) (rows : List Row) → Tells false text board rows [] → TablePlan room board rows w
  -- a program's buffer has room for every plan
  pub has_room : plan_room ≤ room → (p : ℕ) → w ≡ refuses 9 p → ⊥

-- ---- the reviewer
-- the order given: each row once and nothing else, its tasks those of the rank lines
pub record Given (rows : List Row) (tasks : List ℕ) (order : List Row) : Type 0 where
  pub possible : Possible order rows
  pub tasks_are : tasks_of order ≡ tasks

-- the first late rank from the top, counted from 0
pub record FirstLate (order : List Row) (k : ℕ) : Type 0 where
  pub there : k < length order
  pub late : is_late (row_at order k) (rows_above order k) (rows_below order k) ≡ true
  pub above_in_time : (j : ℕ) → j < k → is_late (row_at order j) (rows_above order j) (rows_below order j) ≡ false

-- an accepted text: 7 exactly for the first rank that is late by the formulas, counted from 1; else the plan of the
-- order given
pub record OrderReview (room board : ℕ) (order : List Row) (w : Outcome) : Type 0 where
  pub by_formulas : ByFormulas order
  pub seven : (k : ℕ) → (w ≡ refuses 7 (suc k)) ↔ FirstLate order k
  pub in_time : NoneLate order → PlanOf room board order w

abbrev pub reviewer_refusals : List ℕ
reviewer_refusals = ranked_refusals ++ (7 ∷ 9 ∷ [])

pub record ReviewDemands (text : List ℕ) (room : ℕ) (w : Outcome) : Type 0 where
  pub read : Read true text
  pub listed : (n p : ℕ) → w ≡ refuses n p → is_in n reviewer_refusals ≡ true
  pub refused : (n k : ℕ) → ((w ≡ refuses n k) × (is_in n ranked_refusals ≡ true)) ↔ Fails true text n k
  -- the rows of the rank lines' tasks are an order given, and any such is reviewed
  pub given :
      (board : ℕ) (rows : List Row) (tasks : List ℕ) → Tells true text board rows tasks
      → Given rows tasks (rows_for tasks rows)
  pub accepted :
      (board : ℕ) (rows : List Row) (tasks : List ℕ) → Tells true text board rows tasks
      → (order : List Row) → Given rows tasks order → OrderReview room board order w
  pub has_room : plan_room ≤ room → (p : ℕ) → w ≡ refuses 9 p → ⊥

-- ---- what the public calls promise, of the bytes of their buffer before and after them and of what they return: they
-- come from one outcome, which meets the demands; and no other outcome meets them
pub record PlanSays (text buffer buffer' : List ℕ) (r : Result ℕ Refusal) : Type 0 where
  pub answer : Written (planned text (length buffer)) buffer buffer' r
  pub demands : PlanDemands text (length buffer) (planned text (length buffer))
  pub no_other : (w : Outcome) → PlanDemands text (length buffer) w → w ≡ planned text (length buffer)

pub record ReviewSays (text buffer buffer' : List ℕ) (r : Result ℕ Refusal) : Type 0 where
  pub answer : Written (reviewed text (length buffer)) buffer buffer' r
  pub demands : ReviewDemands text (length buffer) (reviewed text (length buffer))
  pub no_other : (w : Outcome) → ReviewDemands text (length buffer) w → w ≡ reviewed text (length buffer)
