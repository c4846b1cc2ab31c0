-- Nothing is demanded in vain: texts and orders that meet each condition that the demands name (boards/specs/Witnesses
-- has the runs), both sides of the most tasks, and lines that fill the room of a plan. And outcomes that weaker demands
-- would admit, each excluded.
use Rattle.std.specs.Prelude.{◌≡◌, true, false, List, [], ◌∷◌, ◌++◌, map, ℕ, zero, suc, ◌+◌, ◌-◌, ◌*◌, ◌/◌, ◌^◌}
use Rattle.std.specs.Prelude.{◌≤◌, ◌<◌, length, drop}
use Prim.Native.String.{String}
use Rattle.text.specs.Text.{bytes, lined, decimal, key_line}
use Rattle.rows.specs.Rows.{max_task, max_ticks, min_alpha, max_beta, min_hold, min_switch, max_switch, max_tasks, max_buffer}
use Rattle.curves.specs.Curves.{Point, point}
use Rattle.rows.specs.Rows.{row, row_with, row_at, cost, with_switch, with_curve, in_range}
use Rattle.rows.specs.Rows.{Row}
use Rattle.rows.specs.Numbers.{field_count, rows_of, row_in}
use Rattle.boards.specs.Claims.{NoneLate}
use Rattle.boards.specs.Witnesses.{example_order}
use Rattle.responses.specs.Interference.{ceiling}
use Rattle.responses.specs.Figures.{worst_in, blocking, finish_of, latest, is_late, in_limits}
use Rattle.responses.specs.Claims.{Equation4, NotFound, switched}
use Rattle.plans.specs.Entries.{entry, entries}
use Rattle.plans.specs.Plans.{rank_text, head_text, plan_text, head_room, rank_room, plan_room}
use Rattle.plans.specs.Outcomes.{writes, refuses}
use Rattle.demands.specs.Cases.{row11, row12, row13, holding13, table_under, table, pointed, row21, row22, overrun}
use Rattle.tables.specs.TableLines.{max_board}
use Rattle.tables.specs.Claims.{Tells, Fails}
use Rattle.demands.specs.Demands.{EveryOrderFails, ByRule, PlanDemands}
use Rattle.demands.specs.Demands.{Given, FirstLate, ReviewDemands}

-- document 01's example: its text, its rows, and a text with the order of its plan
abbrev pub example : List ℕ
example = table "beta=8000" "beta=8000" "beta=57000"

abbrev pub example_rows : List Row
example_rows = row11 8000 ∷ row12 8000 ∷ row13 57000 ∷ []

abbrev pub timely_text : List ℕ
timely_text = example ++ lined ("rank=12" ∷ "rank=11" ∷ "rank=13" ∷ [])

-- and an order of it in which the lowest task is late
abbrev pub late_order : List Row
late_order = row11 8000 ∷ row13 57000 ∷ row12 8000 ∷ []

abbrev pub late_text : List ℕ
late_text = example ++ lined ("rank=11" ∷ "rank=13" ∷ "rank=12" ∷ [])

-- a text that is no table; a table of two tasks up to its first deadline, and more lines
abbrev pub malformed : List ℕ
malformed = lined ("board=07" ∷ [])

abbrev pub two_tasks : List String → List ℕ
two_tasks more = lined ("board=7" ∷ "tasks=2" ∷ "switch=0" ∷ "task=1" ∷ "period=10" ∷ "deadline=10" ∷ more)

-- a task more than a table can have
abbrev pub too_many : List ℕ
too_many = lined ("board=7" ∷ []) ++ key_line (bytes "tasks=") (decimal (suc max_tasks))

-- tasks that take a tenth of the longest period each; as many as a table can have, as text too
abbrev pub tenth : ℕ → Row
tenth task = row task max_ticks max_ticks (max_ticks / 10) (max_ticks / 10) min_alpha max_beta min_hold min_switch

abbrev pub tenths : ℕ → List Row
tenths zero = []
tenths (suc k) = tenth (suc k) ∷ tenths k

abbrev pub tenth_lines : ℕ → List ℕ
tenth_lines zero = []
tenth_lines (suc k) =
    key_line (bytes "task=") (decimal (suc k))
    ++ lined (
    "period=1000000" ∷ "deadline=1000000" ∷ "worst=100000" ∷ "best=100000" ∷ "alpha=1000" ∷ "beta=200000000000"
    ∷ "hold=0" ∷ "points=0" ∷ [])
    ++ tenth_lines k

abbrev pub most_text : List ℕ
most_text =
    lined ("board=7" ∷ []) ++ key_line (bytes "tasks=") (decimal max_tasks) ++ lined ("switch=0" ∷ [])
    ++ tenth_lines max_tasks

-- the example's rows with greater betas: as a table under a switch, in its sequence, and in that of its order
abbrev pub switched_text : List ℕ
switched_text = table_under "switch=1" "beta=10000" "beta=10000" "beta=79000"

abbrev pub loose_rows : List Row
loose_rows = row11 10000 ∷ row12 10000 ∷ row13 79000 ∷ []

abbrev pub loose_order : List Row
loose_order = row12 10000 ∷ row11 10000 ∷ row13 79000 ∷ []

-- a task whose line refuses it and whose curve does not, as a table, and its row
abbrev pub curved_text : List ℕ
curved_text = pointed ("points=1" ∷ "delay=7" ∷ "allow=3" ∷ [])

abbrev pub curved_rows : List Row
curved_rows = row_with (point 7 3 ∷ []) 1 10 10 10 7 1000 9999 0 0 ∷ []

-- tasks that take half of each 400,000 ticks, and three quarters
abbrev pub half : Row
half = row 31 400000 max_ticks 200000 200000 min_alpha max_beta min_hold min_switch

abbrev pub three_quarters : Row
three_quarters = row 32 400000 max_ticks 300000 300000 min_alpha max_beta min_hold min_switch

-- two rows as numbers: one with a point of the eight that there is room for, and one with none under a switch
abbrev pub lent_numbers : List ℕ
lent_numbers =
    1 ∷ 10 ∷ 10 ∷ 10 ∷ 7 ∷ 1000 ∷ 9999 ∷ 0 ∷ 1
    ∷ 7 ∷ 3 ∷ 0 ∷ 0 ∷ 0 ∷ 0 ∷ 0 ∷ 0 ∷ 0 ∷ 0 ∷ 0 ∷ 0 ∷ 0 ∷ 0 ∷ 0 ∷ 0 ∷ 0
    ∷ 2 ∷ 20 ∷ 25 ∷ 5 ∷ 4 ∷ 1000 ∷ 9000 ∷ 3 ∷ 0
    ∷ 0 ∷ 0 ∷ 0 ∷ 0 ∷ 0 ∷ 0 ∷ 0 ∷ 0 ∷ 0 ∷ 0 ∷ 0 ∷ 0 ∷ 0 ∷ 0 ∷ 0 ∷ 0 ∷ 6
    ∷ []

abbrev pub lent_rows : List Row
lent_rows = curved_rows ++ (row 2 20 25 5 4 1000 9000 3 6 ∷ [])

-- n points, each a tick behind the one before it
abbrev pub falling_from : ℕ → List Point
falling_from zero = []
falling_from (suc n) = point (10 - n) n ∷ falling_from n

abbrev pub with_points : List Point → Row
with_points c = row_with c 1 10 10 7 7 1000 0 7 3

pub record Met : Type 0 where
  -- refusals 1 to 6 and 11, each at its line
  pub missing : Fails false [] 1 1
  pub trailing : Fails false (example ++ bytes "x") 1 31
  pub no_number : Fails false malformed 2 1
  pub out_of_range : Fails false too_many 3 2
  pub exceeding : Fails false (two_tasks ("worst=11" ∷ [])) 4 7
  pub repeated :
      Fails false (two_tasks (
      "worst=10" ∷ "best=1" ∷ "alpha=1000" ∷ "beta=0" ∷ "hold=0" ∷ "points=0" ∷ "task=1" ∷ [])) 5 13
  pub impossible : Fails true (example ++ lined ("rank=11" ∷ "rank=11" ∷ [])) 6 32
  pub disorderly :
      Fails false (two_tasks (
      "worst=10" ∷ "best=1" ∷ "alpha=1000" ∷ "beta=0" ∷ "hold=0"
      ∷ "points=2" ∷ "delay=5" ∷ "allow=0" ∷ "delay=5" ∷ [])) 11 15
  -- a table with an order, in a room that is too short too, and one with none
  pub tells : Tells false example 7 example_rows []
  pub by_rule : ByRule example_rows example_order
  pub short : 0 < length (plan_text 7 (entries example_order))
  pub every_order_fails : EveryOrderFails (row11 8000 ∷ row12 8000 ∷ row13 54999 ∷ [])
  -- an order given with a late task, and one without
  pub tells_late : Tells true late_text 7 example_rows (11 ∷ 13 ∷ 12 ∷ [])
  pub given_late : Given example_rows (11 ∷ 13 ∷ 12 ∷ []) late_order
  pub late_first : FirstLate late_order 2
  pub tells_timely : Tells true timely_text 7 example_rows (12 ∷ 11 ∷ 13 ∷ [])
  pub given_timely : Given example_rows (12 ∷ 11 ∷ 13 ∷ []) example_order
  pub none_late : NoneLate example_order
  -- as many tasks as a table can have; a byte for each set of them is no longer than a buffer may be
  pub tells_most : Tells false most_text 7 (tenths max_tasks) []
  pub record_short : 2 ^ max_tasks ≤ max_buffer
  -- a row's figures are asked for beside one row fewer, and beside no more
  pub beside_most : in_limits (tenth max_task) (tenths (max_tasks - 1)) [] ≡ true
  pub beside_more : in_limits (tenth max_task) (tenths max_tasks) [] ≡ false
  -- a row at its limits under a switch, and a tick past each; a switch at its limit, and past it
  pub limits_met : in_range (row 1 10 10 7 7 1000 0 7 3) ≡ true
  pub worst_past : in_range (row 1 10 10 8 7 1000 0 7 3) ≡ false
  pub best_past : in_range (row 1 10 10 7 8 1000 0 7 3) ≡ false
  pub hold_past : in_range (row 1 10 10 7 7 1000 0 8 3) ≡ false
  pub switch_most : in_range (row 1 max_ticks max_ticks 7 7 1000 0 7 max_switch) ≡ true
  pub switch_past : in_range (row 1 max_ticks max_ticks 7 7 1000 0 7 (suc max_switch)) ≡ false
  -- a deadline is free of the other times: at both limits it is in range, and a tick past each it is not
  pub deadline_least : in_range (row 1 10 1 7 7 1000 0 7 3) ≡ true
  pub deadline_most : in_range (row 1 10 1000000 7 7 1000 0 7 3) ≡ true
  pub deadline_none : in_range (row 1 10 0 7 7 1000 0 7 3) ≡ false
  pub deadline_past : in_range (row 1 10 1000001 7 7 1000 0 7 3) ≡ false
  -- a curve at its limits, and past each: a delay not above the one before it, an allow above the one before it, a delay
  -- and an allow past the limit, a point too many
  pub curve_met : in_range (with_points (point 0 1000000 ∷ point 1 1000000 ∷ point 1000000 0 ∷ [])) ≡ true
  pub curve_most : in_range (with_points (falling_from 8)) ≡ true
  pub delay_not_above : in_range (with_points (point 5 5 ∷ point 5 4 ∷ [])) ≡ false
  pub allow_above : in_range (with_points (point 5 5 ∷ point 6 6 ∷ [])) ≡ false
  pub delay_past : in_range (with_points (point 1000001 0 ∷ [])) ≡ false
  pub allow_past : in_range (with_points (point 0 1000001 ∷ [])) ≡ false
  pub points_past : in_range (with_points (falling_from 9)) ≡ false
  -- a table with a curve, with an order that its line does not have
  pub tells_curved : Tells false curved_text 7 curved_rows []
  pub by_rule_curved : ByRule curved_rows curved_rows
  pub line_fails : EveryOrderFails (map (with_curve []) curved_rows)
  -- a table with a task that overruns its period, with an order that it does not have with its period as deadline; and
  -- a deadline that is the period
  pub tells_overrun : Tells false (overrun "deadline=118") 7 (row21 ∷ row22 118 ∷ []) []
  pub by_rule_overrun : ByRule (row21 ∷ row22 118 ∷ []) (row21 ∷ row22 118 ∷ [])
  pub period_fails : EveryOrderFails (row21 ∷ row22 100 ∷ [])
  pub due_at_period : (row_at example_order 2).deadline ≡ (row_at example_order 2).period
  -- a busy interval by equation 4: it has seven jobs, and the fifth has the longest response; it is past a deadline of
  -- 117; and a window that has room for all that it brings
  pub interval : Equation4 (finish_of (row22 118) (row21 ∷ []) []) 100 118 6
  pub interval_late : Equation4 (finish_of (row22 117) (row21 ∷ []) []) 100 118 6
  pub window_fits : ceiling 700 100 * cost (row22 118) + blocking [] + worst_in 700 (row21 ∷ []) ≤ 700
  -- one whose second job is not found in 1,000,000 ticks; and a window that brings more than it has room for, a
  -- multiple of both periods
  pub second_not_found : NotFound (finish_of three_quarters (half ∷ []) []) 400000 1
  pub window_heavy : 400000 < ceiling 400000 400000 * cost three_quarters + worst_in 400000 (half ∷ [])
  -- a W of 1,000,000 is found, and is in time by the longest deadline; over a hold of 2 it would be a tick more, and is
  -- not found
  pub limit_reached : latest (tenth max_task) (tenths 9) [] ≡ max_ticks
  pub limit_past : NotFound (finish_of (tenth max_task) (tenths 9) (holding13 2 ∷ [])) max_ticks 0
  -- rows as they are lent, with their deadline, their curve and their switch
  pub lent_whole : length lent_numbers ≡ field_count * 2
  pub lent_as_rows : rows_of 2 lent_numbers ≡ lent_rows
  pub lent_second : row_in lent_numbers 1 ∷ [] ≡ drop 1 lent_rows
  -- a table under a switch, with an order; figures of rows that have different ones
  pub tells_switched : Tells false switched_text 7 (switched 1 loose_rows) []
  pub by_rule_switched : ByRule (switched 1 loose_rows) (switched 1 loose_order)
  pub beside_switched :
      in_limits (with_switch 2 (row13 57000)) (row11 8000 ∷ with_switch 1 (row12 8000) ∷ []) [] ≡ true
  -- the room of a plan's parts is no more than it must be: lines before the ranks, and those of a rank, that fill it
  pub room_is : plan_room ≡ head_room + max_tasks * rank_room
  pub head_filled : length (head_text max_board max_tasks) ≡ head_room
  pub rank_in_limits : in_limits (tenth max_task) (tenths 9) [] ≡ true
  pub rank_timely : is_late (tenth max_task) (tenths 9) [] ≡ false
  pub rank_filled : length (rank_text 10 (entry (tenth max_task) (tenths 9) [])) ≡ rank_room

pub record Excluded : Type 0 where
  -- a refusal of the text for a table that is accepted
  pub two_for_a_table : (room : ℕ) → PlanDemands example room (refuses 2 77) → ⊥
  -- a plan of nothing, or a refusal with no line, for a text that is no table
  pub empty_plan : (room : ℕ) → PlanDemands malformed room (writes (plan_text 0 [])) → ⊥
  pub no_line : (room : ℕ) → PlanDemands malformed room (refuses 2 0) → ⊥
  -- 7 with no rank, for every text
  pub seven_with_no_rank : (text : List ℕ) (room : ℕ) → ReviewDemands text room (refuses 7 0) → ⊥
  -- 9 for an order with a late task, however short the room
  pub nine_for_late : (room : ℕ) → ReviewDemands late_text room (refuses 9 0) → ⊥
