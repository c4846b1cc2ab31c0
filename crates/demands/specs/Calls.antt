-- What the planner's and the reviewer's calls come to for a text and the room of a buffer, and what the programs print.
use Rattle.std.specs.Prelude.{true, false, List, ℕ, zero, suc}
use Rattle.std.proofs.Math.Option.{Option, none, some}
use Rattle.rows.specs.Rows.{rows_for}
use Rattle.rows.specs.Rows.{Row}
use Rattle.tables.specs.TableLines.{TableRead, read_table}
use Rattle.orders.specs.Stability.{chosen_order}
use Rattle.plans.specs.Plans.{plan_room}
use Rattle.plans.specs.Outcomes.{Outcome, refuses, plan_of, if_in_time, printed}

-- refusals 1 to 6 and 11: those of the text; else what its table comes to
unfoldable pub on_table : TableRead → Outcome → Outcome
on_table a next = elim a.refused [ zero ↦ next | suc n ↦ refuses (suc n) a.line ]

-- the planner: 1 to 5, 8, 9, 11
unfoldable pub if_ordered : ℕ → ℕ → Option (List Row) → Outcome
if_ordered room board none = refuses 8 0
if_ordered room board (some order) = plan_of room board order

abbrev pub planned : List ℕ → ℕ → Outcome
planned text room =
    let a = read_table false text in
    on_table a (if_ordered room a.board (chosen_order a.rows))

-- the order of the rank lines
abbrev pub given_order : List ℕ → List Row
given_order text = let a = read_table true text in rows_for a.order a.rows

-- the reviewer: 1 to 6 and 11, 7 with the first late rank, 9
abbrev pub reviewed : List ℕ → ℕ → Outcome
reviewed text room =
    let a = read_table true text in
    on_table a (if_in_time room a.board (given_order text))

-- ---- the programs: what each prints for the text that it took
abbrev pub planner_prints : List ℕ → List ℕ
planner_prints text = printed (planned text plan_room)

abbrev pub reviewer_prints : List ℕ → List ℕ
reviewer_prints text = printed (reviewed text plan_room)
