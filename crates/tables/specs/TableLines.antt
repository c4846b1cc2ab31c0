-- A table as text, with its rank lines where they are expected: what each line is to be, the tests of its number, and
-- what it leaves to be read. This is the one description of a table.
use Rattle.std.specs.Prelude.{Bool, ◌&&◌, not, List, [], ◌∷◌, ◌++◌, ℕ, zero, suc, ◌-◌, eqb, leb, ltb, length, get_or}
use Rattle.basics.specs.Basics.{pick, is_in}
use Rattle.text.specs.Text.{bytes}
use Rattle.grammars.specs.Forms.{natural, size}
use Rattle.grammars.specs.Grammars.{Expected, the_end, a_line, Grammar, Verdict, accepted, refused, read}
use Rattle.rows.specs.Rows.{min_task, max_task, min_ticks, max_ticks, min_alpha, max_alpha, min_beta, max_beta}
use Rattle.rows.specs.Rows.{min_hold, max_hold, min_switch, max_switch, min_tasks, max_tasks, full_cost}
use Rattle.rows.specs.Rows.{Row, period_at, worst_at, points_at, first_point_at, lines_for, row_of, has_task}
use Rattle.curves.specs.Curves.{min_points, max_points, min_delay, max_delay, min_allow, max_allow}

-- board numbers
abbrev pub min_board : ℕ
min_board = 1

abbrev pub max_board : ℕ
max_board = 65535

-- ---- refusals of a number in its range
-- worst + switch > period, best > worst, hold > worst
abbrev pub exceeding : ℕ
exceeding = 4

-- a task number used before
abbrev pub repeated : ℕ
repeated = 5

-- a rank that names no task of the table, or one that has been named
abbrev pub impossible : ℕ
impossible = 6

-- a delay that is not above the one before it, an allow that is above the one before it
abbrev pub disorderly : ℕ
disorderly = 11

-- ---- the lines of a row, in fixed order
-- a line of a row: its key, its range, and the refusal of a number in that range, 0 for none, given the table's switch,
-- the rows before and the row's numbers before it
pub record RowLine : Type 0 where
  pub key : List ℕ
  pub low : ℕ
  pub high : ℕ
  pub fault : ℕ → List Row → List ℕ → ℕ → ℕ

abbrev pub row_line : List ℕ → ℕ → ℕ → (ℕ → List Row → List ℕ → ℕ → ℕ) → RowLine
row_line key low high fault = record { key = key; low = low; high = high; fault = fault }

-- the tests: none; a task number that none of some rows has; a number at most another; a delay above the one before it;
-- an allow not above the one before it; a rank that names one of some rows, and none of the ranks before it
abbrev pub any_number : ℕ → ℕ
any_number v = 0

abbrev pub new_task : List Row → ℕ → ℕ
new_task rs v = pick (has_task v rs) repeated 0

abbrev pub at_most : ℕ → ℕ → ℕ
at_most limit v = pick (ltb limit v) exceeding 0

abbrev pub later_delay : ℕ → ℕ → ℕ
later_delay before v = pick (ltb before v) 0 disorderly

abbrev pub lower_allow : ℕ → ℕ → ℕ
lower_allow before v = pick (leb v before) 0 disorderly

abbrev pub new_rank : List Row → List ℕ → ℕ → ℕ
new_rank rs os v = pick (has_task v rs && not (is_in v os)) 0 impossible

-- a point's lines behind those of the point before it, whose delay stands at a position
abbrev pub next_delay : ℕ → RowLine
next_delay at = row_line (bytes "delay=") min_delay max_delay (λ s rs vs. later_delay (get_or vs at 0))

abbrev pub next_allow : ℕ → RowLine
next_allow at = row_line (bytes "allow=") min_allow max_allow (λ s rs vs. lower_allow (get_or vs (suc at) 0))

abbrev pub next_points : ℕ → ℕ → List RowLine
next_points at zero = []
next_points at (suc n) = next_delay at ∷ next_allow at ∷ next_points (suc (suc at)) n

-- a row's lines, with the most points that it can have
abbrev pub row_lines : List RowLine
row_lines =
    row_line (bytes "task=") min_task max_task (λ s rs vs. new_task rs)
    ∷ row_line (bytes "period=") min_ticks max_ticks (λ s rs vs. any_number)
    ∷ row_line (bytes "deadline=") min_ticks max_ticks (λ s rs vs. any_number)
    ∷ row_line (bytes "worst=") min_ticks max_ticks (λ s rs vs v. at_most (get_or vs period_at 0) (full_cost v s))
    ∷ row_line (bytes "best=") min_ticks max_ticks (λ s rs vs. at_most (get_or vs worst_at 0))
    ∷ row_line (bytes "alpha=") min_alpha max_alpha (λ s rs vs. any_number)
    ∷ row_line (bytes "beta=") min_beta max_beta (λ s rs vs. any_number)
    ∷ row_line (bytes "hold=") min_hold max_hold (λ s rs vs. at_most (get_or vs worst_at 0))
    ∷ row_line (bytes "points=") min_points max_points (λ s rs vs. any_number)
    ∷ row_line (bytes "delay=") min_delay max_delay (λ s rs vs. any_number)
    ∷ row_line (bytes "allow=") min_allow max_allow (λ s rs vs. any_number)
    ∷ next_points first_point_at (max_points - 1)

-- the line at a position in a row
abbrev pub row_line_at : ℕ → RowLine
row_line_at i = get_or row_lines i (row_line [] 0 0 (λ s rs vs. any_number))

-- the numbers of a row's lines are all there: as many as the points that they say
abbrev pub is_whole : List ℕ → Bool
is_whole vs = eqb (length vs) (lines_for (get_or vs points_at 0))

-- ---- what has been read
-- the tasks that are to come; the switch, the rows so far and how many are left after the one that is being read, with
-- its numbers so far; the ranks so far and how many are left after the next
pub data Stage : Type 0 where
  at_board : Stage
  at_tasks : (board : ℕ) → Stage
  at_switch : (tasks board : ℕ) → Stage
  at_field : (left board switch : ℕ) (rows : List Row) (values : List ℕ) → Stage
  at_rank : (left board : ℕ) (rows : List Row) (order : List ℕ) → Stage
  at-end : (board : ℕ) (rows : List Row) (order : List ℕ) → Stage

-- as many rank lines, then the end
abbrev pub ranks_stage : ℕ → ℕ → List Row → List ℕ → Stage
ranks_stage zero b rs os = at-end b rs os
ranks_stage (suc n) b rs os = at_rank n b rs os

-- as many rows, then as many rank lines as rows, if they are expected
abbrev pub rows_stage : Bool → ℕ → ℕ → ℕ → List Row → Stage
rows_stage ranked zero b s rs = ranks_stage (pick ranked (length rs) 0) b rs []
rows_stage ranked (suc n) b s rs = at_field n b s rs []

-- ---- the line that is expected
abbrev pub expected : Stage → Expected
expected at_board = a_line (bytes "board=") (natural min_board max_board)
expected (at_tasks b) = a_line (bytes "tasks=") (natural min_tasks max_tasks)
expected (at_switch n b) = a_line (bytes "switch=") (natural min_switch max_switch)
expected (at_field n b s rs vs) = let l = row_line_at (length vs) in a_line l.key (natural l.low l.high)
expected (at_rank n b rs os) = a_line (bytes "rank=") (natural min_task max_task)
expected (at-end b rs os) = the_end

-- the refusal of a number in its range, 0 for none
abbrev pub fault : Stage → ℕ → ℕ
fault at_board v = 0
fault (at_tasks b) v = 0
fault (at_switch n b) v = 0
fault (at_field n b s rs vs) v = (row_line_at (length vs)).fault s rs vs v
fault (at_rank n b rs os) v = new_rank rs os v
fault (at-end b rs os) v = 0

-- what is to be read after a number; each row has the switch
abbrev pub after : Bool → Stage → ℕ → Stage
after ranked at_board v = at_tasks v
after ranked (at_tasks b) v = at_switch v b
after ranked (at_switch n b) v = rows_stage ranked n b v []
after ranked (at_field n b s rs vs) v =
    let more = vs ++ (v ∷ []) in
    pick (is_whole more)
    (rows_stage ranked n b s (rs ++ (row_of s more ∷ [])))
    (at_field n b s rs more)
after ranked (at_rank n b rs os) v = ranks_stage n b rs (os ++ (v ∷ []))
after ranked (at-end b rs os) v = at-end b rs os

-- a table as the planner takes it, or with rank lines as the reviewer does
abbrev pub table : Bool → Grammar Stage
table ranked = record {
  expected = expected;
  fault = λ s z. fault s (size z);
  after = λ s z. after ranked s (size z);
}

-- ---- what a text is read as
-- a refusal with its line, or the table: its board, its rows, and the order of its rank lines
pub record TableRead : Type 0 where
  pub refused : ℕ
  pub line : ℕ
  pub board : ℕ
  pub rows : List Row
  pub order : List ℕ

abbrev pub turned_down : ℕ → ℕ → TableRead
turned_down n k = record { refused = n; line = k; board = 0; rows = []; order = [] }

abbrev pub table_of : ℕ → List Row → List ℕ → TableRead
table_of b rs os = record { refused = 0; line = 0; board = b; rows = rs; order = os }

-- a text is accepted only at the end of a table
abbrev pub table_at : Stage → TableRead
table_at at_board = turned_down 0 0
table_at (at_tasks b) = turned_down 0 0
table_at (at_switch n b) = turned_down 0 0
table_at (at_field n b s rs vs) = turned_down 0 0
table_at (at_rank n b rs os) = turned_down 0 0
table_at (at-end b rs os) = table_of b rs os

abbrev pub on_verdict : Verdict Stage → TableRead
on_verdict (accepted s) = table_at s
on_verdict (refused n k) = turned_down n k

unfoldable pub read_table : Bool → List ℕ → TableRead
read_table ranked text = on_verdict (read (table ranked) at_board text)
