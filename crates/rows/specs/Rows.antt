-- A task's row: the limits of its numbers, each once and by name, and rows in range.
use Rattle.std.specs.Prelude.{◌≡◌, Bool, true, false, ◌&&◌, List, [], ◌∷◌, ℕ, suc, ◌+◌, ◌*◌, ◌<◌, eqb, leb, length, get_or, drop}
use Rattle.basics.specs.Basics.{within, is_in, distinct}
use Rattle.curves.specs.Curves.{Point, points_from, well_formed}

-- task numbers
abbrev pub min_task : ℕ
min_task = 1

abbrev pub max_task : ℕ
max_task = 65535

-- period, deadline, worst and best, in ticks
abbrev pub min_ticks : ℕ
min_ticks = 1

abbrev pub max_ticks : ℕ
max_ticks = 1000000

-- alpha, in thousandths
abbrev pub min_alpha : ℕ
min_alpha = 1000

abbrev pub max_alpha : ℕ
max_alpha = 100000

-- beta, in thousandths of a tick
abbrev pub min_beta : ℕ
min_beta = 0

abbrev pub max_beta : ℕ
max_beta = 200000000000

-- hold, in ticks
abbrev pub min_hold : ℕ
min_hold = 0

abbrev pub max_hold : ℕ
max_hold = 1000000

-- the most ticks that a board spends when a job first gets the processor
abbrev pub min_switch : ℕ
min_switch = 0

abbrev pub max_switch : ℕ
max_switch = 1000

-- the rows of a table; the code's MAX_TASKS is the same
abbrev pub min_tasks : ℕ
min_tasks = 1

abbrev pub max_tasks : ℕ
max_tasks = 16

-- the bytes of a program's buffer at most, 64 KiB
abbrev pub max_buffer : ℕ
max_buffer = 65536

-- ---- a task's row. Times are in ticks, alpha in thousandths, beta in thousandths of a tick. A job of it may keep the
-- processor for a stretch of at most `hold` ticks, and its board spends `switch` ticks when it first gets it. Where it
-- has a curve, that is its stability condition, and else the line of alpha and beta
pub record Row : Type 0 where
  pub task : ℕ
  pub period : ℕ
  pub deadline : ℕ
  pub worst : ℕ
  pub best : ℕ
  pub alpha : ℕ
  pub beta : ℕ
  pub hold : ℕ
  pub switch : ℕ
  pub curve : List Point

-- a row of nine numbers, those of its lines and the switch of its table, with a curve and without one; what stands
-- past the rows that count
abbrev pub row_with : List Point → ℕ → ℕ → ℕ → ℕ → ℕ → ℕ → ℕ → ℕ → ℕ → Row
row_with c t p d w b a e h s = record {
  task = t;
  period = p;
  deadline = d;
  worst = w;
  best = b;
  alpha = a;
  beta = e;
  hold = h;
  switch = s;
  curve = c;
}

abbrev pub row : ℕ → ℕ → ℕ → ℕ → ℕ → ℕ → ℕ → ℕ → ℕ → Row
row = row_with []

abbrev pub no_row : Row
no_row = row 0 0 0 0 0 0 0 0 0

-- ---- a row as the numbers of its lines: where each stands among them
abbrev pub task_at : ℕ
task_at = 0

abbrev pub period_at : ℕ
period_at = 1

abbrev pub deadline_at : ℕ
deadline_at = 2

abbrev pub worst_at : ℕ
worst_at = 3

abbrev pub best_at : ℕ
best_at = 4

abbrev pub alpha_at : ℕ
alpha_at = 5

abbrev pub beta_at : ℕ
beta_at = 6

abbrev pub hold_at : ℕ
hold_at = 7

-- how many points its curve has; behind it each point's delay and its allow
abbrev pub points_at : ℕ
points_at = 8

abbrev pub first_point_at : ℕ
first_point_at = suc points_at

-- how many lines a row of so many points has
abbrev pub lines_for : ℕ → ℕ
lines_for points = first_point_at + 2 * points

-- the row that the numbers of its lines make, under a switch
abbrev pub row_of : ℕ → List ℕ → Row
row_of s vs =
    row_with (points_from (get_or vs points_at 0) (drop first_point_at vs))
    (get_or vs task_at 0) (get_or vs period_at 0) (get_or vs deadline_at 0) (get_or vs worst_at 0) (get_or vs best_at 0)
    (get_or vs alpha_at 0) (get_or vs beta_at 0) (get_or vs hold_at 0) s

-- a row with another deadline, under another switch, and with another curve
abbrev pub with_deadline : ℕ → Row → Row
with_deadline d r =
    row_with r.curve r.task r.period d r.worst r.best r.alpha r.beta r.hold r.switch

abbrev pub with_switch : ℕ → Row → Row
with_switch s r =
    row_with r.curve r.task r.period r.deadline r.worst r.best r.alpha r.beta r.hold s

abbrev pub with_curve : List Point → Row → Row
with_curve c r =
    row_with c r.task r.period r.deadline r.worst r.best r.alpha r.beta r.hold r.switch

-- ---- some rows
-- row i of a table
abbrev pub row_at : List Row → ℕ → Row
row_at table i = get_or table i no_row

-- every row has the switch
abbrev pub OneSwitch : ℕ → List Row → Type 0
OneSwitch s rows = (i : ℕ) → i < length rows → (row_at rows i).switch ≡ s

-- the most ticks that a job takes: its worst-case execution time, and the switch to it
abbrev pub full_cost : ℕ → ℕ → ℕ
full_cost worst switch = worst + switch

unfoldable pub cost : Row → ℕ
cost r = full_cost r.worst r.switch

-- each number is within its limits, cost ≤ period, best ≤ worst, and hold ≤ worst
abbrev pub numbers_in_range : Row → Bool
numbers_in_range r =
    within min_task max_task r.task
    && within min_ticks max_ticks r.period
    && within min_ticks max_ticks r.deadline
    && within min_ticks max_ticks r.worst
    && within min_ticks max_ticks r.best
    && within min_alpha max_alpha r.alpha
    && within min_beta max_beta r.beta
    && within min_hold max_hold r.hold
    && within min_switch max_switch r.switch
    && leb (cost r) r.period
    && leb r.best r.worst
    && leb r.hold r.worst

-- and its curve is well formed
abbrev pub in_range : Row → Bool
in_range r = numbers_in_range r && well_formed r.curve

-- the times alone: 1 ≤ best ≤ cost ≤ period, and the period within its limit
abbrev pub times_in_range : Row → Bool
times_in_range r =
    leb min_ticks r.best
    && leb r.best (cost r)
    && leb (cost r) r.period
    && leb r.period max_ticks

-- every row passes
abbrev pub all_rows : (Row → Bool) → List Row → Bool
all_rows f [] = true
all_rows f (r ∷ rs) = f r && all_rows f rs

-- the task numbers of some rows
abbrev pub tasks_of : List Row → List ℕ
tasks_of [] = []
tasks_of (r ∷ rs) = r.task ∷ tasks_of rs

abbrev pub has_task : ℕ → List Row → Bool
has_task t rs = is_in t (tasks_of rs)

-- no task number twice
abbrev pub distinct_rows : List Row → Bool
distinct_rows rs = distinct (tasks_of rs)

-- where a number first stands in a list, counted from 0; as many as the list has where it does not
abbrev pub position_of : ℕ → List ℕ → ℕ
position_of x [] = 0
position_of x (y ∷ ys) = elim (eqb x y) [ true ↦ 0 | false ↦ suc (position_of x ys) ]

-- the row of a task number; the rows of some
abbrev pub row_for : ℕ → List Row → Row
row_for t [] = no_row
row_for t (r ∷ rs) = elim (eqb t r.task) [ true ↦ r | false ↦ row_for t rs ]

abbrev pub rows_for : List ℕ → List Row → List Row
rows_for [] rs = []
rows_for (t ∷ ts) rs = row_for t rs ∷ rows_for ts rs

-- an order as task numbers is possible: each task of the table once and nothing else
abbrev pub all_tasks : List ℕ → List Row → Bool
all_tasks [] rs = true
all_tasks (t ∷ ts) rs = has_task t rs && all_tasks ts rs

abbrev pub is_possible : List ℕ → List Row → Bool
is_possible ts rs = eqb (length ts) (length rs) && distinct ts && all_tasks ts rs
