-- The figures of a task between the rows above it and the rows below it.
use Rattle.std.specs.Prelude.{Bool, ◌&&◌, not, List, [], ◌∷◌, map, ℕ, suc, ◌+◌, ◌-◌, ◌*◌, eqb, leb, ℤ, pos, length, take, drop, Result, Ok, Err}
use Rattle.std.proofs.Math.IntN.{sub_ℕ}
use Rattle.std.specs.Int.Signed.{le_z}
use Rattle.basics.specs.Basics.{pick, larger}
use Rattle.curves.specs.Curves.{Point, curve_margin}
use Rattle.rows.specs.Rows.{max_tasks, max_ticks, cost, in_range, all_rows}
use Rattle.rows.specs.Rows.{Row}
use Rattle.responses.specs.declared.Figures.{Figures}
use Rattle.responses.specs.declared.NoFigures.{NoFigures}
use Rattle.responses.specs.declared.NoFigures.TheVariants as N
use Rattle.responses.specs.declared.Load.{Load}
use Rattle.responses.specs.Interference.{load, interference, least_fixed, largest_fixed}
use Rattle.responses.specs.BusyIntervals.{latest_within}

-- the rows above row i of an order and those below it, all highest first
abbrev pub rows_above : List Row → ℕ → List Row
rows_above order i = take i order

abbrev pub rows_below : List Row → ℕ → List Row
rows_below order i = drop (suc i) order

-- what a row above takes at most and at least
abbrev pub worst_load : Row → Load
worst_load r = load r.period (cost r)

abbrev pub best_load : Row → Load
best_load r = load r.period r.best

-- the interference of W's equation, and that of E's
abbrev pub worst_in : ℕ → List Row → ℕ
worst_in x above = interference 0 x (map worst_load above)

abbrev pub best_in : ℕ → List Row → ℕ
best_in x above = interference 1 x (map best_load above)

-- the largest hold among some rows
abbrev pub largest_hold : List Row → ℕ
largest_hold [] = 0
largest_hold (r ∷ rs) = larger r.hold (largest_hold rs)

-- the ticks for which jobs of the rows below may delay a task (its blocking time): one stretch, less its first tick,
-- which fell to the stretch's job by rank
unfoldable pub blocking : List Row → ℕ
blocking below = largest_hold below - 1

-- w(q): the time in which the first q + 1 jobs of a busy interval are done, blocked once and with all jobs above that
-- are released in it; 0 where there is none up to 1,000,000
abbrev pub finish_of : Row → List Row → List Row → ℕ → ℕ
finish_of t above below q = least_fixed (suc q * cost t + blocking below) max_ticks (map worst_load above)

-- W, the worst-case response time; 0 where the task is late
abbrev pub latest : Row → List Row → List Row → ℕ
latest t above below = latest_within (finish_of t above below) t.period t.deadline

-- late: misses its deadline, or a job of its busy interval is not found
abbrev pub is_late : Row → List Row → List Row → Bool
is_late t above below = eqb (latest t above below) 0

-- whether jobs of a row may keep the processor past the tick that falls to them by rank: a hold of 1 is that tick alone
abbrev pub least_hold : ℕ
least_hold = 2

abbrev pub may_hold : Row → Bool
may_hold r = leb least_hold r.hold

-- E, the best-case response time of a task that is not late; at most W. In a stretch of its own no task above counts
abbrev pub earliest : Row → List Row → List Row → ℕ
earliest t above below =
    pick (may_hold t) t.best (largest_fixed t.best (latest t above below) (map best_load above))

abbrev pub jitter : Row → List Row → List Row → ℕ
jitter t above below = latest t above below - earliest t above below

-- how far responses w and e are inside the stability line of alpha and beta (the linear stability condition)
abbrev pub line_margin : ℕ → ℕ → ℕ → ℕ → ℤ
line_margin alpha beta w e = sub_ℕ beta (1000 * e + alpha * (w - e))

-- inside a curve, or with no points the line
abbrev pub margin_by : List Point → ℕ → ℕ → ℕ → ℕ → ℤ
margin_by [] alpha beta w e = line_margin alpha beta w e
margin_by (p ∷ ps) alpha beta w e = curve_margin (p ∷ ps) w e

-- inside the stability condition of a task
abbrev pub margin_at : Row → ℕ → ℕ → ℤ
margin_at t w e = margin_by t.curve t.alpha t.beta w e

abbrev pub margin : Row → List Row → List Row → ℤ
margin t above below = margin_at t (latest t above below) (earliest t above below)

-- stable: not late, and the stability condition holds
abbrev pub is_stable : Row → List Row → List Row → Bool
is_stable t above below = not (is_late t above below) && le_z (pos 0) (margin t above below)

-- ---- a row's figures as one answer: of rows out of the limits or too many, none; of a late row, that alone
abbrev pub Answered : Type 0
Answered = Result Figures NoFigures

abbrev pub no_figures : Answered
no_figures = Err N.OutOfLimits

abbrev pub late_figures : Answered
late_figures = Err N.Late

-- the figures of responses w and e with margin m
abbrev pub figures_at : ℕ → ℕ → ℤ → Answered
figures_at w e m = Ok record {
  worst = w;
  best = e;
  jitter = w - e;
  margin = m;
  stable = le_z (pos 0) m;
}

-- the figures of a row in range between rows in range
abbrev pub figures_under : Row → List Row → List Row → Answered
figures_under t above below =
    pick (is_late t above below) late_figures
    (figures_at (latest t above below) (earliest t above below) (margin t above below))

-- the most rows beside a row of a table
abbrev pub max_others : ℕ
max_others = max_tasks - 1

-- a row and the rows above and below it are in the limits of a table: each in range, and no more than it can have
abbrev pub in_limits : Row → List Row → List Row → Bool
in_limits t above below =
    in_range t && (all_rows in_range above && (all_rows in_range below && leb (length above + length below) max_others))

-- the answer for any rows
abbrev pub figures_of : Row → List Row → List Row → Answered
figures_of t above below = pick (in_limits t above below) (figures_under t above below) no_figures
