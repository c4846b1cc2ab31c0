-- What is claimed of the figures: they are those of the published formulas (demand 2), W by equation 4 of document 002;
-- the rows above and below count as sets, those below by their blocking time alone; a busy interval always ends; a task
-- is stable by its own curve, or by its line where it has none; a deadline counts for its own task alone, and where it
-- is the period W is that of one job; the switch counts beside each `worst` and nowhere else, and W never falls when it
-- grows; where it is 0 and the deadline the period they are those before the switch, and where no job may hold the
-- processor past a tick either, document 01's.
use Rattle.std.specs.Prelude.{◌≡◌, true, false, ◌⊎◌, ℕ, suc, ◌+◌, ◌-◌, ◌*◌, ◌≤◌, ◌<◌, eqb, length, pos, ◌-ℤ◌}
use mathlib.Core.List.{List, [], map, Perm}
use Rattle.basics.specs.Basics.{pick}
use Rattle.curves.specs.Curves.{whole, permitted, last_delay, curve_margin}
use Rattle.curves.specs.Claims.{AtMost, Permits, Margined}
use Rattle.rows.specs.Rows.{max_ticks, cost, row_at, with_deadline, with_switch, with_curve, OneSwitch}
use Rattle.rows.specs.Rows.{in_range, times_in_range, all_rows}
use Rattle.rows.specs.Rows.{Row}
use Rattle.rows.specs.Numbers.{field_count, rows_of, row_in}
use Rattle.responses.specs.declared.Load.{Load}
use Rattle.responses.specs.Interference.{load, ceiling, least_fixed, largest_fixed}
use Rattle.responses.specs.BusyIntervals.{jobs_in, latest_within}
use Rattle.responses.specs.Figures.{rows_above, rows_below, worst_load, best_load}
use Rattle.responses.specs.Figures.{worst_in, best_in, blocking, finish_of, latest, is_late}
use Rattle.responses.specs.Figures.{may_hold, earliest, jitter}
use Rattle.responses.specs.Figures.{margin, is_stable, in_limits, Answered, no_figures, figures_of}

-- k is a / p rounded up: the fewest periods that cover a
pub record RoundsUp (a p k : ℕ) : Type 0 where
  pub covers : a ≤ k * p
  pub fewest : (j : ℕ) → a ≤ j * p → k ≤ j

-- b is the largest hold of some rows less 1, or 0: none is more than a tick above it, and where it is not 0, one is
-- just that
pub record Blocks (rows : List Row) (b : ℕ) : Type 0 where
  pub covers : (i : ℕ) → i < length rows → (row_at rows i).hold ≤ b + 1
  pub reached : 1 ≤ b → (i : ℕ) × (i < length rows) × ((row_at rows i).hold ≡ b + 1)

-- ---- W by equation 4, where the first q + 1 jobs are done in w q ticks
-- the busy interval has the jobs from 0 to the last, which is the first that is done when the next is released; each has
-- its w, and W is the longest of their responses
pub record Equation4 (w : ℕ → ℕ) (period W last : ℕ) : Type 0 where
  pub found : (q : ℕ) → q ≤ last → 1 ≤ w q
  pub goes_on : (q : ℕ) → q < last → suc q * period < w q
  pub ends : w last ≤ suc last * period
  pub reached : (q : ℕ) × (q ≤ last) × (w q ≡ W + q * period)
  pub none_longer : (q : ℕ) → q ≤ last → w q ≤ W + q * period

-- a job of it has no w: the interval goes on to job q, and that is not found
pub record NotFound (w : ℕ → ℕ) (period q : ℕ) : Type 0 where
  pub goes_on : (j : ℕ) → j < q → suc j * period < w j
  pub none : w q ≡ 0

-- the figures of a task are those of the formulas
pub record Figured (t : Row) (above below : List Row) : Type 0 where
  -- the rows below block it for the largest hold among them less 1, or not at all
  pub blocked : Blocks below (blocking below)
  -- each w(q) solves its equation up to 1,000,000, and is the least that does; 0 where there is none
  pub finish_fixed :
      (q : ℕ) → let w = finish_of t above below q in
      1 ≤ w → (w ≡ suc q * cost t + blocking below + worst_in w above) × (w ≤ max_ticks)
  pub finish_least :
      (q w : ℕ) → 1 ≤ w → w ≡ suc q * cost t + blocking below + worst_in w above → w ≤ max_ticks
      → (1 ≤ finish_of t above below q) × (finish_of t above below q ≤ w)
  -- a task that is not late has its W by equation 4, within its deadline; and one that has such a W is not late
  pub latest_is :
      is_late t above below ≡ false
      → (last : ℕ) × Equation4 (finish_of t above below) t.period (latest t above below) last
      × (latest t above below ≤ t.deadline)
  pub latest_if :
      (W last : ℕ) → Equation4 (finish_of t above below) t.period W last → W ≤ t.deadline
      → (is_late t above below ≡ false) × (latest t above below ≡ W)
  -- it is late exactly where its W is above its deadline, or a job of its busy interval is not found
  pub late_is :
      is_late t above below ≡ true
      → ((W : ℕ) × (last : ℕ) × Equation4 (finish_of t above below) t.period W last × (t.deadline < W))
      ⊎ ((q : ℕ) × NotFound (finish_of t above below) t.period q)
  pub late_past :
      (W last : ℕ) → Equation4 (finish_of t above below) t.period W last → t.deadline < W
      → is_late t above below ≡ true
  pub late_not_found : (q : ℕ) → NotFound (finish_of t above below) t.period q → is_late t above below ≡ true
  -- E of a task that holds the processor for no more than a tick solves its equation from 1 to W, and is the largest
  -- that does
  pub earliest_fixed :
      t.hold ≤ 1 → is_late t above below ≡ false
      → let e = earliest t above below in
      (e ≡ t.best + best_in e above) × (1 ≤ e) × (e ≤ latest t above below)
  pub earliest_largest :
      (e : ℕ) → t.hold ≤ 1 → is_late t above below ≡ false
      → 1 ≤ e → e ≤ latest t above below → e ≡ t.best + best_in e above
      → e ≤ earliest t above below
  -- that of any other is its best time
  pub earliest_held : 2 ≤ t.hold → earliest t above below ≡ t.best
  pub jitter_is :
      is_late t above below ≡ false → earliest t above below + jitter t above below ≡ latest t above below

-- ---- a busy interval always ends. It has as many jobs as periods begin in the time of its last job but one, so many
-- only where the period is short; and no more than those of the first window that has room for all that it brings, so
-- where the load leaves such a window early, few
abbrev pub Divides : ℕ → ℕ → Type 0
Divides p x = (k : ℕ) × (x ≡ k * p)

pub record Ends (t : Row) (above below : List Row) : Type 0 where
  pub jobs_some : 1 ≤ jobs_in (finish_of t above below) t.period
  pub jobs_few : (jobs_in (finish_of t above below) t.period - 1) * t.period < max_ticks
  -- the window x is filled by what it brings of the task and those above, blocked once
  pub by_window :
      (x : ℕ) → 1 ≤ x → x ≤ max_ticks
      → ceiling x t.period * cost t + blocking below + worst_in x above ≤ x
      → jobs_in (finish_of t above below) t.period ≤ ceiling x t.period
  -- and where the load is above 1, a multiple of all periods bringing more than it has room for, the task is late
  pub overloaded :
      (x : ℕ) → 1 ≤ x → Divides t.period x → ((i : ℕ) → i < length above → Divides (row_at above i).period x)
      → x < ceiling x t.period * cost t + worst_in x above
      → is_late t above below ≡ true

-- two lists of rows above, and two of rows below, give a task the same figures
pub record SameFigures (t : Row) (above above' below below' : List Row) : Type 0 where
  pub latest-same : latest t above below ≡ latest t above' below'
  pub earliest_same : earliest t above below ≡ earliest t above' below'
  pub jitter_same : jitter t above below ≡ jitter t above' below'
  pub margin_same : margin t above below ≡ margin t above' below'
  pub late_same : is_late t above below ≡ is_late t above' below'
  pub stable_same : is_stable t above below ≡ is_stable t above' below'

-- the figures depend on which rows are above and which below, and not on their sequence
abbrev pub BySet : Type 0
BySet =
    (t : Row) (above above' below below' : List Row) → Perm above above' → Perm below below'
    → SameFigures t above above' below below'

-- the rows below count by their blocking time alone
abbrev pub ByBlocking : Type 0
ByBlocking =
    (t : Row) (above below below' : List Row) → blocking below ≡ blocking below'
    → SameFigures t above above below below'

-- ---- stable or not
-- what the line takes: beta less this is the margin
abbrev pub spent : Row → List Row → List Row → ℕ
spent t above below = 1000 * earliest t above below + t.alpha * jitter t above below

-- by its line: document 01's condition
pub record ByLine (t : Row) (above below : List Row) : Type 0 where
  pub margin_is : margin t above below ≡ pos t.beta -ℤ pos (spent t above below)
  pub stable_only :
      is_stable t above below ≡ true → (is_late t above below ≡ false) × (spent t above below ≤ t.beta)
  pub stable_if : is_late t above below ≡ false → spent t above below ≤ t.beta → is_stable t above below ≡ true

-- by its curve: E is at or below the last delay, and the jitter at or below what is permitted at E, as fractions and
-- not by the rounded margin
pub record ByCurve (t : Row) (above below : List Row) : Type 0 where
  pub permits : Permits t.curve
  pub margin_is : margin t above below ≡ curve_margin t.curve (latest t above below) (earliest t above below)
  pub margined : Margined t.curve (latest t above below) (earliest t above below)
  pub stable_only :
      is_stable t above below ≡ true
      → (is_late t above below ≡ false) × (earliest t above below ≤ last_delay t.curve)
      × AtMost (whole (jitter t above below)) (permitted t.curve (earliest t above below))
  pub stable_if :
      is_late t above below ≡ false → earliest t above below ≤ last_delay t.curve
      → AtMost (whole (jitter t above below)) (permitted t.curve (earliest t above below))
      → is_stable t above below ≡ true

-- with no points its line holds, and its curve otherwise
pub record ByCondition (t : Row) (above below : List Row) : Type 0 where
  pub by_line : length t.curve ≡ 0 → ByLine t above below
  pub by_curve : 1 ≤ length t.curve → ByCurve t above below

-- a curve counts for its own task alone, and for nothing of it but margin and stable
abbrev pub uncurved : List Row → List Row
uncurved rows = map (with_curve []) rows

pub record CurveCounts (t : Row) (above below : List Row) : Type 0 where
  pub others : SameFigures t above (uncurved above) below (uncurved below)
  pub latest-same : latest t above below ≡ latest (with_curve [] t) above below
  pub earliest_same : earliest t above below ≡ earliest (with_curve [] t) above below
  pub late_same : is_late t above below ≡ is_late (with_curve [] t) above below

abbrev pub OwnCurve : Type 0
OwnCurve = (t : Row) (above below : List Row) → CurveCounts t above below

-- ---- W and E by the numbers of the rows: the switch stands beside each `worst`, and nowhere else
abbrev pub switched_load : Row → Load
switched_load r = load r.period (r.worst + r.switch)

abbrev pub shortest_load : Row → Load
shortest_load r = load r.period r.best

pub record ByNumbers (t : Row) (above below : List Row) : Type 0 where
  pub latest_by :
      let w : ℕ → ℕ = λ q. least_fixed (suc q * (t.worst + t.switch) + blocking below) max_ticks
      (map switched_load above) in
      latest t above below ≡ latest_within w t.period t.deadline
  pub earliest_by :
      earliest t above below
      ≡ pick (may_hold t) t.best
      (largest_fixed t.best (latest t above below) (map shortest_load above))

-- ---- a deadline counts for its own task alone, and of that for nothing but late: a longer one leaves what is not late
-- as it is
abbrev pub due_in : ℕ → List Row → List Row
due_in d rows = map (with_deadline d) rows

pub record DeadlineCounts (t : Row) (above below : List Row) (d : ℕ) : Type 0 where
  pub others : SameFigures t above (due_in d above) below (due_in d below)
  pub same_after :
      is_late t above below ≡ false → t.deadline ≤ d
      → (is_late (with_deadline d t) above below ≡ false)
      × (latest (with_deadline d t) above below ≡ latest t above below)
      × (earliest (with_deadline d t) above below ≡ earliest t above below)
      × (margin (with_deadline d t) above below ≡ margin t above below)

abbrev pub OwnDeadline : Type 0
OwnDeadline = (t : Row) (above below : List Row) (d : ℕ) → times_in_range t ≡ true → DeadlineCounts t above below d

-- ---- where the deadline is the period, one job decides: the figures as request 4 has them
pub record AsRequest4 (t : Row) (above below : List Row) : Type 0 where
  pub latest_then :
      latest t above below ≡ least_fixed (cost t + blocking below) t.period (map worst_load above)
  pub late_then :
      is_late t above below ≡ eqb (least_fixed (cost t + blocking below) t.period (map worst_load above)) 0
  pub earliest_then :
      earliest t above below
      ≡ pick (may_hold t) t.best (largest_fixed t.best (latest t above below) (map best_load above))

abbrev pub WithinPeriod : Type 0
WithinPeriod =
    (t : Row) (above below : List Row) → times_in_range t ≡ true → t.deadline ≡ t.period → AsRequest4 t above below

-- ---- where a switch costs nothing either: the figures as request 2 has them
abbrev pub plain_load : Row → Load
plain_load r = load r.period r.worst

pub record AsRequest2 (t : Row) (above below : List Row) : Type 0 where
  pub latest_then : latest t above below ≡ least_fixed (t.worst + blocking below) t.period (map plain_load above)
  pub earliest_then :
      earliest t above below
      ≡ pick (may_hold t) t.best (largest_fixed t.best (latest t above below) (map shortest_load above))

abbrev pub NoSwitch : List Row → Type 0
NoSwitch rows = OneSwitch 0 rows

abbrev pub WithoutSwitch : Type 0
WithoutSwitch =
    (t : Row) (above below : List Row) → times_in_range t ≡ true → t.deadline ≡ t.period
    → t.switch ≡ 0 → NoSwitch above → AsRequest2 t above below

-- ---- document 01's figures: no task is delayed by those below it, and E is that of its equation for every task
pub record AsDocument01 (t : Row) (above below : List Row) : Type 0 where
  pub latest_then : latest t above below ≡ least_fixed t.worst t.period (map plain_load above)
  pub earliest_then :
      earliest t above below ≡ largest_fixed t.best (latest t above below) (map shortest_load above)

-- no job of some rows may hold the processor past a tick
abbrev pub NoneHolds : List Row → Type 0
NoneHolds rows = (i : ℕ) → i < length rows → (row_at rows i).hold ≤ 1

-- where neither a hold nor a switch counts, and the deadline is the period, they are these
abbrev pub WithoutEither : Type 0
WithoutEither =
    (t : Row) (above below : List Row) → times_in_range t ≡ true → t.deadline ≡ t.period
    → t.switch ≡ 0 → NoSwitch above → t.hold ≤ 1 → NoneHolds below → AsDocument01 t above below

-- ---- under a switch that is no less a late task stays late; of one that is not late there W does not fall and E is
-- the same, and where it is stable there, it is stable here
abbrev pub switched : ℕ → List Row → List Row
switched s rows = map (with_switch s) rows

pub record Grows (t : Row) (above below : List Row) (s : ℕ) : Type 0 where
  pub late_stays :
      is_late t above below ≡ true → is_late (with_switch s t) (switched s above) (switched s below) ≡ true
  pub latest_grows :
      is_late (with_switch s t) (switched s above) (switched s below) ≡ false
      → latest t above below ≤ latest (with_switch s t) (switched s above) (switched s below)
  pub earliest_stays :
      is_late (with_switch s t) (switched s above) (switched s below) ≡ false
      → earliest t above below ≡ earliest (with_switch s t) (switched s above) (switched s below)
  pub stable_before :
      is_stable (with_switch s t) (switched s above) (switched s below) ≡ true → is_stable t above below ≡ true

-- no row has a greater switch
abbrev pub SwitchUpTo : ℕ → List Row → Type 0
SwitchUpTo s rows = (i : ℕ) → i < length rows → (row_at rows i).switch ≤ s

abbrev pub SwitchGrows : Type 0
SwitchGrows =
    (t : Row) (above below : List Row) (s : ℕ) → in_range t ≡ true → all_rows times_in_range above ≡ true
    → t.switch ≤ s → SwitchUpTo s above → Grows t above below s

pub record Demand-2 : Type 0 where
  pub rounds_up : (a p : ℕ) → 1 ≤ p → RoundsUp a p (ceiling a p)
  pub figured :
      (t : Row) (above below : List Row)
      → times_in_range t ≡ true → all_rows times_in_range above ≡ true → Figured t above below
  pub ends :
      (t : Row) (above below : List Row)
      → times_in_range t ≡ true → all_rows times_in_range above ≡ true → Ends t above below
  pub by_numbers : (t : Row) (above below : List Row) → ByNumbers t above below
  pub own_deadline : OwnDeadline
  pub within_period : WithinPeriod
  pub without_switch : WithoutSwitch
  pub without_either : WithoutEither
  pub switch_grows : SwitchGrows
  pub by_condition : (t : Row) (above below : List Row) → in_range t ≡ true → ByCondition t above below
  pub own_curve : OwnCurve

-- ---- what a call that answers a row's figures promises
pub record FiguresSay (t : Row) (above below : List Row) (x : Answered) : Type 0 where
  pub answer : x ≡ figures_of t above below
  -- demand 2, of these very rows, each with its own switch
  pub by_formulas : in_limits t above below ≡ true → Figured t above below
  -- its busy interval ends, a deadline counts for nothing but late, and with the period as deadline one job decides
  pub ends : in_limits t above below ≡ true → Ends t above below
  pub own_deadline : in_limits t above below ≡ true → (d : ℕ) → DeadlineCounts t above below d
  pub within_period : in_limits t above below ≡ true → t.deadline ≡ t.period → AsRequest4 t above below
  pub by_condition : in_limits t above below ≡ true → ByCondition t above below
  pub by_numbers : ByNumbers t above below
  -- under a greater switch no W falls and no E changes
  pub switch_grows :
      in_limits t above below ≡ true → (s : ℕ) → t.switch ≤ s → SwitchUpTo s above → Grows t above below s
  -- not by the sequence of the rows
  pub any_sequence :
      (above' below' : List Row) → Perm above above' → Perm below below' → x ≡ figures_of t above' below'
  -- by the rows below, where these are as much in the limits, no more than their blocking time
  pub by_blocking :
      (below' : List Row) → blocking below ≡ blocking below' → in_limits t above below ≡ in_limits t above below'
      → x ≡ figures_of t above below'

-- and one that takes the rows of an order as numbers, highest first: the figures of row i of n; where the numbers hold
-- no such row, none
pub record RowFigures (ns : List ℕ) (n i : ℕ) (x : Answered) : Type 0 where
  pub held :
      field_count * n ≤ length ns → i < n
      → FiguresSay (row_in ns i) (rows_above (rows_of n ns) i) (rows_below (rows_of n ns) i) x
  pub not_held : length ns < field_count * n → x ≡ no_figures
  pub no_such_row : n ≤ i → x ≡ no_figures
