-- Document 01's starred cases, each row with its period as deadline, a hold of 0 and no points under a switch of 0, in
-- one list under one proposition about the definitions; its other cases, as the programs print them; and cases of holds,
-- of the switch, of curves and of deadlines.
use Rattle.std.specs.Prelude.{◌≡◌, true, false, List, [], ◌∷◌, ◌++◌, ℕ, zero, suc, ℤ, pos, negsuc}
use Rattle.std.proofs.Math.Option.{Option, none, some}
use Prim.Native.String.{String}
use Rattle.text.specs.Text.{lined}
use Rattle.curves.specs.Curves.{Point, point}
use Rattle.rows.specs.Rows.{row, with_deadline, with_switch, with_curve, tasks_of}
use Rattle.rows.specs.Rows.{Row}
use Rattle.responses.specs.BusyIntervals.{jobs_in}
use Rattle.responses.specs.Figures.{finish_of, latest, is_late, earliest, jitter, margin}
use Rattle.responses.specs.Claims.{NoneHolds}
use Rattle.orders.specs.Stability.{chosen_order}
use Rattle.plans.specs.Plans.{plan_room}
use Rattle.plans.specs.Outcomes.{writes, refuses}
use Rattle.demands.specs.Calls.{planned, planner_prints, reviewer_prints}

-- a row under rows above it, over any rows that hold nothing, and its E, W, jitter and margin; a late row; a row
-- between rows above it and below it; such a row that is late; such a row and the w(q) of its busy interval in sequence;
-- a table's rows and the tasks of its order; a text and its whole plan; a text and its refusal; a text and what the
-- planner's or the reviewer's program prints
pub data Case : Type 0 where
  figures : Row → List Row → ℕ → ℕ → ℕ → ℤ → Case
  late : Row → List Row → Case
  between : Row → List Row → List Row → ℕ → ℕ → ℕ → ℤ → Case
  late_between : Row → List Row → List Row → Case
  busy : Row → List Row → List Row → List ℕ → Case
  order : List Row → List ℕ → Case
  plan : List ℕ → List ℕ → Case
  refusal : List ℕ → ℕ → ℕ → Case
  planner : List ℕ → List ℕ → Case
  reviewer : List ℕ → List ℕ → Case

abbrev pub tasks_in : Option (List Row) → Option (List ℕ)
tasks_in none = none
tasks_in (some os) = some (tasks_of os)

-- a row that is not late, and its figures
abbrev pub HasFigures : Row → List Row → List Row → ℕ → ℕ → ℕ → ℤ → Type 0
HasFigures t above below e w j m =
    (is_late t above below ≡ false)
    × (earliest t above below ≡ e)
    × (latest t above below ≡ w)
    × (jitter t above below ≡ j)
    × (margin t above below ≡ m)

-- the first n of some numbers
abbrev pub first_of : ℕ → (ℕ → ℕ) → List ℕ
first_of zero w = []
first_of (suc n) w = w 0 ∷ first_of n (λ q. w (suc q))

abbrev pub IsSo : Case → Type 0
IsSo (figures t above e w j m) = (below : List Row) → NoneHolds below → HasFigures t above below e w j m
IsSo (between t above below e w j m) = HasFigures t above below e w j m
IsSo (late_between t above below) = is_late t above below ≡ true
IsSo (busy t above below ws) =
    let w = finish_of t above below in
    first_of (jobs_in w t.period) w ≡ ws
IsSo (late t above) = (below : List Row) → NoneHolds below → is_late t above below ≡ true
IsSo (order rows tasks) = tasks_in (chosen_order rows) ≡ some tasks
IsSo (plan text output) = planned text plan_room ≡ writes output
IsSo (refusal text number place) = planned text plan_room ≡ refuses number place
IsSo (planner text output) = planner_prints text ≡ output
IsSo (reviewer text output) = reviewer_prints text ≡ output

abbrev pub AllSo : List Case → Type 0
AllSo [] = Unit {0}
AllSo (c ∷ cs) = IsSo c × AllSo cs

-- the paper's rows and table, with the betas of tasks 11, 12 and 13; the table also with the line of its switch
abbrev pub row11 : ℕ → Row
row11 beta = row 11 24 24 6 6 1000 beta 0 0

abbrev pub row12 : ℕ → Row
row12 beta = row 12 18 18 2 2 1000 beta 0 0

abbrev pub row13 : ℕ → Row
row13 beta = row 13 200 200 19 17 3000 beta 0 0

abbrev pub table_under : String → String → String → String → List ℕ
table_under switch beta11 beta12 beta13 = lined (
    "board=7" ∷ "tasks=3" ∷ switch
    ∷ "task=11" ∷ "period=24" ∷ "deadline=24" ∷ "worst=6" ∷ "best=6" ∷ "alpha=1000" ∷ beta11 ∷ "hold=0" ∷ "points=0"
    ∷ "task=12" ∷ "period=18" ∷ "deadline=18" ∷ "worst=2" ∷ "best=2" ∷ "alpha=1000" ∷ beta12 ∷ "hold=0" ∷ "points=0"
    ∷ "task=13" ∷ "period=200" ∷ "deadline=200" ∷ "worst=19" ∷ "best=17" ∷ "alpha=3000" ∷ beta13 ∷ "hold=0" ∷ "points=0"
    ∷ [])

abbrev pub table : String → String → String → List ℕ
table beta11 beta12 beta13 = table_under "switch=0" beta11 beta12 beta13

-- its plan, with the margin of task 13
abbrev pub plan_with : String → List ℕ
plan_with margin13 = lined (
    "plan=1" ∷ "board=7" ∷ "tasks=3"
    ∷ "rank=1" ∷ "task=12" ∷ "best=2" ∷ "worst=2" ∷ "jitter=0" ∷ "margin=6000"
    ∷ "rank=2" ∷ "task=11" ∷ "best=6" ∷ "worst=8" ∷ "jitter=2" ∷ "margin=0"
    ∷ "rank=3" ∷ "task=13" ∷ "best=25" ∷ "worst=35" ∷ "jitter=10" ∷ margin13
    ∷ [])

-- one task that always runs, with its worst time and its beta
abbrev pub alone : String → String → List ℕ
alone worst beta = lined (
    "board=7" ∷ "tasks=1" ∷ "switch=0"
    ∷ "task=1" ∷ "period=10" ∷ "deadline=10" ∷ worst ∷ "best=10" ∷ "alpha=1000" ∷ beta ∷ "hold=0" ∷ "points=0"
    ∷ [])

abbrev pub starred : List Case
starred =
    figures (row13 57000) [] 17 19 2 (pos 34000)
    ∷ figures (row13 57000) (row12 8000 ∷ []) 19 23 4 (pos 26000)
    ∷ figures (row13 57000) (row11 8000 ∷ []) 17 31 14 (negsuc 1999)
    ∷ figures (row13 57000) (row11 8000 ∷ row12 8000 ∷ []) 25 35 10 (pos 2000)
    ∷ late (row12 8000) (row13 57000 ∷ [])
    ∷ figures (row12 8000) (row11 8000 ∷ []) 2 8 6 (pos 0)
    ∷ order (row11 8000 ∷ row12 8000 ∷ row13 57000 ∷ []) (12 ∷ 11 ∷ 13 ∷ [])
    ∷ plan (table "beta=8000" "beta=8000" "beta=57000") (plan_with "margin=2000")
    ∷ plan (table "beta=8000" "beta=8000" "beta=55000") (plan_with "margin=0")
    ∷ refusal (table "beta=8000" "beta=8000" "beta=54999") 8 0
    ∷ order (row11 7999 ∷ row12 8000 ∷ row13 57000 ∷ []) (11 ∷ 12 ∷ 13 ∷ [])
    ∷ refusal (table "beta=7999" "beta=7999" "beta=57000") 8 0
    ∷ plan (alone "worst=10" "beta=10000")
    (lined ("plan=1" ∷ "board=7" ∷ "tasks=1" ∷ "rank=1" ∷ "task=1" ∷ "best=10" ∷ "worst=10" ∷ "jitter=0" ∷ "margin=0"
    ∷ []))
    ∷ refusal (alone "worst=10" "beta=9999") 8 0
    ∷ []

-- ---- the other cases; that worst = period passes is a starred one
-- the paper's task 13 under task 11
abbrev pub eleven_above : List ℕ
eleven_above = lined (
    "board=7" ∷ "tasks=2" ∷ "switch=0"
    ∷ "task=11" ∷ "period=24" ∷ "deadline=24" ∷ "worst=6" ∷ "best=6" ∷ "alpha=1000" ∷ "beta=8000" ∷ "hold=0" ∷ "points=0"
    ∷ "task=13" ∷ "period=200" ∷ "deadline=200" ∷ "worst=19" ∷ "best=17" ∷ "alpha=3000" ∷ "beta=57000" ∷ "hold=0"
    ∷ "points=0"
    ∷ "rank=11" ∷ "rank=13"
    ∷ [])

abbrev pub unstarred : List Case
unstarred =
    reviewer (table "beta=8000" "beta=8000" "beta=57000" ++ lined ("rank=11" ∷ "rank=13" ∷ "rank=12" ∷ []))
    (lined ("plan=0" ∷ "refusal=7" ∷ "line=3" ∷ []))
    ∷ planner (table "beta=8000" "beta=8000" "beta=57000") (plan_with "margin=2000")
    ∷ planner [] (lined ("plan=0" ∷ "refusal=1" ∷ "line=1" ∷ []))
    ∷ planner (lined ("board=07" ∷ [])) (lined ("plan=0" ∷ "refusal=2" ∷ "line=1" ∷ []))
    ∷ planner (lined ("board=7" ∷ "tasks=17" ∷ [])) (lined ("plan=0" ∷ "refusal=3" ∷ "line=2" ∷ []))
    ∷ planner (alone "worst=11" "beta=10000") (lined ("plan=0" ∷ "refusal=4" ∷ "line=7" ∷ []))
    ∷ reviewer eleven_above
    (lined (
    "plan=1" ∷ "board=7" ∷ "tasks=2"
    ∷ "rank=1" ∷ "task=11" ∷ "best=6" ∷ "worst=6" ∷ "jitter=0" ∷ "margin=2000"
    ∷ "rank=2" ∷ "task=13" ∷ "best=17" ∷ "worst=31" ∷ "jitter=14" ∷ "margin=-2000"
    ∷ []))
    ∷ []

-- ---- sixteen tasks are not too many: it is the line after them that is missing
abbrev pub of_tasks : List Case
of_tasks = planner (lined ("board=7" ∷ "tasks=16" ∷ [])) (lined ("plan=0" ∷ "refusal=1" ∷ "line=3" ∷ [])) ∷ []

-- ---- holds
-- the paper's task 13 with a hold
abbrev pub holding13 : ℕ → Row
holding13 hold = row 13 200 200 19 17 3000 57000 hold 0

-- a short loop over a long one that may hold the bus for 3 ticks, with the beta of the first and the line of its hold
abbrev pub bus : String → String → List ℕ
bus beta hold = lined (
    "board=7" ∷ "tasks=2" ∷ "switch=0"
    ∷ "task=1" ∷ "period=10" ∷ "deadline=10" ∷ "worst=2" ∷ "best=2" ∷ "alpha=1000" ∷ beta ∷ "hold=0" ∷ "points=0"
    ∷ "task=2" ∷ "period=20" ∷ "deadline=20" ∷ "worst=5" ∷ "best=3" ∷ "alpha=1000" ∷ "beta=20000" ∷ hold ∷ "points=0"
    ∷ [])

abbrev pub of_holds : List Case
of_holds =
    -- the largest hold below less 1; a hold of 1 blocks nobody, nor does one above or the task's own
    between (row11 8000) (row12 8000 ∷ []) (holding13 5 ∷ []) 6 12 6 (negsuc 3999)
    ∷ between (row11 8000) (row12 8000 ∷ []) (holding13 1 ∷ []) 6 8 2 (pos 0)
    ∷ between (row11 8000) (row 12 18 18 2 2 1000 8000 2 0 ∷ []) [] 6 8 2 (pos 0)
    ∷ between (holding13 1) (row11 8000 ∷ row12 8000 ∷ []) [] 25 35 10 (pos 2000)
    -- a task that may hold for 2 ticks has its best as E
    ∷ between (holding13 2) (row11 8000 ∷ row12 8000 ∷ []) [] 17 35 18 (negsuc 13999)
    -- the task above needs 4000 of beta: with 6000 its margin is 2000, and with 3999 no order is left
    ∷ plan (bus "beta=6000" "hold=3")
    (lined (
    "plan=1" ∷ "board=7" ∷ "tasks=2"
    ∷ "rank=1" ∷ "task=1" ∷ "best=2" ∷ "worst=4" ∷ "jitter=2" ∷ "margin=2000"
    ∷ "rank=2" ∷ "task=2" ∷ "best=3" ∷ "worst=7" ∷ "jitter=4" ∷ "margin=13000"
    ∷ []))
    ∷ refusal (bus "beta=3999" "hold=3") 8 0
    ∷ refusal (bus "beta=6000" "hold=6") 4 20
    ∷ refusal (bus "beta=6000" "rank=1") 1 20
    ∷ []

-- ---- the switch
-- one task with a period of 10, with the lines before it, its worst, its best and its hold, and no points
abbrev pub alone_under : List String → String → String → String → List ℕ
alone_under head worst best hold =
    lined head
    ++ lined (
    "task=1" ∷ "period=10" ∷ "deadline=10" ∷ worst ∷ best ∷ "alpha=1000" ∷ "beta=10000" ∷ hold ∷ "points=0" ∷ [])

-- under a switch, by its line
abbrev pub one_under : String → String → String → String → List ℕ
one_under switch worst best hold = alone_under ("board=7" ∷ "tasks=1" ∷ switch ∷ []) worst best hold

abbrev pub refused_at : String → String → List ℕ
refused_at number line = lined ("plan=0" ∷ number ∷ line ∷ [])

abbrev pub of_switch : List Case
of_switch =
    -- once for the task's own job, once for each job above, in W; in no E
    figures (with_switch 5 (row13 57000)) [] 17 24 7 (pos 19000)
    ∷ figures (with_switch 1 (row13 57000)) (with_switch 1 (row12 8000) ∷ []) 19 26 7 (pos 17000)
    ∷ figures (with_switch 1 (row13 57000)) (with_switch 1 (row11 8000) ∷ with_switch 1 (row12 8000) ∷ []) 25 43 18
    (negsuc 21999)
    -- each row's own
    ∷ figures (with_switch 2 (row13 57000)) (row11 8000 ∷ with_switch 1 (row12 8000) ∷ []) 25 42 17 (negsuc 18999)
    -- not in the blocking time
    ∷ between (with_switch 1 (row11 8000)) (with_switch 1 (row12 8000) ∷ []) (with_switch 1 (holding13 5) ∷ []) 6 14 8
    (negsuc 5999)
    -- a task that fits its period can be late by it
    ∷ late (with_switch 6 (row12 8000)) (with_switch 6 (row11 8000) ∷ [])
    -- document 01's example has no order under a switch of 1; with greater betas it has
    ∷ refusal (table_under "switch=1" "beta=8000" "beta=8000" "beta=57000") 8 0
    ∷ plan (table_under "switch=1" "beta=10000" "beta=10000" "beta=79000")
    (lined (
    "plan=1" ∷ "board=7" ∷ "tasks=3"
    ∷ "rank=1" ∷ "task=12" ∷ "best=2" ∷ "worst=3" ∷ "jitter=1" ∷ "margin=7000"
    ∷ "rank=2" ∷ "task=11" ∷ "best=6" ∷ "worst=10" ∷ "jitter=4" ∷ "margin=0"
    ∷ "rank=3" ∷ "task=13" ∷ "best=25" ∷ "worst=43" ∷ "jitter=18" ∷ "margin=0"
    ∷ []))
    ∷ reviewer
    (table_under "switch=1" "beta=8000" "beta=8000" "beta=57000" ++ lined ("rank=12" ∷ "rank=11" ∷ "rank=13" ∷ []))
    (lined (
    "plan=1" ∷ "board=7" ∷ "tasks=3"
    ∷ "rank=1" ∷ "task=12" ∷ "best=2" ∷ "worst=3" ∷ "jitter=1" ∷ "margin=5000"
    ∷ "rank=2" ∷ "task=11" ∷ "best=6" ∷ "worst=10" ∷ "jitter=4" ∷ "margin=-2000"
    ∷ "rank=3" ∷ "task=13" ∷ "best=25" ∷ "worst=43" ∷ "jitter=18" ∷ "margin=-22000"
    ∷ []))
    -- worst and switch together at the period, and past it
    ∷ plan (one_under "switch=3" "worst=7" "best=7" "hold=7")
    (lined (
    "plan=1" ∷ "board=7" ∷ "tasks=1"
    ∷ "rank=1" ∷ "task=1" ∷ "best=7" ∷ "worst=10" ∷ "jitter=3" ∷ "margin=0"
    ∷ []))
    ∷ refusal (one_under "switch=3" "worst=8" "best=7" "hold=0") 4 7
    ∷ refusal (one_under "switch=1000" "worst=1" "best=1" "hold=0") 4 7
    -- best and hold are held to worst alone
    ∷ refusal (one_under "switch=3" "worst=7" "best=8" "hold=0") 4 8
    ∷ refusal (one_under "switch=3" "worst=7" "best=7" "hold=8") 4 11
    -- the line: past its limit, no number, missing, doubled, before its place and behind it
    ∷ planner (one_under "switch=1001" "worst=7" "best=7" "hold=0") (refused_at "refusal=3" "line=3")
    ∷ planner (one_under "switch=" "worst=7" "best=7" "hold=0") (refused_at "refusal=2" "line=3")
    ∷ planner (alone_under ("board=7" ∷ "tasks=1" ∷ []) "worst=7" "best=7" "hold=0") (refused_at "refusal=1" "line=3")
    ∷ planner (alone_under ("board=7" ∷ "tasks=1" ∷ "switch=0" ∷ "switch=0" ∷ []) "worst=7" "best=7" "hold=0")
    (refused_at "refusal=1" "line=4")
    ∷ planner (alone_under ("board=7" ∷ "switch=0" ∷ "tasks=1" ∷ []) "worst=7" "best=7" "hold=0")
    (refused_at "refusal=1" "line=2")
    ∷ planner (one_under "switch=0" "worst=7" "best=7" "hold=0" ++ lined ("switch=0" ∷ []))
    (refused_at "refusal=1" "line=13")
    ∷ []

-- ---- curves
-- the paper's task 13 with a curve: at its E of 25 below 11 and 12 the jitter of 10 is judged
abbrev pub curved13 : List Point → Row
curved13 c = with_curve c (row13 57000)

-- below 11 and 12, with its margin
abbrev pub judged : List Point → ℤ → Case
judged c m = figures (curved13 c) (row11 8000 ∷ row12 8000 ∷ []) 25 35 10 m

-- one task that needs 7 to 10 ticks, whose line refuses it, with the lines behind its hold
abbrev pub pointed : List String → List ℕ
pointed lines =
    lined ("board=7" ∷ "tasks=1" ∷ "switch=0"
    ∷ "task=1" ∷ "period=10" ∷ "deadline=10" ∷ "worst=10" ∷ "best=7" ∷ "alpha=1000" ∷ "beta=9999" ∷ "hold=0" ∷ lines)

abbrev pub pointed_plan : String → List ℕ
pointed_plan margin = lined (
    "plan=1" ∷ "board=7" ∷ "tasks=1"
    ∷ "rank=1" ∷ "task=1" ∷ "best=7" ∷ "worst=10" ∷ "jitter=3" ∷ margin
    ∷ [])

abbrev pub of_curves : List Case
of_curves =
    -- one point: before its delay and at it its allow; past it 1,000 for each tick
    judged (point 30 10 ∷ []) (pos 0)
    ∷ judged (point 25 12 ∷ []) (pos 2000)
    ∷ judged (point 25 9 ∷ []) (negsuc 999)
    ∷ judged (point 24 1000 ∷ []) (negsuc 999)
    ∷ judged (point 0 1000000 ∷ []) (negsuc 24999)
    -- on the line between two: from 20 at 20 down to 0 at 40 it permits 15; a third of a tick is rounded down, above and
    -- below 0
    ∷ judged (point 20 20 ∷ point 40 0 ∷ []) (pos 5000)
    ∷ judged (point 24 11 ∷ point 27 10 ∷ []) (pos 666)
    ∷ judged (point 24 10 ∷ point 27 9 ∷ []) (negsuc 333)
    -- at a point in the middle, at the last, and past it
    ∷ judged (point 0 30 ∷ point 25 12 ∷ point 26 0 ∷ []) (pos 2000)
    ∷ judged (point 0 30 ∷ point 25 10 ∷ []) (pos 0)
    ∷ judged (point 0 30 ∷ point 23 20 ∷ []) (negsuc 1999)
    -- delays a tick apart, and as far as can be; allows that stay
    ∷ judged (point 24 20 ∷ point 25 11 ∷ []) (pos 1000)
    ∷ judged (point 0 1000000 ∷ point 1000000 0 ∷ []) (pos 999965000)
    ∷ judged (point 0 11 ∷ point 100 11 ∷ []) (pos 1000)
    -- five points: at the last, and past it; eight: between the sixth and the seventh, before the last, and past it
    ∷ judged (point 5 40 ∷ point 10 30 ∷ point 15 25 ∷ point 20 18 ∷ point 25 12 ∷ []) (pos 2000)
    ∷ judged (point 1 40 ∷ point 2 30 ∷ point 3 25 ∷ point 4 18 ∷ point 5 12 ∷ []) (negsuc 19999)
    ∷ judged (point 0 50 ∷ point 5 45 ∷ point 10 40 ∷ point 15 30 ∷ point 20 20 ∷ point 24 15 ∷ point 27 13 ∷ point 40 0 ∷ [])
    (pos 4333)
    ∷ judged (point 0 20 ∷ point 1 20 ∷ point 2 20 ∷ point 3 20 ∷ point 4 20 ∷ point 5 20 ∷ point 20 20 ∷ point 30 10 ∷ [])
    (pos 5000)
    ∷ judged (point 1 20 ∷ point 2 20 ∷ point 3 20 ∷ point 4 20 ∷ point 5 20 ∷ point 6 20 ∷ point 7 20 ∷ point 8 20 ∷ [])
    (negsuc 16999)
    -- only a curve of its own counts
    ∷ figures (row13 57000) (with_curve (point 0 0 ∷ []) (row11 8000) ∷ row12 8000 ∷ []) 25 35 10 (pos 2000)
    -- under a switch, with a hold of its own, and over one
    ∷ figures (with_switch 1 (curved13 (point 25 20 ∷ []))) (with_switch 1 (row11 8000) ∷ with_switch 1 (row12 8000) ∷ [])
    25 43 18 (pos 2000)
    ∷ between (with_curve (point 17 18 ∷ []) (holding13 2)) (row11 8000 ∷ row12 8000 ∷ []) [] 17 35 18 (pos 0)
    ∷ between (with_curve (point 6 6 ∷ []) (row11 8000)) (row12 8000 ∷ []) (holding13 5 ∷ []) 6 12 6 (pos 0)
    -- no curve makes a late task timely
    ∷ late (with_curve (point 1000000 1000000 ∷ []) (row12 8000)) (row13 57000 ∷ [])
    ∷ []

-- ---- curves in a text: the line of the points is its twelfth, and the pairs follow
abbrev pub of_curve_texts : List Case
of_curve_texts =
    -- a text whose line has no order, and whose curve has: alpha and beta are read and not used
    refusal (pointed ("points=0" ∷ [])) 8 0
    ∷ plan (pointed ("points=1" ∷ "delay=7" ∷ "allow=3" ∷ [])) (pointed_plan "margin=0")
    ∷ plan (pointed ("points=2" ∷ "delay=6" ∷ "allow=4" ∷ "delay=9" ∷ "allow=3" ∷ [])) (pointed_plan "margin=666")
    ∷ refusal (pointed ("points=1" ∷ "delay=7" ∷ "allow=2" ∷ [])) 8 0
    ∷ refusal (pointed ("points=1" ∷ "delay=6" ∷ "allow=1000" ∷ [])) 8 0
    -- the reviewer writes a negative margin
    ∷ reviewer (pointed ("points=2" ∷ "delay=6" ∷ "allow=3" ∷ "delay=9" ∷ "allow=2" ∷ "rank=1" ∷ []))
    (pointed_plan "margin=-334")
    ∷ reviewer (pointed ("points=1" ∷ "delay=5" ∷ "allow=9" ∷ "rank=1" ∷ [])) (pointed_plan "margin=-2000")
    -- 11 on the line of a delay and of an allow, each held to the point before it; not on those of a first point
    ∷ refusal (pointed ("points=2" ∷ "delay=7" ∷ "allow=3" ∷ "delay=7" ∷ "allow=3" ∷ [])) 11 15
    ∷ refusal (pointed ("points=2" ∷ "delay=7" ∷ "allow=3" ∷ "delay=6" ∷ "allow=3" ∷ [])) 11 15
    ∷ refusal (pointed ("points=2" ∷ "delay=7" ∷ "allow=3" ∷ "delay=0" ∷ "allow=3" ∷ [])) 11 15
    ∷ refusal (pointed ("points=2" ∷ "delay=7" ∷ "allow=3" ∷ "delay=8" ∷ "allow=4" ∷ [])) 11 16
    ∷ refusal (pointed ("points=3" ∷ "delay=1" ∷ "allow=5" ∷ "delay=5" ∷ "allow=2" ∷ "delay=3" ∷ [])) 11 17
    ∷ refusal (pointed ("points=3" ∷ "delay=1" ∷ "allow=5" ∷ "delay=5" ∷ "allow=2" ∷ "delay=6" ∷ "allow=3" ∷ [])) 11 18
    -- 3, 2 and 1 before it
    ∷ refusal (pointed ("points=2" ∷ "delay=7" ∷ "allow=3" ∷ "delay=1000001" ∷ [])) 3 15
    ∷ refusal (pointed ("points=2" ∷ "delay=7" ∷ "allow=3" ∷ "delay=8" ∷ "allow=1000001" ∷ [])) 3 16
    ∷ refusal (pointed ("points=2" ∷ "delay=7" ∷ "allow=3" ∷ "delay=07" ∷ [])) 2 15
    ∷ refusal (pointed ("points=2" ∷ "delay=7" ∷ "allow=3" ∷ "allow=3" ∷ [])) 1 15
    -- both sides of the limits of a delay, of an allow and of the points
    ∷ plan (pointed ("points=1" ∷ "delay=1000000" ∷ "allow=1000000" ∷ [])) (pointed_plan "margin=999997000")
    ∷ refusal (pointed ("points=1" ∷ "delay=1000001" ∷ "allow=3" ∷ [])) 3 13
    ∷ refusal (pointed ("points=1" ∷ "delay=7" ∷ "allow=1000001" ∷ [])) 3 14
    ∷ plan
    (pointed ("points=8" ∷ "delay=0" ∷ "allow=9" ∷ "delay=1" ∷ "allow=9" ∷ "delay=2" ∷ "allow=8" ∷ "delay=3" ∷ "allow=8"
    ∷ "delay=4" ∷ "allow=7" ∷ "delay=5" ∷ "allow=6" ∷ "delay=6" ∷ "allow=5" ∷ "delay=7" ∷ "allow=4" ∷ []))
    (pointed_plan "margin=1000")
    ∷ refusal (pointed ("points=9" ∷ [])) 3 12
    -- as many pairs as the points say, and the line of the points itself
    ∷ refusal (pointed ("points=1" ∷ "delay=7" ∷ "allow=3" ∷ "delay=8" ∷ "allow=3" ∷ [])) 1 15
    ∷ refusal (pointed ("points=2" ∷ "delay=7" ∷ "allow=3" ∷ [])) 1 15
    ∷ refusal (pointed []) 1 12
    ∷ []

-- ---- deadlines
-- two tasks of which the lower is done after its next release, with its deadline; as a table, with the line of that
abbrev pub row21 : Row
row21 = row 21 70 70 26 26 1000 26000 0 0

abbrev pub row22 : ℕ → Row
row22 deadline = row 22 100 deadline 62 40 1000 1000000 0 0

abbrev pub overrun : String → List ℕ
overrun deadline = lined (
    "board=7" ∷ "tasks=2" ∷ "switch=0"
    ∷ "task=21" ∷ "period=70" ∷ "deadline=70" ∷ "worst=26" ∷ "best=26" ∷ "alpha=1000" ∷ "beta=26000" ∷ "hold=0"
    ∷ "points=0"
    ∷ "task=22" ∷ "period=100" ∷ deadline ∷ "worst=62" ∷ "best=40" ∷ "alpha=1000" ∷ "beta=1000000" ∷ "hold=0"
    ∷ "points=0"
    ∷ [])

abbrev pub overrun_plan : List ℕ
overrun_plan = lined (
    "plan=1" ∷ "board=7" ∷ "tasks=2"
    ∷ "rank=1" ∷ "task=21" ∷ "best=26" ∷ "worst=26" ∷ "jitter=0" ∷ "margin=0"
    ∷ "rank=2" ∷ "task=22" ∷ "best=40" ∷ "worst=118" ∷ "jitter=78" ∷ "margin=882000"
    ∷ [])

-- one task that needs 10 ticks of each 10, with the lines between its number and its worst
abbrev pub due_alone : List String → List ℕ
due_alone lines =
    lined ("board=7" ∷ "tasks=1" ∷ "switch=0" ∷ "task=1" ∷ [])
    ++ lined lines
    ++ lined ("worst=10" ∷ "best=10" ∷ "alpha=1000" ∷ "beta=10000" ∷ "hold=0" ∷ "points=0" ∷ [])

abbrev pub alone_plan : List ℕ
alone_plan = lined (
    "plan=1" ∷ "board=7" ∷ "tasks=1" ∷ "rank=1" ∷ "task=1" ∷ "best=10" ∷ "worst=10" ∷ "jitter=0" ∷ "margin=0" ∷ [])

-- three tasks, with the line of the second's deadline
abbrev pub taken_back : String → List ℕ
taken_back deadline = lined (
    "board=7" ∷ "tasks=3" ∷ "switch=0"
    ∷ "task=1" ∷ "period=12" ∷ "deadline=12" ∷ "worst=5" ∷ "best=5" ∷ "alpha=20000" ∷ "beta=5000" ∷ "hold=0" ∷ "points=0"
    ∷ "task=2" ∷ "period=6" ∷ deadline ∷ "worst=1" ∷ "best=1" ∷ "alpha=20000" ∷ "beta=361000" ∷ "hold=0" ∷ "points=0"
    ∷ "task=3" ∷ "period=27" ∷ "deadline=27" ∷ "worst=8" ∷ "best=7" ∷ "alpha=20000" ∷ "beta=174000" ∷ "hold=0"
    ∷ "points=0"
    ∷ [])

abbrev pub taken_back_plan : List ℕ
taken_back_plan = lined (
    "plan=1" ∷ "board=7" ∷ "tasks=3"
    ∷ "rank=1" ∷ "task=1" ∷ "best=5" ∷ "worst=5" ∷ "jitter=0" ∷ "margin=0"
    ∷ "rank=2" ∷ "task=2" ∷ "best=1" ∷ "worst=6" ∷ "jitter=5" ∷ "margin=260000"
    ∷ "rank=3" ∷ "task=3" ∷ "best=14" ∷ "worst=22" ∷ "jitter=8" ∷ "margin=0"
    ∷ [])

-- a row that needs 4 ticks of each 10, and one above it that takes 50 of each 100
abbrev pub queued : ℕ → Row
queued deadline = row 23 10 deadline 4 4 1000 1000000 0 0

abbrev pub long_above : Row
long_above = row 24 100 100 50 50 1000 1000000 0 0

abbrev pub of_deadlines : List Case
of_deadlines =
    -- the responses of the seven jobs are 114, 102, 116, 104, 118, 106 and 94: W is that of the fifth, within a
    -- deadline of 118 or more, past one of 117
    busy (row22 118) (row21 ∷ []) [] (114 ∷ 202 ∷ 316 ∷ 404 ∷ 518 ∷ 606 ∷ 694 ∷ [])
    ∷ figures (row22 118) (row21 ∷ []) 40 118 78 (pos 882000)
    ∷ figures (row22 1000000) (row21 ∷ []) 40 118 78 (pos 882000)
    ∷ late (row22 117) (row21 ∷ [])
    ∷ late (row22 100) (row21 ∷ [])
    -- one job where the first is done within the period, and where it is done just at its end
    ∷ busy (row13 57000) (row11 8000 ∷ row12 8000 ∷ []) [] (35 ∷ [])
    ∷ busy (row22 1) (row 21 70 70 19 19 1000 26000 0 0 ∷ []) [] (100 ∷ [])
    -- blocked once and not once for each job: over a hold of 5 each job is 4 ticks later
    ∷ busy (row22 118) (row21 ∷ []) (holding13 5 ∷ []) (118 ∷ 206 ∷ 320 ∷ 408 ∷ 522 ∷ 610 ∷ 698 ∷ [])
    ∷ between (row22 1000000) (row21 ∷ []) (holding13 5 ∷ []) 40 122 82 (pos 878000)
    -- so a deadline of 122 is kept there, and one of 121 is not
    ∷ between (row22 122) (row21 ∷ []) (holding13 5 ∷ []) 40 122 82 (pos 878000)
    ∷ late_between (row22 121) (row21 ∷ []) (holding13 5 ∷ [])
    -- each job of its own takes the switch, and each above
    ∷ busy (row 22 100 118 61 40 1000 1000000 0 1) (row 21 70 70 25 25 1000 26000 0 1 ∷ []) []
    (114 ∷ 202 ∷ 316 ∷ 404 ∷ 518 ∷ 606 ∷ 694 ∷ [])
    ∷ figures (row 22 100 1000000 60 40 1000 1000000 0 1) (row 21 70 70 25 25 1000 26000 0 1 ∷ []) 40 113 73
    (pos 887000)
    -- E is the largest solution, or its best where it may hold the processor for 2 ticks
    ∷ figures (row 22 100 118 62 60 1000 1000000 0 0) (row21 ∷ []) 86 118 32 (pos 882000)
    ∷ figures (row 22 100 118 62 60 1000 1000000 2 0) (row21 ∷ []) 60 118 58 (pos 882000)
    -- a deadline below the period, and below worst; the others' do not count
    ∷ figures (row22 62) [] 40 62 22 (pos 938000)
    ∷ late (row22 61) []
    ∷ late (row22 1) []
    ∷ figures (row22 118) (with_deadline 1 row21 ∷ []) 40 118 78 (pos 882000)
    -- nine jobs in the busy interval, of which the first six wait at once, and W is that of the first
    ∷ busy (queued 54) (long_above ∷ []) [] (54 ∷ 58 ∷ 62 ∷ 66 ∷ 70 ∷ 74 ∷ 78 ∷ 82 ∷ 86 ∷ [])
    ∷ figures (queued 54) (long_above ∷ []) 4 54 50 (pos 946000)
    ∷ late (queued 53) (long_above ∷ [])
    -- a curve judges the jitter of an overrun: it permits just that, and a tick less
    ∷ figures (with_curve (point 40 78 ∷ []) (row22 118)) (row21 ∷ []) 40 118 78 (pos 0)
    ∷ figures (with_curve (point 40 77 ∷ []) (row22 118)) (row21 ∷ []) 40 118 78 (negsuc 999)
    -- texts: with a deadline of 118 there is an order, with 117 and with the period there is none
    ∷ plan (overrun "deadline=118") overrun_plan
    ∷ refusal (overrun "deadline=117") 8 0
    ∷ refusal (overrun "deadline=100") 8 0
    ∷ reviewer (overrun "deadline=118" ++ lined ("rank=21" ∷ "rank=22" ∷ [])) overrun_plan
    ∷ reviewer (overrun "deadline=117" ++ lined ("rank=21" ∷ "rank=22" ∷ [])) (refused_at "refusal=7" "line=2")
    -- one below worst is late under every order
    ∷ refusal (overrun "deadline=61") 8 0
    ∷ reviewer (overrun "deadline=61" ++ lined ("rank=21" ∷ "rank=22" ∷ [])) (refused_at "refusal=7" "line=2")
    ∷ reviewer (overrun "deadline=61" ++ lined ("rank=22" ∷ "rank=21" ∷ [])) (refused_at "refusal=7" "line=1")
    -- a choice is taken back: with 19 the first row that fits lowest is task 2, with a W of 19 and a margin of 0, and then
    -- tasks 1 and 3 have no order; with 18 it is late there, and task 3 is the first that fits
    ∷ figures (row 2 6 19 1 1 20000 361000 0 0)
    (row 1 12 12 5 5 20000 5000 0 0 ∷ row 3 27 27 8 7 20000 174000 0 0 ∷ []) 1 19 18 (pos 0)
    ∷ late (row 1 12 12 5 5 20000 5000 0 0) (row 2 6 19 1 1 20000 361000 0 0 ∷ row 3 27 27 8 7 20000 174000 0 0 ∷ [])
    ∷ plan (taken_back "deadline=19") taken_back_plan
    ∷ plan (taken_back "deadline=18") taken_back_plan
    -- the line: both sides of its limits, no number, missing, doubled, before its place and behind it
    ∷ plan (due_alone ("period=10" ∷ "deadline=10" ∷ [])) alone_plan
    ∷ plan (due_alone ("period=10" ∷ "deadline=1000000" ∷ [])) alone_plan
    ∷ refusal (due_alone ("period=10" ∷ "deadline=9" ∷ [])) 8 0
    ∷ refusal (due_alone ("period=10" ∷ "deadline=1" ∷ [])) 8 0
    ∷ refusal (due_alone ("period=10" ∷ "deadline=0" ∷ [])) 3 6
    ∷ refusal (due_alone ("period=10" ∷ "deadline=1000001" ∷ [])) 3 6
    ∷ refusal (due_alone ("period=10" ∷ "deadline=" ∷ [])) 2 6
    ∷ refusal (due_alone ("period=10" ∷ "deadline=010" ∷ [])) 2 6
    ∷ refusal (due_alone ("period=10" ∷ [])) 1 6
    ∷ refusal (due_alone ("period=10" ∷ "deadline=10" ∷ "deadline=10" ∷ [])) 1 7
    ∷ refusal (due_alone ("deadline=10" ∷ "period=10" ∷ [])) 1 5
    ∷ []

-- ---- more than a board has room for: by the longest deadlines too the lower of these tasks is late in each order,
-- since its later jobs are done ever later, and one of them not in 1,000,000 ticks
abbrev pub heavy : ℕ → Row
heavy task = row task 10 1000000 6 6 1000 1000000 0 0

abbrev pub heavy_text : List ℕ
heavy_text = lined (
    "board=7" ∷ "tasks=2" ∷ "switch=0"
    ∷ "task=31" ∷ "period=10" ∷ "deadline=1000000" ∷ "worst=6" ∷ "best=6" ∷ "alpha=1000" ∷ "beta=1000000" ∷ "hold=0"
    ∷ "points=0"
    ∷ "task=32" ∷ "period=10" ∷ "deadline=1000000" ∷ "worst=6" ∷ "best=6" ∷ "alpha=1000" ∷ "beta=1000000" ∷ "hold=0"
    ∷ "points=0"
    ∷ [])

abbrev pub of_loads : List Case
of_loads =
    late (heavy 32) (heavy 31 ∷ [])
    ∷ refusal heavy_text 8 0
    ∷ reviewer (heavy_text ++ lined ("rank=32" ∷ "rank=31" ∷ [])) (refused_at "refusal=7" "line=2")
    ∷ []
