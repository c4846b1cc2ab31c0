-- Document 01's table, each row with its deadline and its hold, under a switch, read by computing.
use mathlib.Core.Path.{◌≡◌, refl}
use mathlib.Core.Bool.{true, false}
use mathlib.Core.List.{List, [], ◌∷◌, ◌++◌}
use Prim.Native.Nat.{ℕ}
use Prim.Native.String.{String}
use Rattle.text.specs.Text.{lined}
use Rattle.text.specs.Lines.{line_at, number_of}
use Rattle.grammars.specs.Forms.{form_at}
use Rattle.grammars.specs.Grammars.{read_for}
use Rattle.curves.specs.Curves.{Point, point}
use Rattle.rows.specs.Rows.{row, row_with}
use Rattle.rows.specs.Rows.{Row}
use Rattle.tables.specs.TableLines.{read_table, table_of, turned_down}

-- the table with another line for its third task, and the lines behind its beta
abbrev paper_with : String → List String → List ℕ
paper_with third more =
    lined
    ("board=7" ∷ "tasks=3" ∷ "switch=0"
    ∷ "task=11" ∷ "period=24" ∷ "deadline=24" ∷ "worst=6" ∷ "best=6"
    ∷ "alpha=1000" ∷ "beta=8000" ∷ "hold=0" ∷ "points=0"
    ∷ "task=12" ∷ "period=18" ∷ "deadline=18" ∷ "worst=2" ∷ "best=2"
    ∷ "alpha=1000" ∷ "beta=8000" ∷ "hold=0" ∷ "points=0"
    ∷ third ∷ "period=200" ∷ "deadline=200" ∷ "worst=19" ∷ "best=17" ∷ "alpha=3000" ∷ "beta=57000" ∷ more)

-- with lines behind the table
abbrev paper : String → List String → List ℕ
paper third more = paper_with third ("hold=0" ∷ "points=0" ∷ more)

abbrev paper_rows : ℕ → List Row
paper_rows hold =
    row 11 24 24 6 6 1000 8000 0 0 ∷ row 12 18 18 2 2 1000 8000 0 0 ∷ row 13 200 200 19 17 3000 57000 hold 0 ∷ []

paper_table : read_table false (paper "task=13" []) ≡ table_of 7 (paper_rows 0) []
unfolding read_table read_for form_at line_at number_of
paper_table = refl

ranked_table : read_table true (paper "task=13" ("rank=12" ∷ "rank=11" ∷ "rank=13" ∷ []))
    ≡ table_of 7 (paper_rows 0) (12 ∷ 11 ∷ 13 ∷ [])
unfolding read_table read_for form_at line_at number_of
ranked_table = refl

ranks_missing : read_table true (paper "task=13" []) ≡ turned_down 1 31
unfolding read_table read_for form_at line_at number_of
ranks_missing = refl

trailing_bytes : read_table false (paper "task=13" ("rank=12" ∷ [])) ≡ turned_down 1 31
unfolding read_table read_for form_at line_at number_of
trailing_bytes = refl

repeated_task : read_table false (paper "task=11" []) ≡ turned_down 5 22
unfolding read_table read_for form_at line_at number_of
repeated_task = refl

repeated_rank : read_table true (paper "task=13" ("rank=12" ∷ "rank=12" ∷ "rank=13" ∷ [])) ≡ turned_down 6 32
unfolding read_table read_for form_at line_at number_of
repeated_rank = refl

-- ---- the line of a hold
hold_worst : read_table false (paper_with "task=13" ("hold=19" ∷ "points=0" ∷ [])) ≡ table_of 7 (paper_rows 19) []
unfolding read_table read_for form_at line_at number_of
hold_worst = refl

past_worst : read_table false (paper_with "task=13" ("hold=20" ∷ [])) ≡ turned_down 4 29
unfolding read_table read_for form_at line_at number_of
past_worst = refl

past_limit : read_table false (paper_with "task=13" ("hold=1000001" ∷ [])) ≡ turned_down 3 29
unfolding read_table read_for form_at line_at number_of
past_limit = refl

missing_hold : read_table false (paper_with "task=13" []) ≡ turned_down 1 29
unfolding read_table read_for form_at line_at number_of
missing_hold = refl

-- one task with the largest times
hold_limit : read_table false (lined
    ("board=7" ∷ "tasks=1" ∷ "switch=0"
    ∷ "task=1" ∷ "period=1000000" ∷ "deadline=1000000" ∷ "worst=1000000" ∷ "best=1" ∷ "alpha=1000" ∷ "beta=0"
    ∷ "hold=1000000" ∷ "points=0" ∷ []))
    ≡ table_of 7 (row 1 1000000 1000000 1000000 1 1000 0 1000000 0 ∷ []) []
unfolding read_table read_for form_at line_at number_of
hold_limit = refl

-- ---- the line of a deadline: a number in its range passes, below the worst time and above the period too
abbrev with_deadline : String → List ℕ
with_deadline line =
    lined
    ("board=7" ∷ "tasks=1" ∷ "switch=0"
    ∷ "task=1" ∷ "period=10" ∷ line ∷ "worst=2" ∷ "best=2" ∷ "alpha=1000" ∷ "beta=0" ∷ "hold=0" ∷ "points=0" ∷ [])

deadline_least : read_table false (with_deadline "deadline=1") ≡ table_of 7 (row 1 10 1 2 2 1000 0 0 0 ∷ []) []
unfolding read_table read_for form_at line_at number_of
deadline_least = refl

deadline_most : read_table false (with_deadline "deadline=1000000") ≡ table_of 7 (row 1 10 1000000 2 2 1000 0 0 0 ∷ []) []
unfolding read_table read_for form_at line_at number_of
deadline_most = refl

deadline_none : read_table false (with_deadline "deadline=0") ≡ turned_down 3 6
unfolding read_table read_for form_at line_at number_of
deadline_none = refl

deadline_past : read_table false (with_deadline "deadline=1000001") ≡ turned_down 3 6
unfolding read_table read_for form_at line_at number_of
deadline_past = refl

deadline_leading_zero : read_table false (with_deadline "deadline=07") ≡ turned_down 2 6
unfolding read_table read_for form_at line_at number_of
deadline_leading_zero = refl

missing_deadline : read_table false (with_deadline "worst=2") ≡ turned_down 1 6
unfolding read_table read_for form_at line_at number_of
missing_deadline = refl

deadline_first : read_table false (lined ("board=7" ∷ "tasks=1" ∷ "switch=0" ∷ "task=1" ∷ "deadline=10" ∷ "period=10" ∷ []))
    ≡ turned_down 1 5
unfolding read_table read_for form_at line_at number_of
deadline_first = refl

-- ---- the line of the switch: its number is in each row, and a worst time has to leave room for it
abbrev switched_table : String → String → List ℕ
switched_table switch worst =
    lined
    ("board=7" ∷ "tasks=2" ∷ switch
    ∷ "task=1" ∷ "period=1010" ∷ "deadline=1010" ∷ "worst=10" ∷ "best=10"
    ∷ "alpha=1000" ∷ "beta=0" ∷ "hold=0" ∷ "points=0"
    ∷ "task=2" ∷ "period=2000" ∷ "deadline=2000" ∷ worst ∷ "best=1"
    ∷ "alpha=1000" ∷ "beta=0" ∷ "hold=0" ∷ "points=0" ∷ [])

switch_limit : read_table false (switched_table "switch=1000" "worst=1000")
    ≡ table_of 7 (row 1 1010 1010 10 10 1000 0 0 1000 ∷ row 2 2000 2000 1000 1 1000 0 0 1000 ∷ []) []
unfolding read_table read_for form_at line_at number_of
switch_limit = refl

past_switch : read_table false (switched_table "switch=1001" "worst=1000") ≡ turned_down 3 3
unfolding read_table read_for form_at line_at number_of
past_switch = refl

past_period : read_table false (switched_table "switch=1000" "worst=1001") ≡ turned_down 4 16
unfolding read_table read_for form_at line_at number_of
past_period = refl

missing_switch : read_table false (switched_table "task=1" "worst=1000") ≡ turned_down 1 3
unfolding read_table read_for form_at line_at number_of
missing_switch = refl

-- ---- the lines of points: as many as are said, in a row of eight and in one of two, and the row behind them
abbrev rising : List String
rising =
    "delay=0" ∷ "allow=1000000" ∷ "delay=1" ∷ "allow=1000000" ∷ "delay=2" ∷ "allow=7" ∷ "delay=3" ∷ "allow=6"
    ∷ "delay=4" ∷ "allow=5" ∷ "delay=5" ∷ "allow=5" ∷ "delay=6" ∷ "allow=0" ∷ []

abbrev of_eight : List String → List ℕ
of_eight last =
    lined
    ("board=7" ∷ "tasks=2" ∷ "switch=0"
    ∷ "task=1" ∷ "period=10" ∷ "deadline=10" ∷ "worst=1" ∷ "best=1" ∷ "alpha=1000" ∷ "beta=0" ∷ "hold=0" ∷ "points=8"
    ∷ rising ++ last)

abbrev second : List String
second =
    "task=2" ∷ "period=10" ∷ "deadline=10" ∷ "worst=1" ∷ "best=1" ∷ "alpha=1000" ∷ "beta=0" ∷ "hold=0"
    ∷ "points=2" ∷ "delay=0" ∷ "allow=4" ∷ "delay=9" ∷ "allow=4" ∷ []

abbrev eight : List Point
eight =
    point 0 1000000 ∷ point 1 1000000 ∷ point 2 7 ∷ point 3 6 ∷ point 4 5 ∷ point 5 5 ∷ point 6 0
    ∷ point 1000000 0 ∷ []

points_read : read_table false (of_eight ("delay=1000000" ∷ "allow=0" ∷ second))
    ≡ table_of 7
    (row_with eight 1 10 10 1 1 1000 0 0 0 ∷ row_with (point 0 4 ∷ point 9 4 ∷ []) 2 10 10 1 1 1000 0 0 0 ∷ []) []
unfolding read_table read_for form_at line_at number_of
points_read = refl

last_allow_above : read_table false (of_eight ("delay=1000000" ∷ "allow=1" ∷ [])) ≡ turned_down 11 28
unfolding read_table read_for form_at line_at number_of
last_allow_above = refl

last_delay_not_above : read_table false (of_eight ("delay=6" ∷ [])) ≡ turned_down 11 27
unfolding read_table read_for form_at line_at number_of
last_delay_not_above = refl

last_delay_past : read_table false (of_eight ("delay=1000001" ∷ [])) ≡ turned_down 3 27
unfolding read_table read_for form_at line_at number_of
last_delay_past = refl

ninth_point : read_table false (of_eight ("delay=7" ∷ "allow=0" ∷ "delay=8" ∷ [])) ≡ turned_down 1 29
unfolding read_table read_for form_at line_at number_of
ninth_point = refl
