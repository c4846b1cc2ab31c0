-- Nothing is claimed of runs in vain: runs that meet each condition of a claim, of an order of document 01's example;
-- with holds, runs past the figures that count none; with a switch, a run past those that count none; and with jobs that
-- overrun their period, a run past the response of the first.
use Rattle.std.specs.Prelude.{◌≡◌, Bool, true, false, List, [], ◌∷◌, map, ℕ, ◌+◌, ◌≤◌, ◌<◌, leb, length, get_or}
use Rattle.basics.specs.Basics.{pick}
use Rattle.rows.specs.Rows.{row, row_at, with_deadline, cost}
use Rattle.rows.specs.Rows.{Row}
use Rattle.responses.specs.Interference.{least_fixed, largest_fixed}
use Rattle.responses.specs.BusyIntervals.{jobs_in}
use Rattle.responses.specs.Figures.{rows_above, rows_below, worst_load, best_load, finish_of, is_late}
use Rattle.responses.specs.Claims.{NoneHolds, NoSwitch, switched, SwitchUpTo}
use Rattle.boards.specs.Claims.{LastsInRange, Finishes, AfterFirstReleases, latest_at, earliest_at, NoneLate}
use Rattle.boards.specs.Runs.{board_goes_to}

-- the rows of document 01's example, with holds of the middle rank and of the lowest
abbrev pub with_holds : ℕ → ℕ → List Row
with_holds middle lowest =
    row 12 18 18 2 2 1000 8000 0 0 ∷ row 11 24 24 6 6 1000 8000 middle 0 ∷ row 13 200 200 19 17 3000 57000 lowest 0 ∷ []

abbrev pub example_order : List Row
example_order = with_holds 0 0

-- all first releases at tick 0; those of the ranks above a rank a tick later; and every job as long as the ticks say,
-- rank by rank
abbrev pub at_once : ℕ → ℕ
at_once i = 0

abbrev pub ahead_from : ℕ → ℕ → ℕ
ahead_from m i = pick (leb m i) 0 1

abbrev pub lasting : List ℕ → ℕ → ℕ → ℕ
lasting ticks i k = get_or ticks i 0

-- no stretch goes on; every one that may; and those from a tick on
abbrev pub never : ℕ → Bool
never t = false

abbrev pub always : ℕ → Bool
always t = true

abbrev pub kept_from : ℕ → ℕ → Bool
kept_from u t = leb u t

-- what jobs may need, by the numbers of the rows
abbrev pub NeedsByNumbers : List Row → (ℕ → ℕ → ℕ) → Type 0
NeedsByNumbers order need =
    (i k : ℕ) → i < length order
    → let r = row_at order i in (r.best ≤ need i k) × (need i k ≤ r.worst + r.switch)

pub record RunsMet : Type 0 where
  pub none_late : NoneLate example_order
  -- jobs may need whatever is from their best to their worst and the switch, each its own, and nothing else
  pub lasts : (order : List Row) (need : ℕ → ℕ → ℕ) → NeedsByNumbers order need → LastsInRange order need
  pub lasts_only : (order : List Row) (need : ℕ → ℕ → ℕ) → LastsInRange order need → NeedsByNumbers order need
  -- a job of the lowest rank that is held to its earliest response, 25, and finishes just then; and one that takes its
  -- latest, 35
  pub held_early : AfterFirstReleases example_order at_once 2 200
  pub earliest_reached : Finishes example_order at_once (lasting (2 ∷ 6 ∷ 17 ∷ [])) never 2 200 225
  pub latest_reached : Finishes example_order at_once (lasting (2 ∷ 6 ∷ 19 ∷ [])) never 2 0 35
  -- a job of the same task before it; a tick that goes to no job; and jobs of the highest rank that fit their period
  pub finished_before : Finishes example_order at_once (lasting (2 ∷ 6 ∷ 17 ∷ [])) never 2 0 33
  pub idle_there :
      (i k : ℕ) → i < length example_order
      → board_goes_to example_order at_once (lasting (2 ∷ 6 ∷ 17 ∷ [])) never i k 226 ≡ true → ⊥
  pub highest_short : (k : ℕ) → lasting (2 ∷ 6 ∷ 19 ∷ []) 0 k ≤ (row_at example_order 0).period
  pub none_holds : NoneHolds example_order
  -- any rows under a switch of 0, and under one that is no greater than another
  pub no_switch : (rows : List Row) → NoSwitch (switched 0 rows)
  pub switch_up_to : (u s : ℕ) → u ≤ s → (rows : List Row) → SwitchUpTo s (switched u rows)

-- ---- the lowest task may hold the processor for 5 ticks
abbrev pub held_order : List Row
held_order = with_holds 0 5

pub record HoldsCount : Type 0 where
  pub none_late : NoneLate held_order
  -- the latest response of rank 1 is 12, where it would be 8 without its blocking time of 4; in a run in which the
  -- lowest begins a stretch a tick before the others are released, a job takes 12
  pub latest_is : latest_at held_order 1 ≡ 12
  pub latest_without :
      least_fixed (cost (row_at held_order 1)) 24 (map worst_load (rows_above held_order 1)) ≡ 8
  pub lasts_latest : LastsInRange held_order (lasting (2 ∷ 6 ∷ 19 ∷ []))
  pub latest_reached : Finishes held_order (ahead_from 2) (lasting (2 ∷ 6 ∷ 19 ∷ [])) always 1 1 13
  -- the earliest response of the lowest is 17, its best, where its equation gives 25; in a run in which it keeps the
  -- processor while the others are released, a job that is held to it takes 17
  pub earliest_is : earliest_at held_order 2 ≡ 17
  pub earliest_by_equation : largest_fixed 17 (latest_at held_order 2) (map best_load (rows_above held_order 2)) ≡ 25
  pub held_early : AfterFirstReleases held_order at_once 2 200
  pub lasts_earliest : LastsInRange held_order (lasting (2 ∷ 6 ∷ 17 ∷ []))
  pub earliest_reached : Finishes held_order at_once (lasting (2 ∷ 6 ∷ 17 ∷ [])) always 2 200 217
  -- the choice is the run's, and one of each tick: with the same releases and lengths a job of rank 1 takes 8 where no
  -- stretch goes on; with stretches from tick 200 on, the lowest rank's first job takes 33 as without holds, and the
  -- job of tick 200 its 17
  pub not_kept : Finishes held_order (ahead_from 2) (lasting (2 ∷ 6 ∷ 19 ∷ [])) never 1 1 9
  pub not_kept_yet : Finishes held_order at_once (lasting (2 ∷ 6 ∷ 17 ∷ [])) (kept_from 200) 2 0 33
  pub kept_then : Finishes held_order at_once (lasting (2 ∷ 6 ∷ 17 ∷ [])) (kept_from 200) 2 200 217
  -- any rank may hold: with a hold of 5 the middle one delays the highest to its latest response, 6
  pub middle_latest : latest_at (with_holds 5 0) 0 ≡ 6
  pub middle_reached : Finishes (with_holds 5 0) (ahead_from 1) (lasting (2 ∷ 6 ∷ 19 ∷ [])) always 0 1 7
  -- a hold of 1 is none
  pub one_is_none : NoneHolds (with_holds 1 1)

-- ---- each switch takes a tick
abbrev pub switched_order : List Row
switched_order = switched 1 example_order

pub record SwitchCounts : Type 0 where
  pub none_late : NoneLate switched_order
  -- the latest response of the lowest rank is 43, where it is 35 without the switch; in a run in which every job takes
  -- its worst and a tick, one takes 43
  pub latest_is : latest_at switched_order 2 ≡ 43
  pub latest_without : latest_at example_order 2 ≡ 35
  pub lasts_latest : LastsInRange switched_order (lasting (3 ∷ 7 ∷ 20 ∷ []))
  pub latest_reached : Finishes switched_order at_once (lasting (3 ∷ 7 ∷ 20 ∷ [])) never 2 0 43
  -- a job may take its best as before, and so the earliest response is 25 still, and reached
  pub earliest_is : earliest_at switched_order 2 ≡ 25
  pub held_early : AfterFirstReleases switched_order at_once 2 200
  pub lasts_earliest : LastsInRange switched_order (lasting (2 ∷ 6 ∷ 17 ∷ []))
  pub earliest_reached : Finishes switched_order at_once (lasting (2 ∷ 6 ∷ 17 ∷ [])) never 2 200 225
  -- a hold below adds its ticks and no switch: the latest response of rank 1 over a hold of 5 is 14, and a job takes it
  pub held_none_late : NoneLate (switched 1 held_order)
  pub held_lasts : LastsInRange (switched 1 held_order) (lasting (3 ∷ 7 ∷ 20 ∷ []))
  pub held_latest : latest_at (switched 1 held_order) 1 ≡ 14
  pub held_reached : Finishes (switched 1 held_order) (ahead_from 2) (lasting (3 ∷ 7 ∷ 20 ∷ [])) always 1 1 15

-- ---- the lower of two tasks may be done after its next release
abbrev pub overrun_order : List Row
overrun_order = row 21 70 70 26 26 1000 26000 0 0 ∷ row 22 100 118 62 40 1000 1000000 0 0 ∷ []

-- first releases rank by rank
abbrev pub first_releases : List ℕ → ℕ → ℕ
first_releases ticks i = get_or ticks i 0

-- w(q) of rank i
abbrev pub finish_at : List Row → ℕ → ℕ → ℕ
finish_at order i q = finish_of (row_at order i) (rows_above order i) (rows_below order i) q

-- the lowest task of document 01's example, with its latest response as its deadline
abbrev pub due_order : List Row
due_order =
    row 12 18 18 2 2 1000 8000 0 0 ∷ row 11 24 24 6 6 1000 8000 0 0 ∷ row 13 200 35 19 17 3000 57000 0 0 ∷ []

pub record OverrunsCount : Type 0 where
  -- its first job, of tick 47, is held to its earliest response, though no period of its own has gone by since the first
  -- releases above, and takes it
  pub due_none_late : NoneLate due_order
  pub due_held : AfterFirstReleases due_order (first_releases (0 ∷ 0 ∷ 47 ∷ [])) 2 47
  pub due_earliest : earliest_at due_order 2 ≡ 25
  pub due_lasts : LastsInRange due_order (lasting (2 ∷ 6 ∷ 17 ∷ []))
  pub due_reached : Finishes due_order (first_releases (0 ∷ 0 ∷ 47 ∷ [])) (lasting (2 ∷ 6 ∷ 17 ∷ [])) never 2 47 72
  -- of any order, no more is asked of a job that is held to it
  pub held_by_deadline :
      (order : List Row) (offset : ℕ → ℕ) (i r : ℕ)
      → ((j : ℕ) → j < i → offset j + (row_at order i).deadline ≤ r)
      → AfterFirstReleases order offset i r
  pub none_late : NoneLate overrun_order
  pub lasts_latest : LastsInRange overrun_order (lasting (26 ∷ 62 ∷ []))
  -- the busy interval of the lower task has seven jobs; its latest response is 118, that of the fifth, where the first
  -- takes 114 and the last 94
  pub jobs_are : jobs_in (finish_at overrun_order 1) 100 ≡ 7
  pub latest_is : latest_at overrun_order 1 ≡ 118
  pub first_is : finish_at overrun_order 1 0 ≡ 114
  pub fifth_is : finish_at overrun_order 1 4 ≡ 518
  pub last_is : finish_at overrun_order 1 6 ≡ 694
  -- in the run in which both are released at tick 0 and every job takes its worst, these jobs finish just then
  pub first_reached : Finishes overrun_order at_once (lasting (26 ∷ 62 ∷ [])) never 1 0 114
  pub latest_reached : Finishes overrun_order at_once (lasting (26 ∷ 62 ∷ [])) never 1 400 518
  pub last_reached : Finishes overrun_order at_once (lasting (26 ∷ 62 ∷ [])) never 1 600 694
  -- the second is released at 100, while the first is pending, and finishes after it
  pub older_first : Finishes overrun_order at_once (lasting (26 ∷ 62 ∷ [])) never 1 100 202
  -- a deadline of 117 is missed
  pub late_below : is_late (with_deadline 117 (row_at overrun_order 1)) (rows_above overrun_order 1) [] ≡ true
  -- a job that is released a deadline or more after the first release above, and takes its earliest response, 40
  pub earliest_is : earliest_at overrun_order 1 ≡ 40
  pub lasts_earliest : LastsInRange overrun_order (lasting (26 ∷ 40 ∷ []))
  pub held_early : AfterFirstReleases overrun_order (first_releases (0 ∷ 30 ∷ [])) 1 730
  pub earliest_reached :
      Finishes overrun_order (first_releases (0 ∷ 30 ∷ [])) (lasting (26 ∷ 40 ∷ [])) never 1 730 770
  -- over a hold of 5 each of the jobs is blocked once and not once for each: the first is done in 118 ticks, four more,
  -- and the fifth in 522
  pub held_first : finish_of (row_at overrun_order 1) (rows_above overrun_order 1) (row_at held_order 2 ∷ []) 0 ≡ 118
  pub held_fifth : finish_of (row_at overrun_order 1) (rows_above overrun_order 1) (row_at held_order 2 ∷ []) 4 ≡ 522
