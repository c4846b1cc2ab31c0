-- Runs that meet the conditions of the claims, and runs past the figures that count no hold, no switch or one job, by
-- computing.
use mathlib.Core.Path.{◌≡◌, refl}
use mathlib.Core.Bool.{true, false}
use mathlib.Core.List.{List, [], ◌∷◌}
use Prim.Native.Nat.{ℕ, zero, suc, ◌+◌, ◌≤◌, ◌<◌}
use native.Mathlib.Omega.{arith}
use lib.ListN.{length}
use Rattle.basics.proofs.Tests.{true_not_false}
use Rattle.rows.specs.Rows.{row_at, cost}
use Rattle.rows.specs.Rows.{Row}
use Rattle.responses.specs.Extremes.{smallest, largest}
use Rattle.responses.specs.BusyIntervals.{jobs_in, longest_response, latest_within}
use Rattle.responses.specs.Figures.{rows_above, rows_below, blocking, is_late}
use Rattle.responses.specs.Claims.{NoneHolds, switched}
use Rattle.boards.specs.Claims.{LastsInRange, AfterFirstReleases, NoneLate}
use Rattle.boards.specs.Runs.{board_goes_to}
use Rattle.boards.specs.Witnesses.{with_holds, example_order, held_order, switched_order, at_once, lasting}
use Rattle.boards.specs.Witnesses.{never, NeedsByNumbers, RunsMet, HoldsCount, SwitchCounts}
use Rattle.boards.specs.Witnesses.{due_order, overrun_order, first_releases, OverrunsCount}

-- of three ranks, each
each : (P : ℕ → Type 0) → P 0 → P 1 → P 2 → (i : ℕ) → i < 3 → P i
each P a b c zero l = a
each P a b c (suc zero) l = b
each P a b c (suc (suc zero)) l = c
each P a b c (suc (suc (suc i))) l = absurd (omega arith)

abbrev InTime : List Row → ℕ → Type 0
InTime order i = is_late (row_at order i) (rows_above order i) (rows_below order i) ≡ false

in_time : NoneLate example_order
unfolding smallest jobs_in longest_response latest_within cost blocking
in_time = each (InTime example_order) refl refl refl

in_time_held : NoneLate held_order
unfolding smallest jobs_in longest_response latest_within cost blocking
in_time_held = each (InTime held_order) refl refl refl

no_hold_lem : (m l : ℕ) → m ≤ 1 → l ≤ 1 → NoneHolds (with_holds m l)
no_hold_lem m l a b = each (λ i. (row_at (with_holds m l) i).hold ≤ 1) (omega arith) a b

-- a job's needs, by the definition of its cost
lasts_by : (order : List Row) (need : ℕ → ℕ → ℕ) → NeedsByNumbers order need → LastsInRange order need
unfolding cost
lasts_by order need h = h

lasts_only_by : (order : List Row) (need : ℕ → ℕ → ℕ) → LastsInRange order need → NeedsByNumbers order need
unfolding cost
lasts_only_by order need h = h

-- rows under a switch have it
under : (s : ℕ) (rows : List Row) (i : ℕ) → i < length (switched s rows) → (row_at (switched s rows) i).switch ≡ s
under s [] i l = absurd (omega arith)
under s (r ∷ rs) zero l = refl
under s (r ∷ rs) (suc i) l = under s rs i (omega arith)

-- jobs of the example's ranks under a switch, whatever the lowest rank's hold
lasts_under : (s hold a b c : ℕ) → (2 ≤ a) × (a ≤ 2 + s) → (6 ≤ b) × (b ≤ 6 + s) → (17 ≤ c) × (c ≤ 19 + s)
    → LastsInRange (switched s (with_holds 0 hold)) (lasting (a ∷ b ∷ c ∷ []))
lasts_under s hold a b c first second third = lasts_by order need
    (λ i k l. each (λ i. ((row_at order i).best ≤ need i k) × (need i k ≤ (row_at order i).worst + (row_at order i).switch))
    first second third i l)
  where
    order : List Row
    order = switched s (with_holds 0 hold)

    need : ℕ → ℕ → ℕ
    need = lasting (a ∷ b ∷ c ∷ [])

-- the longest, and the shortest
longest_under : (s hold : ℕ) → LastsInRange (switched s (with_holds 0 hold)) (lasting ((2 + s) ∷ (6 + s) ∷ (19 + s) ∷ []))
longest_under s hold =
    lasts_under s hold (2 + s) (6 + s) (19 + s) (omega arith, omega arith) (omega arith, omega arith)
    (omega arith, omega arith)

shortest_under : (s hold : ℕ) → LastsInRange (switched s (with_holds 0 hold)) (lasting (2 ∷ 6 ∷ 17 ∷ []))
shortest_under s hold =
    lasts_under s hold 2 6 17 (omega arith, omega arith) (omega arith, omega arith) (omega arith, omega arith)

idle : (i k : ℕ) → i < length example_order
    → board_goes_to example_order at_once (lasting (2 ∷ 6 ∷ 17 ∷ [])) never i k 226 ≡ true → ⊥
idle i k l = each (λ i. board_goes_to example_order at_once (lasting (2 ∷ 6 ∷ 17 ∷ [])) never i k 226 ≡ true → ⊥)
    none none none i l
  where
    none : false ≡ true → ⊥
    none e = true_not_false false e refl

pub runs_met : RunsMet
runs_met = record {
  none_late = in_time;
  lasts = lasts_by;
  lasts_only = lasts_only_by;
  held_early = λ j l. omega arith;
  earliest_reached = refl;
  latest_reached = refl;
  finished_before = refl;
  idle_there = idle;
  highest_short = λ k. omega arith;
  none_holds = no_hold_lem 0 0 (omega arith) (omega arith);
  no_switch = under 0;
  switch_up_to = λ u s h rows i l. omega (arith, h, under u rows i l);
}

pub holds_count : HoldsCount
unfolding smallest largest jobs_in longest_response latest_within cost blocking
holds_count = record {
  none_late = in_time_held;
  latest_is = refl;
  latest_without = refl;
  lasts_latest = longest_under 0 5;
  latest_reached = refl;
  earliest_is = refl;
  earliest_by_equation = refl;
  held_early = λ j l. omega arith;
  lasts_earliest = shortest_under 0 5;
  earliest_reached = refl;
  not_kept = refl;
  not_kept_yet = refl;
  kept_then = refl;
  middle_latest = refl;
  middle_reached = refl;
  one_is_none = no_hold_lem 1 1 (omega arith) (omega arith);
}

-- ---- under a switch
pub switch_counts : SwitchCounts
unfolding smallest largest jobs_in longest_response latest_within cost blocking
switch_counts = record {
  none_late = each (InTime switched_order) refl refl refl;
  latest_is = refl;
  latest_without = refl;
  lasts_latest = longest_under 1 0;
  latest_reached = refl;
  earliest_is = refl;
  held_early = λ j l. omega arith;
  lasts_earliest = shortest_under 1 0;
  earliest_reached = refl;
  held_none_late = each (InTime (switched 1 held_order)) refl refl refl;
  held_lasts = longest_under 1 5;
  held_latest = refl;
  held_reached = refl;
}

-- ---- past the next release
-- with a deadline below the period
held_due : AfterFirstReleases due_order (first_releases (0 ∷ 0 ∷ 47 ∷ [])) 2 47
held_due zero l = omega arith
held_due (suc zero) l = omega arith
held_due (suc (suc j)) l = omega arith

lasts_due : LastsInRange due_order (lasting (2 ∷ 6 ∷ 17 ∷ []))
lasts_due = lasts_by due_order need
    (λ i k l. each (λ i. ((row_at due_order i).best ≤ need i k)
    × (need i k ≤ (row_at due_order i).worst + (row_at due_order i).switch))
    (omega arith, omega arith) (omega arith, omega arith) (omega arith, omega arith) i l)
  where
    need : ℕ → ℕ → ℕ
    need = lasting (2 ∷ 6 ∷ 17 ∷ [])

either : (P : ℕ → Type 0) → P 0 → P 1 → (i : ℕ) → i < 2 → P i
either P a b zero l = a
either P a b (suc zero) l = b
either P a b (suc (suc i)) l = absurd (omega arith)

lasts_over : (c : ℕ) → (40 ≤ c) × (c ≤ 62) → LastsInRange overrun_order (lasting (26 ∷ c ∷ []))
lasts_over c lower = lasts_by overrun_order need
    (λ i k l. either (λ i. ((row_at overrun_order i).best ≤ need i k)
    × (need i k ≤ (row_at overrun_order i).worst + (row_at overrun_order i).switch)) (omega arith, omega arith) lower i l)
  where
    need : ℕ → ℕ → ℕ
    need = lasting (26 ∷ c ∷ [])

held_over : AfterFirstReleases overrun_order (first_releases (0 ∷ 30 ∷ [])) 1 730
held_over zero l = omega arith
held_over (suc j) l = absurd (omega arith)

pub overruns_count : OverrunsCount
unfolding smallest largest jobs_in longest_response latest_within cost blocking
overruns_count = record {
  due_none_late = each (InTime due_order) refl refl refl;
  due_held = held_due;
  due_earliest = refl;
  due_lasts = lasts_due;
  due_reached = refl;
  held_by_deadline = λ order offset i r h. h;
  none_late = either (InTime overrun_order) refl refl;
  lasts_latest = lasts_over 62 (omega arith, omega arith);
  jobs_are = refl;
  latest_is = refl;
  first_is = refl;
  fifth_is = refl;
  last_is = refl;
  first_reached = refl;
  latest_reached = refl;
  last_reached = refl;
  older_first = refl;
  late_below = refl;
  earliest_is = refl;
  lasts_earliest = lasts_over 40 (omega arith, omega arith);
  held_early = held_over;
  earliest_reached = refl;
  held_first = refl;
  held_fifth = refl;
}
