-- An order of rows in range has its figures by the formulas. One in which no task is late has them as its plan's
-- entries, and every board keeps them.
use mathlib.Core.Path.{◌≡◌, sym, ap, ◌∙◌, subst}
use mathlib.Core.Bool.{Bool, true}
use mathlib.Core.List.{List, [], Perm}
use Prim.Native.Nat.{ℕ, suc, ◌≤◌, ◌<◌}
use native.Mathlib.Omega.{arith}
use lib.ListN.{length, take, length-take}
use lib.Seq.{get_or-take}
use Rattle.rows.specs.Rows.{in_range, times_in_range, all_rows, row_at, no_row}
use Rattle.rows.specs.Rows.{Row}
use Rattle.rows.proofs.Limits.{all_times, at_passes, front_passes}
use Rattle.responses.specs.Figures.{rows_above, rows_below}
use Rattle.responses.specs.Claims.{AsRequest2, AsDocument01, NoSwitch, NoneHolds, SwitchUpTo, Grows}
use Rattle.responses.proofs.Conditions.{by_condition, own_curve}
use Rattle.responses.proofs.Responses.{figured, without_either}
use Rattle.responses.proofs.Finishes.{ends, within_period}
use Rattle.responses.proofs.Deadlines.{own_deadline}
use Rattle.responses.proofs.Switches.{by_numbers, without_switch, switch_grows}
use Rattle.responses.proofs.Sequences.{by_set}
use Rattle.responses.proofs.Blocking.{rest_holds}
use Rattle.boards.specs.Claims.{LastsInRange, Kept, latest_at, earliest_at, NoneLate}
use Rattle.boards.proofs.Bounds as Boards
use Rattle.boards.proofs.Runs.{board_runs}
use Rattle.plans.specs.Entries.{entry, no_entry}
use Rattle.plans.proofs.Entries.{entries_length, entry_at_lem, entry_same}
use Rattle.demands.specs.Demands.{ByFormulas, entry_at, Promised}

-- what each row of an order has, has each of the first
front_each : (P : Row → Type 0) (rs : List Row) (n : ℕ) → ((i : ℕ) → i < length rs → P (row_at rs i))
    → (i : ℕ) → i < length (take n rs) → P (row_at (take n rs) i)
front_each P rs n h i l =
    subst P (sym (get_or-take n rs i no_row (omega (arith, l, length-take n rs)))) (h i (omega (arith, l, length-take n rs)))

module _ (order : List Row) (ok : all_rows in_range order ≡ true) where
  times_ok : all_rows times_in_range order ≡ true
  times_ok = all_times order ok

  at_times : (i : ℕ) → i < length order → times_in_range (row_at order i) ≡ true
  at_times i h = at_passes times_in_range order i times_ok h

  times_above : (i : ℕ) → all_rows times_in_range (rows_above order i) ≡ true
  times_above i = front_passes times_in_range i order times_ok

  pub by_formulas : ByFormulas order
  by_formulas = record {
    figured = λ i h.
        figured (row_at order i) (rows_above order i) (rows_below order i) (at_times i h) (times_above i);
    ends = λ i h. ends (row_at order i) (rows_above order i) (rows_below order i) (at_times i h) (times_above i);
    by_condition = λ i h.
        by_condition (row_at order i) (rows_above order i) (rows_below order i) (at_passes in_range order i ok h);
    own_curve = λ i h. own_curve (row_at order i) (rows_above order i) (rows_below order i);
    own_deadline = λ i d h. own_deadline (row_at order i) (rows_above order i) (rows_below order i) d (at_times i h);
    within_period = λ i h due.
        within_period (row_at order i) (rows_above order i) (rows_below order i) (at_times i h) due;
  }

module _ (order : List Row) (ok : all_rows in_range order ≡ true) (in_time : NoneLate order) where
  entry_is : (i : ℕ) → i < length order → entry_at order i
      ≡ entry (row_at order i) (rows_above order i) (rows_below order i)
  entry_is i h = entry_at_lem order i no_entry h

  -- what the board keeps is what the entries say
  kept : (offset : ℕ → ℕ) (need : ℕ → ℕ → ℕ) (keeps : ℕ → Bool) → LastsInRange order need
      → Kept order offset need keeps (λ i. (entry_at order i).worst) (λ i. (entry_at order i).best)
  kept offset need keeps lasts =
      let k = Boards.kept order offset need keeps (times_ok order ok) in_time lasts in
      record {
        in_time = λ i n h.
            let t = k.in_time i n h in
            let w : (entry_at order i).worst ≡ latest_at order i = ap (λ e. e.worst) (entry_is i h) in
            (t.0, t.1, omega (arith, t.2, w), t.3);
        once = k.once;
        not_early = λ i r f h started done.
            let b : (entry_at order i).best ≡ earliest_at order i = ap (λ e. e.best) (entry_is i h) in
            omega (arith, k.not_early i r f h started done, b);
      }

  by_sets : (i : ℕ) (above' below' : List Row) → i < length order
      → Perm (rows_above order i) above' → Perm (rows_below order i) below'
      → entry_at order i ≡ entry (row_at order i) above' below'
  by_sets i above' below' h p q =
      let t = row_at order i in
      let above = rows_above order i in
      let below = rows_below order i in
      entry_is i h ∙ entry_same t above above' below below' (by_set t above above' below below' p q)

  before_switch : NoSwitch order → (i : ℕ) → i < length order → (row_at order i).deadline ≡ (row_at order i).period
      → AsRequest2 (row_at order i) (rows_above order i) (rows_below order i)
  before_switch none i h due =
      without_switch (row_at order i) (rows_above order i) (rows_below order i) (at_times order ok i h) due (none i h)
      (front_each (λ r. r.switch ≡ 0) order i none)

  as_before : NoSwitch order → NoneHolds order → (i : ℕ) → i < length order
      → (row_at order i).deadline ≡ (row_at order i).period
      → AsDocument01 (row_at order i) (rows_above order i) (rows_below order i)
  as_before free none i h due =
      without_either (row_at order i) (rows_above order i) (rows_below order i) (at_times order ok i h) due (free i h)
      (front_each (λ r. r.switch ≡ 0) order i free) (none i h) (rest_holds order (suc i) none)

  grows : (s : ℕ) → SwitchUpTo s order → (i : ℕ) → i < length order
      → Grows (row_at order i) (rows_above order i) (rows_below order i) s
  grows s up i h =
      switch_grows (row_at order i) (rows_above order i) (rows_below order i) s (at_passes in_range order i ok h)
      (times_above order ok i) (up i h) (front_each (λ r. r.switch ≤ s) order i up)

  pub promised : Promised order
  promised = record {
    as_many = entries_length [] order;
    entry_is = entry_is;
    by_formulas = by_formulas order ok;
    by_sets = by_sets;
    by_numbers = λ i h. by_numbers (row_at order i) (rows_above order i) (rows_below order i);
    without_switch = before_switch;
    without_either = as_before;
    switch_grows = grows;
    by_rules = λ offset need keeps lasts. board_runs order offset need keeps (times_ok order ok) lasts;
    kept = kept;
  }
