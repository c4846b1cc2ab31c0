-- The board theorem: in every run of an order of rows in range in which no task is late, each rank's responses are
-- kept. W is taken over the jobs of a busy interval, the last of which is done when the next is released; E is by its
-- equation for a task that runs by rank only, and else the best time.
use mathlib.Core.Path.{◌≡◌, sym}
use mathlib.Core.Bool.{Bool, true}
use mathlib.Core.List.{List}
use mathlib.Core.Logic.{inl, inr}
use Prim.Native.Nat.{ℕ, ◌+◌, ◌≤◌, ◌<◌}
use native.Mathlib.Omega.{arith}
use native.Mathlib.Nat.{le_trans, le_of_eq}
use lib.ListN.{length}
use Rattle.basics.proofs.Tests.{le-or-lt}
use Rattle.rows.specs.Rows.{times_in_range, all_rows, row_at}
use Rattle.rows.specs.Rows.{Row}
use Rattle.rows.proofs.Limits.{Times, times, at_passes, front_passes}
use Rattle.responses.specs.Figures.{rows_above, rows_below, finish_of}
use Rattle.responses.specs.Claims.{Figured}
use Rattle.responses.proofs.Responses.{figured}
use Rattle.boards.specs.Claims.{LastsInRange, Finishes, AfterFirstReleases, Kept, latest_at, earliest_at, NoneLate}
use Rattle.boards.proofs.Responses.{Covers, kept_late, kept_own, kept_early, kept_once}

module _ (order : List Row) (offset : ℕ → ℕ) (need : ℕ → ℕ → ℕ) (keeps : ℕ → Bool)
    (ok : all_rows times_in_range order ≡ true) (timely : NoneLate order) (lasts : LastsInRange order need) where
  rows : (j : ℕ) → j < length order → Times (row_at order j)
  rows j l = times (row_at order j) (at_passes times_in_range order j ok l)

  figures : (i : ℕ) → i < length order → Figured (row_at order i) (rows_above order i) (rows_below order i)
  figures i l =
      figured (row_at order i) (rows_above order i) (rows_below order i) (at_passes times_in_range order i ok l)
      (front_passes times_in_range i order ok)

  -- the w(q) of rank i, and its last job
  abbrev w : ℕ → ℕ → ℕ
  w i q = finish_of (row_at order i) (rows_above order i) (rows_below order i) q

  abbrev last : (i : ℕ) → i < length order → ℕ
  last i l = ((figures i l).latest_is (timely i l)).0

  covers : (i : ℕ) → (l : i < length order)
      → Covers order offset need keeps rows lasts i (latest_at order i) (last i l) (w i)
  covers i l =
      let x = figures i l in
      let e = (x.latest_is (timely i l)).1 in
      record {
        some = e.found;
        fits = λ q h. le_of_eq (sym (x.finish_fixed q (e.found q h)).0);
        within = e.none_longer;
        ends = e.ends;
      }

  not_early : (i r f : ℕ) → i < length order → AfterFirstReleases order offset i r
      → Finishes order offset need keeps i r f → r + earliest_at order i ≤ f
  not_early i r f l started done =
      let t = row_at order i in
      let x = figures i l in
      elim (le-or-lt t.hold 1) [
        | inl h ↦ (
            let due = (x.latest_is (timely i l)).2 in
            let e = x.earliest_fixed h (timely i l) in
            kept_early order offset need keeps rows lasts i r f (earliest_at order i) t.deadline l h e.1
            (le_trans e.2 due) (le_of_eq e.0) (λ j b. omega (arith, started j b)) done)
        | inr h ↦ rw (x.earliest_held h) (kept_own order offset need keeps rows lasts i r f l done)
      ]

  pub kept : Kept order offset need keeps (latest_at order) (earliest_at order)
  kept = record {
    in_time = λ i k l.
        kept_late order offset need keeps rows lasts i k (latest_at order i) (last i l) (w i) l (covers i l);
    once = kept_once order offset need keeps rows lasts;
    not_early = not_early;
  }
