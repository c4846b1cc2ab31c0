-- What is claimed of a run: every job finishes, once, within its task's latest response, and none that is released a
-- deadline of its own after the first releases above finishes before its earliest. Row i of an order has rank i.
use Rattle.std.specs.Prelude.{◌≡◌, Bool, true, false, List, ℕ, ◌+◌, ◌*◌, ◌≤◌, ◌<◌, length}
use Rattle.rows.specs.Rows.{row_at, cost}
use Rattle.rows.specs.Rows.{Row}
use Rattle.responses.specs.Figures.{rows_above, rows_below, latest, earliest, is_late}
use Rattle.boards.specs.Boards.{after_ticks, is_done}

-- each job needs from its row's best to its cost
abbrev pub LastsInRange : List Row → (ℕ → ℕ → ℕ) → Type 0
LastsInRange order need =
    (i k : ℕ) → i < length order → ((row_at order i).best ≤ need i k) × (need i k ≤ cost (row_at order i))

-- rank i's job released at r finishes at f
abbrev pub Finishes : List Row → (ℕ → ℕ) → (ℕ → ℕ → ℕ) → (ℕ → Bool) → ℕ → ℕ → ℕ → Type 0
Finishes order offset need keeps i r f = is_done i r f (after_ticks order offset need keeps f).finished ≡ true

-- r is a deadline of rank i's own, or more, after the first release of every task above it
abbrev pub AfterFirstReleases : List Row → (ℕ → ℕ) → ℕ → ℕ → Type 0
AfterFirstReleases order offset i r = (j : ℕ) → j < i → offset j + (row_at order i).deadline ≤ r

-- a run keeps each rank's latest and earliest response
pub record Kept (order : List Row) (offset : ℕ → ℕ) (need : ℕ → ℕ → ℕ) (keeps : ℕ → Bool)
    (late early : ℕ → ℕ) : Type 0 where
  -- the kth job of rank i finishes within its latest response
  pub in_time :
      (i k : ℕ) → i < length order
      → let r = offset i + k * (row_at order i).period in
      (f : ℕ) × (r < f) × (f ≤ r + late i) × Finishes order offset need keeps i r f
  -- and finishes only then
  pub once :
      (i r f g : ℕ) → i < length order
      → Finishes order offset need keeps i r f → Finishes order offset need keeps i r g → f ≡ g
  -- one released then does not finish before its earliest
  pub not_early :
      (i r f : ℕ) → i < length order
      → AfterFirstReleases order offset i r
      → Finishes order offset need keeps i r f
      → r + early i ≤ f

-- the responses of rank i between the rows above it and those below it, in the order's own sequence
abbrev pub latest_at : List Row → ℕ → ℕ
latest_at order i = latest (row_at order i) (rows_above order i) (rows_below order i)

abbrev pub earliest_at : List Row → ℕ → ℕ
earliest_at order i = earliest (row_at order i) (rows_above order i) (rows_below order i)

abbrev pub NoneLate : List Row → Type 0
NoneLate order =
    (i : ℕ) → i < length order → is_late (row_at order i) (rows_above order i) (rows_below order i) ≡ false
