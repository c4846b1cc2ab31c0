-- The task numbers of some rows, and the rows of tasks by their positions among them.
use mathlib.Core.Path.{◌≡◌, refl, sym, ap, ap₂, ◌∙◌}
use mathlib.Core.Bool.{Bool, true, false, ◌||◌}
use mathlib.Core.List.{List, [], ◌∷◌, ◌++◌, map-append}
use mathlib.Core.Logic.{inl, inr}
use Prim.Native.Nat.{ℕ, zero, suc, ◌≤◌, ◌<◌}
use native.Mathlib.Omega.{arith}
use lib.Dec.{eqb}
use lib.ListN.{length, get_or, take, drop, length-map}
use lib.Seq.{length-take-le, take-append_seam}
use borrow.Author.Tests.{eqb-true}
use Rattle.basics.proofs.Tests.{never, and_left, and_right, and_both, or_cases, Within}
use Rattle.rows.specs.Rows.{Row}
use Rattle.rows.specs.Rows.{min_task, max_task, no_row, in_range, all_rows, tasks_of, has_task, position_of}
use Rattle.rows.specs.Rows.{row_for, rows_for, row_at, all_tasks}
use Rattle.rows.specs.inside.Numbers.{rows_at, positions_for, Below, TaskNumbers}
use Rattle.rows.proofs.Limits.{limits, head_passes, tail_passes, at_passes}

pub tasks_length : (rs : List Row) → length (tasks_of rs) ≡ length rs
tasks_length [] = refl
tasks_length (r ∷ rs) = ap suc (tasks_length rs)

pub tasks_last : (rs : List Row) (r : Row) → tasks_of (rs ++ (r ∷ [])) ≡ tasks_of rs ++ (r.task ∷ [])
tasks_last [] r = refl
tasks_last (x ∷ rs) r = ap (λ l. x.task ∷ l) (tasks_last rs r)

-- ---- tasks that some rows have
pub all_tasks_last : (ts : List ℕ) (t : ℕ) (rs : List Row) → all_tasks ts rs ≡ true → has_task t rs ≡ true
    → all_tasks (ts ++ (t ∷ [])) rs ≡ true
all_tasks_last [] t rs e h = rw h
all_tasks_last (x ∷ ts) t rs e h =
    rw (and_left (has_task x rs) (all_tasks ts rs) e)
    (all_tasks_last ts t rs (and_right (has_task x rs) (all_tasks ts rs) e) h)

-- those of rows in range are task numbers
pub has_within : (t : ℕ) (rs : List Row) → has_task t rs ≡ true → all_rows in_range rs ≡ true → Within min_task max_task t
has_within t [] h ok = never h
has_within t (r ∷ rs) h ok =
    elim (or_cases (eqb t r.task) (has_task t rs) h) [
      | inl e ↦ rw (eqb-true t r.task e) (limits r (head_passes in_range r rs ok)).task
      | inr e ↦ has_within t rs e (tail_passes in_range r rs ok)
    ]

pub all_small : (ts : List ℕ) (rs : List Row) → all_tasks ts rs ≡ true → all_rows in_range rs ≡ true → TaskNumbers ts
all_small [] rs h ok i l = absurd (omega arith)
all_small (t ∷ ts) rs h ok zero l = (has_within t rs (and_left (has_task t rs) (all_tasks ts rs) h) ok).le_high
all_small (t ∷ ts) rs h ok (suc i) l =
    all_small ts rs (and_right (has_task t rs) (all_tasks ts rs) h) ok i (omega arith)

-- ---- the row of a task; past the last row stands no row
first_or : (b : Bool) (r : Row) (rs : List Row) (i : ℕ) (x : Row) → get_or rs i no_row ≡ x
    → get_or (r ∷ rs) (elim b [ true ↦ 0 | false ↦ suc i ]) no_row ≡ elim b [ true ↦ r | false ↦ x ]
first_or true r rs i x e = refl
first_or false r rs i x e = e

row-at : (t : ℕ) (rs : List Row) → row_at rs (position_of t (tasks_of rs)) ≡ row_for t rs
row-at t [] = refl
row-at t (r ∷ rs) = first_or (eqb t r.task) r rs _ _ (row-at t rs)

-- ---- where some tasks stand among some rows
pub positions_last : (ts : List ℕ) (t : ℕ) (rs : List Row)
    → positions_for (ts ++ (t ∷ [])) rs ≡ positions_for ts rs ++ (position_of t (tasks_of rs) ∷ [])
positions_last ts t rs = map-append (λ x. position_of x (tasks_of rs)) ts (t ∷ [])

pub positions_length : (ts : List ℕ) (rs : List Row) → length (positions_for ts rs) ≡ length ts
positions_length ts rs = length-map ts (λ x. position_of x (tasks_of rs))

-- the rows there are the tasks' rows
pub positions_rows : (ts : List ℕ) (rs : List Row) → rows_at rs (positions_for ts rs) ≡ rows_for ts rs
positions_rows [] rs = refl
positions_rows (t ∷ ts) rs = ap₂ (λ r l. r ∷ l) (row-at t rs) (positions_rows ts rs)

-- a task of some rows stands among them
first_below : (b : Bool) (i n : ℕ) → (b ≡ false → i < n) → elim b [ true ↦ 0 | false ↦ suc i ] < suc n
first_below true i n h = omega arith
first_below false i n h = omega (arith, h refl)

position_below : (t : ℕ) (rs : List Row) → has_task t rs ≡ true → position_of t (tasks_of rs) < length rs
position_below t [] h = never h
position_below t (r ∷ rs) h =
    first_below (eqb t r.task) (position_of t (tasks_of rs)) (length rs)
    (λ e. position_below t rs (sym (ap (λ b. b || has_task t rs) e) ∙ h))

pub positions_below : (ts : List ℕ) (rs : List Row) → all_tasks ts rs ≡ true → Below (length rs) (positions_for ts rs)
positions_below [] rs h k l = absurd (omega arith)
positions_below (t ∷ ts) rs h zero l = position_below t rs (and_left (has_task t rs) (all_tasks ts rs) h)
positions_below (t ∷ ts) rs h (suc k) l =
    positions_below ts rs (and_right (has_task t rs) (all_tasks ts rs) h) k (omega arith)

-- ---- the positions of n tasks at the front of an array
module _ (ts : List ℕ) (rs : List Row) (n : ℕ) (ps qs : List ℕ) (many : n ≤ length ts)
    (is : qs ≡ positions_for (take n ts) rs ++ drop n ps) where
  pub positions_are : take n qs ≡ positions_for (take n ts) rs
  positions_are =
      let long = positions_length (take n ts) rs ∙ length-take-le n ts many in
      ap₂ take (sym long) is ∙ take-append_seam (positions_for (take n ts) rs) (drop n ps)

  pub rows_for_positions : rows_at rs (take n qs) ≡ rows_for (take n ts) rs
  rows_for_positions = ap (rows_at rs) positions_are ∙ positions_rows (take n ts) rs

-- rows at positions below their number pass what all rows pass
pub at_all_pass : (f : Row → Bool) (rs : List Row) (ps : List ℕ) → Below (length rs) ps → all_rows f rs ≡ true
    → all_rows f (rows_at rs ps) ≡ true
at_all_pass f rs [] h ok = refl
at_all_pass f rs (p ∷ ps) h ok =
    and_both (f (row_at rs p)) (all_rows f (rows_at rs ps)) (at_passes f rs p ok (h 0 (omega arith)))
    (at_all_pass f rs ps (λ k l. h (suc k) (omega arith)) ok)
