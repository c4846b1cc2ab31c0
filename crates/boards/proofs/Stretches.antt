-- A board's ticks: the rank of each, and the tick in which its stretch began. Its queues stay one a rank; a stretch
-- that goes on has a job, and no more ticks than its row's hold.
use mathlib.Core.Path.{◌≡◌, refl, sym, ap, subst, ◌∙◌}
use mathlib.Core.Bool.{Bool, true, false}
use mathlib.Core.List.{List}
use mathlib.Core.Logic.{inl, inr}
use Prim.Native.Nat.{ℕ, zero, suc, ◌+◌, ◌-◌, ◌≤◌, ◌<◌}
use native.Mathlib.Omega.{arith}
use native.Mathlib.Nat.{le_refl, zero-add}
use lib.Dec.{leb}
use lib.ListN.{length}
use borrow.Author.Tests.{leb-true}
use Rattle.basics.specs.Basics.{pick}
use Rattle.basics.proofs.Tests.{test_of, true_not_false, false_of, and_right}
use Rattle.rows.specs.Rows.{row_at}
use Rattle.rows.specs.Rows.{Row}
use Rattle.boards.specs.Boards.{Job, Board, with_releases, highest, queue_at, ends, goes_on, after_ticks}
use Rattle.boards.proofs.Queues.{HasJob, queue_there, worked_has, released_has, length_none, length_released}
use Rattle.boards.proofs.Queues.{released_at, highest_at, length_worked, worked_same}

-- rank j's hold
abbrev pub hold_of : List Row → ℕ → ℕ
hold_of order j = (row_at order j).hold

module _ (order : List Row) (offset : ℕ → ℕ) (need : ℕ → ℕ → ℕ) (keeps : ℕ → Bool) where
  -- the board before tick t, and the queues in it, its releases made
  abbrev pub board_before : ℕ → Board
  board_before t = after_ticks order offset need keeps t

  abbrev pub queues_in : ℕ → List (List Job)
  queues_in t = with_releases 0 t order offset need (board_before t).pending

  -- whether the stretch of the tick before goes on in tick t; the rank that tick t goes to
  abbrev pub on_in : ℕ → Bool
  on_in t = goes_on keeps t (board_before t)

  abbrev pub runs_in : ℕ → ℕ
  runs_in t = (board_before (suc t)).holder

  -- the tick in which the stretch of tick t began
  abbrev pub began_in : ℕ → ℕ
  began_in zero = 0
  began_in (suc t) = pick (on_in (suc t)) (began_in t) (suc t)

  -- ---- one queue for each rank
  pub ranks_before : (t : ℕ) → length (board_before t).pending ≡ length order
  ranks_before zero = length_none order
  ranks_before (suc t) =
      length_worked (runs_in t) (queues_in t)
      ∙ length_released offset need 0 t order (board_before t).pending (ranks_before t)

  pub ranks_in : (t : ℕ) → length (queues_in t) ≡ length order
  ranks_in t = length_released offset need 0 t order (board_before t).pending (ranks_before t)

  -- ---- a tick in a stretch that goes on, and one by rank
  pub runs_on : (t : ℕ) → on_in t ≡ true → runs_in t ≡ (board_before t).holder
  runs_on t e = ap (λ (b : Bool). pick b (board_before t).holder (highest (queues_in t))) e

  pub runs_new : (t : ℕ) → on_in t ≡ false → runs_in t ≡ highest (queues_in t)
  runs_new t e = ap (λ (b : Bool). pick b (board_before t).holder (highest (queues_in t))) e

  pub left_some : (t : ℕ) → on_in t ≡ true → 1 ≤ (board_before t).left
  left_some t e = leb-true 1 (board_before t).left (and_right (keeps t) (leb 1 (board_before t).left) e)

  pub off : (t : ℕ) → (board_before t).left ≡ 0 → on_in t ≡ false
  off t z = false_of (on_in t) (λ e. omega (arith, left_some t e))

  pub began_on : (t : ℕ) → on_in (suc t) ≡ true → began_in (suc t) ≡ began_in t
  began_on t e = ap (λ (b : Bool). pick b (began_in t) (suc t)) e

  pub began_new : (t : ℕ) → on_in t ≡ false → began_in t ≡ t
  began_new zero e = refl
  began_new (suc t) e = ap (λ (b : Bool). pick b (began_in t) (suc t)) e

  pub began_by : (t : ℕ) → began_in t ≤ t
  began_by zero = le_refl 0
  began_by (suc t) = elim (test_of (on_in (suc t))) [
    | inl e ↦ omega (arith, began_on t e, began_by t)
    | inr e ↦ omega (arith, began_new (suc t) e)
  ]

  -- ---- what is left of a stretch: nothing past its job; else a tick less than before it, or than its hold
  abbrev pub ends_in : ℕ → Bool
  ends_in t = ends (queue_at (queues_in t) (runs_in t))

  left_ended : (t : ℕ) → ends_in t ≡ true → (board_before (suc t)).left ≡ 0
  left_ended t e = rw e

  pub left_on : (t : ℕ) → ends_in t ≡ false → on_in t ≡ true → (board_before (suc t)).left ≡ (board_before t).left - 1
  left_on t e o = rw (e, o)

  pub left_new : (t : ℕ) → ends_in t ≡ false → on_in t ≡ false → (board_before (suc t)).left ≡ hold_of order (runs_in t) - 1
  left_new t e o = rw (e, o)

  pub not_ended : (t : ℕ) → 1 ≤ (board_before (suc t)).left → ends_in t ≡ false
  not_ended t l = false_of (ends_in t) (λ e. omega (arith, left_ended t e))

  held_new : (t : ℕ) → on_in t ≡ false → 1 ≤ (board_before (suc t)).left
      → suc t + (board_before (suc t)).left ≤ began_in t + hold_of order (runs_in t)
  held_new t o l = omega (arith, left_new t (not_ended t l) o, began_new t o)

  held_left : (t : ℕ) → 1 ≤ (board_before (suc t)).left
      → suc t + (board_before (suc t)).left ≤ began_in t + hold_of order (runs_in t)
  held_left zero l = held_new 0 (off 0 refl) l
  held_left (suc t) l = elim (test_of (on_in (suc t))) [
    | inl o ↦ (
        let same = ap (hold_of order) (runs_on (suc t) o) in
        let before = held_left t (left_some (suc t) o) in
        omega (arith, left_on (suc t) (not_ended (suc t) l) o, same, began_on t o))
    | inr o ↦ held_new (suc t) o l
  ]

  -- ---- the rank that runs has a job
  job_on : (t : ℕ) → on_in t ≡ true → HasJob (queue_at (queues_in t) (board_before t).holder)
  job_on zero e = absurd (true_not_false (on_in 0) e (off 0 refl))
  job_on (suc t) e =
      let m = runs_in t in
      let o : HasJob (queue_at (board_before (suc t)).pending m) =
      rw (worked_same m (queues_in t))
      (worked_has (queue_at (queues_in t) m) (not_ended t (left_some (suc t) e))) in
      let n = ranks_before (suc t) in
      let l : m < length order = omega (arith, queue_there (board_before (suc t)).pending m o) in
      rw (released_at offset need 0 (suc t) order (board_before (suc t)).pending m n l, zero-add m)
      (released_has (need m) (row_at order m) (offset m) (suc t) (queue_at (board_before (suc t)).pending m) o)

  pub rank_on : (t : ℕ) → on_in t ≡ true → runs_in t < length order
  rank_on t e =
      omega (arith, queue_there (queues_in t) (board_before t).holder (job_on t e), runs_on t e, ranks_in t)

  pub job_in : (j t : ℕ) → j < length order → runs_in t ≡ j → HasJob (queue_at (queues_in t) j)
  job_in j t l r = elim (test_of (on_in t)) [
    | inl e ↦ subst (λ m. HasJob (queue_at (queues_in t) m)) (sym (runs_on t e) ∙ r) (job_on t e)
    | inr e ↦ highest_at (queues_in t) j (sym (runs_new t e) ∙ r) (omega (arith, ranks_in t))
  ]

  -- ---- a stretch of two or more ticks has at most its hold
  pub within_hold : (t : ℕ) → began_in t < t → (runs_in t < length order) × (t < began_in t + hold_of order (runs_in t))
  within_hold zero b = absurd (omega arith)
  within_hold (suc t) b = elim (test_of (on_in (suc t))) [
    | inl e ↦ (
        let same = ap (hold_of order) (runs_on (suc t) e) in
        (rank_on (suc t) e, omega (arith, same, left_some (suc t) e, began_on t e, held_left t (left_some (suc t) e))))
    | inr e ↦ absurd (omega (arith, began_new (suc t) e))
  ]
