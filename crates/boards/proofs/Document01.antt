-- With every hold 0 or 1 no stretch has a second tick, so every tick goes by rank, and the run is that of document 01's
-- board.
use mathlib.Core.Path.{◌≡◌, refl, sym, ap, ap₂, ◌∙◌}
use mathlib.Core.Bool.{Bool}
use mathlib.Core.List.{List, [], ◌∷◌, ◌++◌}
use mathlib.Core.Logic.{inl, inr}
use Prim.Native.Nat.{ℕ, zero, suc, ◌+◌}
use native.Mathlib.Omega.{arith}
use native.Mathlib.Nat.{add-zero, zero-add}
use Rattle.basics.proofs.Tests.{le-or-lt}
use Rattle.rows.specs.Rows.{Row}
use Rattle.responses.specs.Claims.{NoneHolds}
use Rattle.boards.specs.Boards.{Job, with_releases, highest, queue_at, worked_at, finishing}
use Rattle.boards.specs.Document01.{after_work, finishes, pending_then, finished_then, SameBoard}
use Rattle.boards.proofs.Queues.{queue_there, goes_on}
use Rattle.boards.proofs.Stretches.{board_before, queues_in, runs_in, ranks_in, runs_new, off, left_new, not_ended}

-- ---- a tick of document 01's board is one of the highest rank with a job
pub work_is : (qs : List (List Job)) → after_work qs ≡ worked_at (highest qs) qs
work_is [] = refl
work_is ([] ∷ qs) = ap (λ (x : List (List Job)). [] ∷ x) (work_is qs)
work_is ((x ∷ q) ∷ qs) = refl

pub finishes_is : (i t : ℕ) (qs : List (List Job))
    → finishes i t qs ≡ finishing (i + highest qs) t (queue_at qs (highest qs))
finishes_is i t [] = refl
finishes_is i t ([] ∷ qs) =
    let s : i + suc (highest qs) ≡ suc i + highest qs = omega arith in
    rw s (finishes_is (suc i) t qs)
finishes_is i t ((x ∷ q) ∷ qs) = rw add-zero

module _ (order : List Row) (offset : ℕ → ℕ) (need : ℕ → ℕ → ℕ) (keeps : ℕ → Bool) (short : NoneHolds order) where
  -- ---- no stretch has a tick left
  none_left : (t : ℕ) → (board_before order offset need keeps t).left ≡ 0
  none_left zero = refl
  none_left (suc t) = elim (le-or-lt 1 (board_before order offset need keeps (suc t)).left) [
    | inl h ↦ (
        let m = runs_in order offset need keeps t in
        let qs = queues_in order offset need keeps t in
        let e = not_ended order offset need keeps t h in
        let under = queue_there qs m (goes_on (queue_at qs m) e) in
        let one = short m (omega (arith, ranks_in order offset need keeps t)) in
        absurd (omega (arith, left_new order offset need keeps t e (off order offset need keeps t (none_left t)))))
    | inr h ↦ omega (arith, h)
  ]

  by_rank : (t : ℕ) → runs_in order offset need keeps t ≡ highest (queues_in order offset need keeps t)
  by_rank t = runs_new order offset need keeps t (off order offset need keeps t (none_left t))

  -- ---- tick by tick, the same jobs are pending and the same are finished
  pending_same : (t : ℕ) → (board_before order offset need keeps t).pending ≡ pending_then order offset need t
  pending_same zero = refl
  pending_same (suc t) =
      let qs = queues_in order offset need keeps t in
      ap (λ (m : ℕ). worked_at m qs) (by_rank t)
      ∙ (sym (work_is qs)
      ∙ ap (λ (p : List (List Job)). after_work (with_releases 0 t order offset need p)) (pending_same t))

  finished_same : (t : ℕ) → (board_before order offset need keeps t).finished ≡ finished_then order offset need t
  finished_same zero = refl
  finished_same (suc t) =
      let qs = queues_in order offset need keeps t in
      let queues = ap (with_releases 0 t order offset need) (pending_same t) in
      let now = ap (λ (m : ℕ). finishing m t (queue_at qs m)) (by_rank t) in
      let same = now ∙ (sym (rw zero-add at (finishes_is 0 t qs)) ∙ ap (finishes 0 t) queues) in
      ap₂ ◌++◌ (finished_same t) same

pub same_board : (order : List Row) (offset : ℕ → ℕ) (need : ℕ → ℕ → ℕ) (keeps : ℕ → Bool)
    → SameBoard order offset need keeps
same_board order offset need keeps = record {
  same_pending = pending_same order offset need keeps;
  same_finished = finished_same order offset need keeps;
}
