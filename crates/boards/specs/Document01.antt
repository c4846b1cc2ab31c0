-- Document 01's board, whose every tick goes by rank. With every hold 0 or 1 a run is that board's, tick by tick,
-- whatever the run says of stretches.
use Rattle.std.specs.Prelude.{◌≡◌, Bool, List, [], ◌∷◌, ◌++◌, ℕ, zero, suc, ◌-◌, leb}
use Rattle.basics.specs.Basics.{pick}
use Rattle.rows.specs.Rows.{Row}
use Rattle.responses.specs.Claims.{NoneHolds}
use Rattle.boards.specs.Boards.{Job, Done, no_jobs, with_releases, after_ticks}

-- the pending job of highest rank runs a tick, the oldest of its task; with none, the tick is idle
abbrev pub after_work : List (List Job) → List (List Job)
after_work [] = []
after_work ([] ∷ qs) = [] ∷ after_work qs
after_work ((j ∷ q) ∷ qs) = pick (leb j.needs 1) q (record { release = j.release; needs = j.needs - 1 } ∷ q) ∷ qs

-- the job whose last tick is t, if it has one
abbrev pub finishes : ℕ → ℕ → List (List Job) → List Done
finishes i t [] = []
finishes i t ([] ∷ qs) = finishes (suc i) t qs
finishes i t ((j ∷ q) ∷ qs) =
    pick (leb j.needs 1) (record { rank = i; release = j.release; finish = suc t } ∷ []) []

module _ (order : List Row) (offset : ℕ → ℕ) (need : ℕ → ℕ → ℕ) where
  -- the pending jobs before tick t, and those finished; tick t is releases, then work
  abbrev pub pending_then : ℕ → List (List Job)
  pending_then zero = no_jobs order
  pending_then (suc t) = after_work (with_releases 0 t order offset need (pending_then t))

  abbrev pub finished_then : ℕ → List Done
  finished_then zero = []
  finished_then (suc t) = finished_then t ++ finishes 0 t (with_releases 0 t order offset need (pending_then t))

  pub record SameBoard (keeps : ℕ → Bool) : Type 0 where
    pub same_pending :
        NoneHolds order → (t : ℕ) → (after_ticks order offset need keeps t).pending ≡ pending_then t
    pub same_finished :
        NoneHolds order → (t : ℕ) → (after_ticks order offset need keeps t).finished ≡ finished_then t
