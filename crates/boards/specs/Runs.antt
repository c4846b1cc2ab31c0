-- Every run of a board in the documents' words, whatever is claimed of it: which job each tick goes to and when a job
-- is finished, apart from how a board keeps its queues and its stretches.
use Rattle.std.specs.Prelude.{◌≡◌, Bool, true, false, ◌&&◌, List, [], ◌∷◌, ◌⊎◌, ◌↔◌, ℕ, zero, suc, ◌+◌, ◌*◌, ◌≤◌, ◌<◌, eqb, leb, ltb, length}
use Rattle.basics.specs.Basics.{pick, larger}
use Rattle.rows.specs.Rows.{row_at}
use Rattle.rows.specs.Rows.{Row}
use Rattle.responses.specs.Figures.{rows_below}
use Rattle.responses.specs.Claims.{NoneHolds}
use Rattle.boards.specs.Boards.{Job, with_releases, highest, queue_at, goes_on, after_ticks}
use Rattle.boards.specs.Claims.{Finishes}
use Rattle.boards.specs.Document01.{SameBoard}

-- a queue's oldest job is the one released at r
abbrev pub is_oldest : ℕ → List Job → Bool
is_oldest r [] = false
is_oldest r (j ∷ q) = eqb r j.release

module _ (order : List Row) (offset : ℕ → ℕ) (need : ℕ → ℕ → ℕ) (keeps : ℕ → Bool) where
  -- the release of rank i's kth job
  abbrev pub released : ℕ → ℕ → ℕ
  released i k = offset i + k * (row_at order i).period

  -- ---- any schedule: whether tick t goes to that job
  module _ (goes_to : ℕ → ℕ → ℕ → Bool) where
    -- how many ticks before t did
    abbrev pub ticks_of : ℕ → ℕ → ℕ → ℕ
    ticks_of i k zero = 0
    ticks_of i k (suc t) = ticks_of i k t + pick (goes_to i k t) 1 0

    -- in tick t it is released and unfinished
    abbrev pub Pending : ℕ → ℕ → ℕ → Type 0
    Pending i k t = (released i k ≤ t) × (ticks_of i k t < need i k)

    -- a stretch of n ticks up to tick t goes on in it: it has begun and is shorter than the row's hold, its job is
    -- unfinished and keeps the processor
    abbrev pub goes_on_after : ℕ → ℕ → ℕ → ℕ → Bool
    goes_on_after i k t n =
        keeps t && (leb 1 n && (ltb n (row_at order i).hold && ltb (ticks_of i k t) (need i k)))

    -- the ticks of the job's stretch up to tick t, 0 where tick t - 1 did not go to it; a tick that does not go on in a
    -- stretch begins one
    abbrev pub stretch : ℕ → ℕ → ℕ → ℕ
    stretch i k zero = 0
    stretch i k (suc t) =
        pick (goes_to i k t) (suc (pick (goes_on_after i k t (stretch i k t)) (stretch i k t) 0)) 0

    -- its stretch goes on in tick t
    abbrev pub GoesOn : ℕ → ℕ → ℕ → Type 0
    GoesOn i k t = goes_on_after i k t (stretch i k t) ≡ true

    -- tick t falls to it by rank: it is the pending job of highest rank, the oldest of its task
    pub record ByRank (i k t : ℕ) : Type 0 where
      pub pending : Pending i k t
      pub none_above : (j m : ℕ) → j < i → Pending j m t → ⊥
      pub none_older : (m : ℕ) → m < k → Pending i m t → ⊥

    -- a tick goes to the job whose stretch goes on, or where none does, to the job that it falls to by rank
    abbrev pub ByRules : Type 0
    ByRules =
        (i k t : ℕ) → i < length order
        → (goes_to i k t ≡ true)
        ↔ (GoesOn i k t ⊎ (((j m : ℕ) → j < length order → GoesOn j m t → ⊥) × ByRank i k t))

  -- ---- the board's
  abbrev pub board_goes_to : ℕ → ℕ → ℕ → Bool
  board_goes_to i k t =
      let b = after_ticks order offset need keeps t in
      let qs = with_releases 0 t order offset need b.pending in
      eqb i (pick (goes_on keeps t b) b.holder (highest qs)) && is_oldest (released i k) (queue_at qs i)

  abbrev pub board_ticks : ℕ → ℕ → ℕ → ℕ
  board_ticks = ticks_of board_goes_to

  pub record BoardRuns : Type 0 where
    -- it is the one schedule by the rules
    pub by_rules : ByRules board_goes_to
    pub no_other :
        (goes_to : ℕ → ℕ → ℕ → Bool) → ByRules goes_to
        → (i k t : ℕ) → i < length order → goes_to i k t ≡ board_goes_to i k t
    -- no stretch is longer than its row's hold, or than the one tick that falls to it by rank
    pub held_most :
        (i k t : ℕ) → i < length order → stretch board_goes_to i k t ≤ larger 1 (row_at order i).hold
    -- a tick is idle only with no job pending
    pub idle :
        (t : ℕ) → ((i k : ℕ) → i < length order → board_goes_to i k t ≡ true → ⊥)
        → (i k : ℕ) → i < length order → Pending board_goes_to i k t → ⊥
    -- a job finishes with the tick that is the last it needs, and nothing else finishes
    pub finishes :
        (i k t : ℕ) → i < length order
        → Finishes order offset need keeps i (released i k) (suc t)
        ↔ ((board_goes_to i k t ≡ true) × (board_ticks i k (suc t) ≡ need i k))
    pub a_job :
        (i r f : ℕ) → Finishes order offset need keeps i r f → (i < length order) × ((k : ℕ) × (r ≡ released i k))
    -- so it has no tick before its release, and all that it needs from there to its finish
    pub not-before : (i k : ℕ) → i < length order → board_ticks i k (released i k) ≡ 0
    pub in_full :
        (i k f : ℕ) → i < length order → Finishes order offset need keeps i (released i k) f
        → (released i k < f) × (board_ticks i k f ≡ need i k)
    -- a task's jobs finish in the sequence of their releases
    pub in_sequence :
        (i k m f g : ℕ) → i < length order → k < m
        → Finishes order offset need keeps i (released i k) f → Finishes order offset need keeps i (released i m) g
        → f < g
    -- the highest rank is never delayed, where no task below may hold the processor past a tick
    pub highest_first :
        0 < length order → NoneHolds (rows_below order 0) → ((k : ℕ) → need 0 k ≤ (row_at order 0).period)
        → (k : ℕ) → Finishes order offset need keeps 0 (released 0 k) (released 0 k + need 0 k)
    -- with every hold 0 or 1 it is document 01's board
    pub without_holds : SameBoard order offset need keeps
