-- Promises between functions: the board before a tick as one job of each rank, its oldest unfinished one, whether or not
-- that has been released.
use Rattle.std.specs.Prelude.{◌≡◌, List, [], ◌∷◌, ℕ, zero, suc, ◌+◌, ◌≤◌, ◌<◌, length, get_or, nat_lt, cond}
use Rattle.std.specs.Prelude.{Option, None, Some, MatchOption, IfSome}
use Rattle.rows.specs.Rows.{max_tasks, max_ticks, row_at, cost}
use Rattle.rows.specs.Rows.{Row}
use Rattle.boards.specs.Boards.{Job, Done, with_releases}
use Rattle.boards.specs.Document01.{after_work, finishes}
use Rattle.watch_demands.specs.Jobs.{release_of, released_before, index_of, length_of}
use Rattle.watch_runs.specs.declared.steps.Board.{Board}
use Rattle.watch_runs.specs.declared.steps.Finish.{Finish}
use Rattle.watch_runs.specs.declared.steps.Pending.{Pending}
use Rattle.watch_runs.specs.inside.Owners.{rank_at, Released, Owned, Sought, SlotIn}

-- c jobs from the kth on, untouched; and with only `left` to go of the first
abbrev pub waiting : (ℕ → ℕ) → (ℕ → ℕ) → ℕ → ℕ → List Job
waiting at need k zero = []
waiting at need k (suc c) = record { release = at k; needs = need k } ∷ waiting at need (suc k) c

abbrev pub queue_of : (ℕ → ℕ) → (ℕ → ℕ) → ℕ → ℕ → ℕ → List Job
queue_of at need k zero left = []
queue_of at need k (suc c) left = record { release = at k; needs = left } ∷ waiting at need (suc k) c

-- the slot of an index in a list of n: the index itself, if it is within the list
abbrev pub slot_of : ℕ → ℕ → Option ℕ
slot_of n index = cond (nat_lt index n) (Some index) None

-- the length in a slot; with no slot, the cost
abbrev pub length_in : List ℕ → ℕ → Option ℕ → ℕ
length_in lengths cost None = cost
length_in lengths cost (Some m) = get_or lengths m cost

-- what stands past the last rank
abbrev pub no_job : Pending
no_job = record { start = 0; left = 0; slot = None }

abbrev pub job_at : List Pending → ℕ → Pending
job_at pending j = get_or pending j no_job

module _ (order : List Row) (offset : ℕ → ℕ) (lengths : List ℕ) where
  -- rank j's queue before tick t is what its job says
  pub record RankShown (t j : ℕ) (queue : List Job) (job : Pending) : Type 0 where
    pub oldest : ℕ
    pub pending : ℕ
    pub so_far : oldest + pending ≡ released_before order offset j t
    pub queue_is :
        queue ≡ queue_of (release_of order offset j) (length_of order offset lengths j) oldest pending job.left
    pub unbegun : pending ≡ 0 → job.left ≡ length_of order offset lengths j oldest
    pub start_is : job.start ≡ release_of order offset j oldest
    pub slot_is : job.slot ≡ slot_of (length lengths) (index_of order offset j oldest)

  pub record Shown (t : ℕ) (queues : List (List Job)) (pending : List Pending) : Type 0 where
    pub ranks : length queues ≡ length order
    pub each : (j : ℕ) → j < length order → RankShown t j (get_or queues j []) (job_at pending j)

-- the ranks are those of an order, with the owners of the lengths
pub record Suits (order : List Row) (offset : ℕ → ℕ) (x : Board) : Type 0 where
  pub released : Released order offset x.ranks.now
  pub cost_is : (j : ℕ) → j < length x.ranks.now → (rank_at x.ranks.now j).cost ≡ cost (row_at order j)
  pub owned : Owned order offset x.owners.now
  pub as_many : length x.owners.now ≡ length x.lengths.now

-- ---- what the code asks and answers
-- so many ranks, and small numbers
pub record Fits (x : Board) : Type 0 where
  pub few : length x.ranks.now ≤ max_tasks
  pub period_max : (j : ℕ) → j < length x.ranks.now → (rank_at x.ranks.now j).period ≤ max_ticks

-- rank j's first job: its release, its slot, and its length
pub record FirstJob (x : Board) (j : ℕ) (job : Pending) : Type 0 where
  pub start_is : job.start ≡ (rank_at x.ranks.now j).offset
  pub sought : Sought x.owners.now 0 j job.slot
  pub left_is : job.left ≡ length_in x.lengths.now (rank_at x.ranks.now j).cost job.slot

abbrev pub Begins : Board → List Pending → Type 0
Begins x pending = (j : ℕ) → j < length pending → FirstJob x j (job_at pending j)

-- rank j is the first that has a job to run at tick t
pub record FirstDue (t : ℕ) (pending : List Pending) (j : ℕ) : Type 0 where
  pub within : j < length pending
  pub due : (job_at pending j).start ≤ t
  pub others : (i : ℕ) → i < j → t < (job_at pending i).start

abbrev pub TurnIs : ℕ → List Pending → Option ℕ → Type 0
TurnIs t pending r =
    MatchOption r ((j : ℕ) → j < length pending → t < (job_at pending j).start) (FirstDue t pending)

-- a step has a job for each rank, and its numbers are small enough
pub record Steady (t : ℕ) (pending : List Pending) (x : Board) : Type 0 where
  pub soon : t ≤ max_ticks
  pub fits : Fits x
  pub as_many : length pending ≡ length x.ranks.now
  pub slots_in : (j : ℕ) → j < length pending → SlotIn (length x.owners.now) (job_at pending j).slot

-- the job that a step finishes in tick t, if any
abbrev pub done_in : ℕ → Option Finish → List Done
done_in t None = []
done_in t (Some f) = record { rank = f.rank; release = f.release; finish = suc t } ∷ []

-- a step from one job of each rank to another
pub record Steps (t : ℕ) (x : Board) (pending pending' : List Pending) (r : Option Finish) : Type 0 where
  -- whatever board the jobs show, the step is a tick of it
  pub follows :
      (order : List Row) (offset : ℕ → ℕ) (queues : List (List Job)) → Suits order offset x
      → let need = length_of order offset x.lengths.now in
      Shown order offset x.lengths.now t queues pending
      → let in_tick = with_releases 0 t order offset need queues in
      Shown order offset x.lengths.now (suc t) (after_work in_tick) pending' × (finishes 0 t in_tick ≡ done_in t r)
  -- its numbers stay in their ranges
  pub rank_in : IfSome r (λ f. f.rank < length x.ranks.now)
  pub slots_in : (j : ℕ) → j < length pending → SlotIn (length x.owners.now) (job_at pending' j).slot
