-- Promises between functions: the owners of the first indices, found release by release, and the slots of a rank among
-- them. A slot is a position in the list of lengths.
use Rattle.std.specs.Prelude.{◌≡◌, List, ℕ, ◌+◌, ◌≤◌, ◌<◌, length, get_or, Option, None, MatchOption, IfSome}
use Rattle.rows.specs.Rows.{max_tasks, max_ticks, row_at}
use Rattle.rows.specs.Rows.{Row}
use Rattle.watch_runs.specs.declared.steps.Rank.{Rank}
use Rattle.watch_demands.specs.Jobs.{rank_with}
use Rattle.watch_demands.specs.WatchLines.{max_release, max_lengths}
use Rattle.watch_demands.specs.inside.Least.{LeastIs}

-- the first of the earliest of n releases
abbrev pub EarliestIs : List ℕ → ℕ → Type 0
EarliestIs nexts r = LeastIs (length nexts) (λ j. get_or nexts j 0) r

-- what stands past the last rank
abbrev pub no_rank : Rank
no_rank = record { task = 0; offset = 0; period = 0; cost = 0 }

abbrev pub rank_at : List Rank → ℕ → Rank
rank_at ranks j = get_or ranks j no_rank

-- what is asked of the ranks, so that the last release that is looked at is still a small number
pub record Mergeable (owners : List ℕ) (ranks : List Rank) : Type 0 where
  pub some : 1 ≤ length ranks
  pub few : length owners ≤ max_lengths
  pub few_ranks : length ranks ≤ max_tasks
  pub offset_max : (j : ℕ) → j < length ranks → (rank_at ranks j).offset ≤ max_release
  pub period_max : (j : ℕ) → j < length ranks → (rank_at ranks j).period ≤ max_ticks

-- the first releases and the periods of an order's ranks
pub record Released (order : List Row) (offset : ℕ → ℕ) (ranks : List Rank) : Type 0 where
  pub as_many : length order ≡ length ranks
  pub offset_is : (j : ℕ) → j < length ranks → (rank_at ranks j).offset ≡ offset j
  pub period_is : (j : ℕ) → j < length ranks → (rank_at ranks j).period ≡ (row_at order j).period
  pub period_some : (j : ℕ) → j < length ranks → 1 ≤ (row_at order j).period

-- the owner of each index is the rank of the job that has it
abbrev pub Owned : List Row → (ℕ → ℕ) → List ℕ → Type 0
Owned order offset owners = (m : ℕ) → m < length owners → get_or owners m 0 ≡ rank_with order offset m

-- whatever order the ranks are of
pub record Owns (owners : List ℕ) (ranks : List Rank) : Type 0 where
  pub within : (m : ℕ) → m < length owners → get_or owners m 0 < length ranks
  pub owned : (order : List Row) (offset : ℕ → ℕ) → Released order offset ranks → Owned order offset owners

-- ---- slots
-- no slot from one on has a rank for its owner
abbrev pub NoneFrom : List ℕ → ℕ → ℕ → Type 0
NoneFrom owners from rank = (m : ℕ) → from ≤ m → m < length owners → get_or owners m 0 ≡ rank → ⊥

-- a slot is the first from one on whose owner is a rank
pub record FirstFrom (owners : List ℕ) (from rank slot : ℕ) : Type 0 where
  pub within : slot < length owners
  pub onward : from ≤ slot
  pub owner : get_or owners slot 0 ≡ rank
  pub between : (m : ℕ) → from ≤ m → m < slot → get_or owners m 0 ≡ rank → ⊥

abbrev pub Sought : List ℕ → ℕ → ℕ → Option ℕ → Type 0
Sought owners from rank r = MatchOption r (NoneFrom owners from rank) (FirstFrom owners from rank)

-- a slot is within a list of n
abbrev pub SlotIn : ℕ → Option ℕ → Type 0
SlotIn n slot = IfSome slot (λ m. m < n)

-- the next slot after one, if there is one
abbrev pub NextSlot : List ℕ → Option ℕ → ℕ → Option ℕ → Type 0
NextSlot owners slot rank r = MatchOption slot (r ≡ None) (λ m. Sought owners (m + 1) rank r)
