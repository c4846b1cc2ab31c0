-- The jobs of an endless run in order of release, those released on one tick in rank order; and lengths that are given
-- out to them in that order. Row i of an order has rank i, 0 the highest, and a task's jobs are counted from 0 too.
use Rattle.std.specs.Prelude.{◌≡◌, Bool, List, ◌⊎◌, ℕ, zero, suc, ◌+◌, ◌-◌, ◌*◌, ◌≤◌, ◌<◌, eqb, ltb, length, get_or}
use Rattle.basics.specs.Basics.{pick, sum_to}
use Rattle.rows.specs.Rows.{row_at, cost}
use Rattle.rows.specs.Rows.{Row}
use Rattle.responses.specs.Interference.{ceiling}

-- the first of n numbers that passes a test; n for none
abbrev pub first_of : ℕ → (ℕ → Bool) → ℕ
first_of zero test = 0
first_of (suc n) test = pick (test 0) 0 (suc (first_of n (λ i. test (suc i))))

module _ (order : List Row) (offset : ℕ → ℕ) where
  -- the release of rank i's kth job; how many jobs of rank i are released before tick t
  abbrev pub release_of : ℕ → ℕ → ℕ
  release_of i k = offset i + k * (row_at order i).period

  abbrev pub released_before : ℕ → ℕ → ℕ
  released_before i t = ceiling (t - offset i) (row_at order i).period

  -- how many jobs of rank j come before a job of rank i that is released at r: those released earlier, and, of a
  -- higher rank, those released with it
  abbrev pub ahead : ℕ → ℕ → ℕ → ℕ
  ahead i r j = released_before j (pick (ltb j i) (suc r) r)

  -- the index of rank i's kth job among all jobs: how many come before it
  unfoldable pub index_of : ℕ → ℕ → ℕ
  index_of i k = sum_to (length order) (ahead i (release_of i k))

  -- the rank of the job with index m; at least k jobs come before a kth one, so its k is at most m
  abbrev pub has_index : ℕ → ℕ → Bool
  has_index m i = ltb (first_of (suc m) (λ k. eqb (index_of i k) m)) (suc m)

  unfoldable pub rank_with : ℕ → ℕ
  rank_with m = first_of (length order) (has_index m)

  -- the lengths go to the jobs in that order, and a job past the list takes the most that its row allows
  abbrev pub length_of : List ℕ → ℕ → ℕ → ℕ
  length_of lengths i k = get_or lengths (index_of i k) (cost (row_at order i))

  -- rank i's kth job comes before rank j's mth
  abbrev pub Earlier : ℕ → ℕ → ℕ → ℕ → Type 0
  Earlier i k j m = (release_of i k < release_of j m) ⊎ ((release_of i k ≡ release_of j m) × (i < j))

  -- what is claimed of the indices: they count up by release and rank, so that no two jobs share one, and none is left
  -- out; and the rank with a job's index is the job's
  pub record Indexed : Type 0 where
    pub counts_up : (i k j m : ℕ) → i < length order → j < length order → Earlier i k j m → index_of i k < index_of j m
    pub one_each :
        (i k j m : ℕ) → i < length order → j < length order → index_of i k ≡ index_of j m → (i ≡ j) × (k ≡ m)
    pub none_left_out : 1 ≤ length order → (p : ℕ) → (i : ℕ) × (k : ℕ) × (i < length order) × (index_of i k ≡ p)
    pub rank_is : (i k : ℕ) → i < length order → rank_with (index_of i k) ≡ i
