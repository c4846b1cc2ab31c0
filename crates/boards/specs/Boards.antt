-- A board that runs an order, tick by tick, with fixed priorities. The order's rows stand highest rank first, and ranks
-- are counted from 0 here. A tick goes to the pending job of highest rank, unless the job that had the tick before
-- keeps the processor, whoever is released meanwhile. It may keep it for a stretch (a non-preemptive section) of at
-- most its row's hold of ticks. The first of these fell to it by rank; the job's last tick ends it, and a job may have
-- any number of stretches. A run is given by each rank's first release (its offset), by the ticks that its kth job
-- needs, and by whether a stretch that may go on in tick t does (`keeps t`); all are functions, so a run has no end.
use Rattle.std.specs.Prelude.{Bool, true, false, ◌&&◌, ◌||◌, List, [], ◌∷◌, ◌++◌, ℕ, zero, suc, ◌-◌, ◌/◌, ◌%◌, eqb, leb, get_or}
use Rattle.basics.specs.Basics.{pick}
use Rattle.rows.specs.Rows.{row_at}
use Rattle.rows.specs.Rows.{Row}

-- a pending job: its release, and the ticks that it still needs
pub record Job : Type 0 where
  pub release : ℕ
  pub needs : ℕ

-- a finished job: its rank, its release, and the tick after its last
pub record Done : Type 0 where
  pub rank : ℕ
  pub release : ℕ
  pub finish : ℕ

-- each rank's pending jobs, the oldest first; every job finished so far; the rank that had the last tick, and the ticks
-- for which its job may still keep the processor
pub record Board : Type 0 where
  pub pending : List (List Job)
  pub finished : List Done
  pub holder : ℕ
  pub left : ℕ

abbrev pub no_jobs : List Row → List (List Job)
no_jobs [] = []
no_jobs (r ∷ rs) = [] ∷ no_jobs rs

-- a task releases a job at its offset, and then one every period
abbrev pub releases : Row → ℕ → ℕ → Bool
releases r offset t = leb offset t && eqb ((t - offset) % r.period) 0

-- the queues from rank i on, with the jobs that are released at tick t
abbrev pub with_releases : ℕ → ℕ → List Row → (ℕ → ℕ) → (ℕ → ℕ → ℕ) → List (List Job) → List (List Job)
with_releases i t [] offset need qs = qs
with_releases i t (r ∷ rs) offset need [] = []
with_releases i t (r ∷ rs) offset need (q ∷ qs) =
    let job : Job = record { release = t; needs = need i ((t - offset i) / r.period) } in
    pick (releases r (offset i) t) (q ++ (job ∷ [])) q ∷ with_releases (suc i) t rs offset need qs

-- ---- a tick's work
-- the highest rank with a pending job; with none, the number of ranks
abbrev pub highest : List (List Job) → ℕ
highest [] = 0
highest ([] ∷ qs) = suc (highest qs)
highest ((j ∷ q) ∷ qs) = 0

-- rank m's queue
abbrev pub queue_at : List (List Job) → ℕ → List Job
queue_at qs m = get_or qs m []

-- a tick is the last of a queue's oldest job, if it has one
abbrev pub ends : List Job → Bool
ends [] = true
ends (j ∷ q) = leb j.needs 1

-- a queue after a tick of its oldest job; the queues after a tick of rank m, which is idle where that has no job
abbrev pub worked : List Job → List Job
worked [] = []
worked (j ∷ q) = pick (ends (j ∷ q)) q (record { release = j.release; needs = j.needs - 1 } ∷ q)

abbrev pub worked_at : ℕ → List (List Job) → List (List Job)
worked_at m [] = []
worked_at zero (q ∷ qs) = worked q ∷ qs
worked_at (suc m) (q ∷ qs) = q ∷ worked_at m qs

-- the job of rank m's queue whose last tick is t, if that is one's last
abbrev pub finishing : ℕ → ℕ → List Job → List Done
finishing m t [] = []
finishing m t (j ∷ q) = pick (ends (j ∷ q)) (record { rank = m; release = j.release; finish = suc t } ∷ []) []

-- tick t goes to rank m, in the stretch that goes on or else in a new one
abbrev pub tick_of : List Row → ℕ → Board → List (List Job) → Bool → ℕ → Board
tick_of order t b qs on m = record {
  pending = worked_at m qs;
  finished = b.finished ++ finishing m t (queue_at qs m);
  holder = m;
  left = pick (ends (queue_at qs m)) 0 (pick on b.left (row_at order m).hold - 1);
}

-- ---- the board
-- the stretch of the last tick goes on in tick t: it may, and its job keeps the processor
abbrev pub goes_on : (ℕ → Bool) → ℕ → Board → Bool
goes_on keeps t b = keeps t && leb 1 b.left

-- tick t: releases, then a tick of the rank whose stretch goes on, or else of the highest with a pending job
abbrev pub after_tick : List Row → (ℕ → ℕ) → (ℕ → ℕ → ℕ) → (ℕ → Bool) → ℕ → Board → Board
after_tick order offset need keeps t b =
    let qs = with_releases 0 t order offset need b.pending in
    let on = goes_on keeps t b in
    tick_of order t b qs on (pick on b.holder (highest qs))

-- the board before tick t; it starts with no job left over
abbrev pub after_ticks : List Row → (ℕ → ℕ) → (ℕ → ℕ → ℕ) → (ℕ → Bool) → ℕ → Board
after_ticks order offset need keeps zero = record { pending = no_jobs order; finished = []; holder = 0; left = 0 }
after_ticks order offset need keeps (suc t) = after_tick order offset need keeps t (after_ticks order offset need keeps t)

-- rank i's job released at r finished at f
abbrev pub is_done : ℕ → ℕ → ℕ → List Done → Bool
is_done i r f [] = false
is_done i r f (d ∷ ds) = (eqb i d.rank && (eqb r d.release && eqb f d.finish)) || is_done i r f ds
