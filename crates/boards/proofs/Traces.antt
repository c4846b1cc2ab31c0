-- A board's run by rank and in stretches: each rank's queue is the backlog of what it has released and what it has been
-- served. So the run is one by rank and in stretches (`trace`), and a job is finished in the tick that completes its
-- work, once.
use mathlib.Core.Path.{◌≡◌, refl, sym, ap, subst, ◌∙◌}
use mathlib.Core.Bool.{Bool, true, false, ◌||◌}
use mathlib.Core.List.{List, ◌∷◌}
use mathlib.Core.Logic.{◌⊎◌, inl, inr}
use Prim.Native.Nat.{ℕ, zero, suc, ◌+◌, ◌*◌, ◌≤◌, ◌<◌}
use native.Mathlib.Omega.{arith}
use native.Mathlib.Nat.{le_trans, le_of_eq, lt_of_not-le, zero-add, add-zero, eq_of_mul-eq-mul_right}
use lib.Dec.{eqb}
use lib.ListN.{length}
use borrow.Author.Tests.{eqb-true}
use Rattle.basics.proofs.Tests.{test_of, true_not_false, or_cases, or_right}
use Rattle.rows.specs.Rows.{row_at}
use Rattle.rows.specs.Rows.{Row}
use Rattle.boards.specs.Boards.{Job, Done, Board, no_jobs, releases, with_releases, is_done}
use Rattle.boards.specs.Boards.{queue_at, worked, worked_at, finishing}
use Rattle.boards.specs.Claims.{Finishes}
use Rattle.boards.proofs.Releases.{released, released_grows, unreleased, needed, needed_grows, needed_one}
use Rattle.boards.proofs.Releases.{release_yes, release_no}
use Rattle.boards.proofs.Service.{mark, service, service_step, served_by, Run, service_within}
use Rattle.boards.proofs.Queues.{HasJob, new_job, queue_there, none_at, released_at, highest_after}
use Rattle.boards.proofs.Queues.{worked_same, worked_other, done_append, ends_tick, tick_ends}
use Rattle.boards.proofs.Backlog.{Oldest, Backlog, backlog_release, backlog_under, backlog_worked}
use Rattle.boards.proofs.Stretches.{board_before, queues_in, on_in, runs_in, began_in, hold_of, ranks_before, ranks_in}
use Rattle.boards.proofs.Stretches.{runs_on, runs_new, off, began_on, began_new, began_by}
use Rattle.boards.proofs.Stretches.{job_in, within_hold}

module _ (order : List Row) (offset : ℕ → ℕ) where
  -- the release of rank j's kth job; how many of its jobs are released before t
  abbrev pub release_of : ℕ → ℕ → ℕ
  release_of j k = offset j + k * (row_at order j).period

  abbrev pub released_of : ℕ → ℕ → ℕ
  released_of j t = released (row_at order j).period (offset j) t

  module _ (need : ℕ → ℕ → ℕ) where
    -- the work of rank j released before t
    abbrev pub work_of : ℕ → ℕ → ℕ
    work_of j t = needed (need j) (released_of j t)

    -- rank j's queue before t, if x ticks have gone to it
    abbrev BacklogOf : ℕ → ℕ → ℕ → List (List Job) → Type 0
    BacklogOf j t x qs = Backlog (release_of j) (need j) (released_of j t) x (queue_at qs j)

    module _ (periods : (j : ℕ) → j < length order → 1 ≤ (row_at order j).period)
        (needs : (j k : ℕ) → j < length order → 1 ≤ need j k) where
      -- ---- any queues: none with a job, a tick's releases, a tick's work of any rank m
      backlog_none : (j : ℕ) → j < length order → BacklogOf j 0 0 (no_jobs order)
      backlog_none j l =
          let few = unreleased (row_at order j).period (offset j) (periods j l) 0 0 (omega arith) in
          let start : released_of j 0 ≡ 0 = omega arith in
          rw (none_at order j, start)

      backlog_released : (j t x : ℕ) (qs : List (List Job)) → length qs ≡ length order → j < length order
          → BacklogOf j t x qs → BacklogOf j (suc t) x (with_releases 0 t order offset need qs)
      backlog_released j t x qs n l b =
          let r = row_at order j in
          rw (released_at offset need 0 t order qs j n l, zero-add j) (elim (test_of (releases r (offset j) t)) [
            | inl e ↦ (let y = release_yes r (offset j) t (periods j l) e in
                rw (e, y.2) (backlog_release (release_of j) (need j) (λ k. needs j k l) (released_of j t) x
                (queue_at qs j) (new_job (need j) r (offset j) t) (sym y.0) (ap (need j) y.1) b))
            | inr e ↦ rw (e, release_no r (offset j) t (periods j l) e) b
          ])

      backlog_served : (j t x m : ℕ) (qs : List (List Job)) → j < length order
          → (m ≡ j → HasJob (queue_at qs j)) → BacklogOf j t x qs
          → BacklogOf j t (x + mark (eqb m j)) (worked_at m qs)
      backlog_served j t x m qs l h b = elim (test_of (eqb m j)) [
        | inl e ↦ (
            let k = eqb-true m j e in
            let o = h k in
            let w = subst (λ y. queue_at (worked_at m qs) y ≡ worked (queue_at qs y)) k (worked_same m qs) in
            rw (e, w, o.2) (backlog_worked (release_of j) (need j) (λ k. needs j k l) (released_of j t) x
            o.0 o.1 (rw o.2 at b)))
        | inr e ↦ rw (e, worked_other m j qs e, add-zero) b
      ]

-- ---- the board's own queues
module _ (order : List Row) (offset : ℕ → ℕ) (need : ℕ → ℕ → ℕ) (keeps : ℕ → Bool)
    (periods : (j : ℕ) → j < length order → 1 ≤ (row_at order j).period)
    (needs : (j k : ℕ) → j < length order → 1 ≤ need j k) where
  abbrev before : ℕ → Board
  before t = board_before order offset need keeps t

  abbrev queues : ℕ → List (List Job)
  queues t = queues_in order offset need keeps t

  abbrev on : ℕ → Bool
  on t = on_in order offset need keeps t

  abbrev runs : ℕ → ℕ
  runs t = runs_in order offset need keeps t

  abbrev began : ℕ → ℕ
  began t = began_in order offset need keeps t

  abbrev release : ℕ → ℕ → ℕ
  release j k = release_of order offset j k

  abbrev work : ℕ → ℕ → ℕ
  work j t = work_of order offset need j t

  -- each queue is its task's backlog, before each tick and after the tick's releases
  backlog : (j t : ℕ) → j < length order → BacklogOf order offset need j t (service runs j t) (before t).pending
  backlog j zero l = backlog_none order offset need periods needs j l
  backlog j (suc t) l =
      let x = service runs j t in
      let n = ranks_before order offset need keeps t in
      let released = backlog_released order offset need periods needs j t x (before t).pending n l (backlog j t l) in
      let job = job_in order offset need keeps j t l in
      backlog_served order offset need periods needs j (suc t) x (runs t) (queues t) l job released

  backlog_in : (j t : ℕ) → j < length order → BacklogOf order offset need j (suc t) (service runs j t) (queues t)
  backlog_in j t l =
      backlog_released order offset need periods needs j t (service runs j t) (before t).pending
      (ranks_before order offset need keeps t) l (backlog j t l)

  -- the oldest pending job of the rank that runs
  abbrev pub OldestIn : ℕ → ℕ → Job → List Job → Type 0
  OldestIn j t x q =
      Oldest (release_of order offset j) (need j) (released_of order offset j (suc t)) (service runs j t) x q

  pub oldest : (j t : ℕ) → j < length order → runs t ≡ j
      → (x : Job) × (q : List Job) × (queue_at (queues t) j ≡ x ∷ q) × OldestIn j t x q
  oldest j t l r =
      let h = job_in order offset need keeps j t l r in
      (h.0, h.1, h.2, rw h.2 at (backlog_in j t l))

  -- when a stretch began, the ranks above its own had no job
  by_rank_new : (j t : ℕ) → j < length order → on t ≡ false → j < runs t
      → work j (suc (began t)) ≤ service runs j (began t)
  by_rank_new j t l e b =
      let none = highest_after (queues t) j (omega (arith, runs_new order offset need keeps t e)) in
      let done = le_of_eq (sym (rw none at (backlog_in j t l))) in
      subst (λ u. work j (suc u) ≤ service runs j u) (sym (began_new order offset need keeps t e)) done

  by_rank_began : (j t : ℕ) → j < length order → j < runs t → work j (suc (began t)) ≤ service runs j (began t)
  by_rank_began j zero l b = by_rank_new j 0 l (off order offset need keeps 0 refl) b
  by_rank_began j (suc t) l b = elim (test_of (on (suc t))) [
    | inl e ↦ subst (λ u. work j (suc u) ≤ service runs j u) (sym (began_on order offset need keeps t e))
        (by_rank_began j t l (omega (arith, runs_on order offset need keeps (suc t) e)))
    | inr e ↦ by_rank_new j (suc t) l e b
  ]

  pub trace : Run (length order) (hold_of order) runs began work
  trace = record {
    starts = λ j l. sym (rw none_at at (backlog j 0 l));
    grows = λ j t l.
        needed_grows (need j) (released_of order offset j t) (released_of order offset j (suc t))
        (released_grows (row_at order j).period (offset j) (periods j l) t (suc t) (omega arith));
    has_work = λ j t l r. let o = oldest j t l r in
        backlog_under (release_of order offset j) (need j) (λ k. needs j k l) (released_of order offset j (suc t))
        (service runs j t) o.0 o.1 o.3;
    by_rank = by_rank_began;
    earlier = began_by order offset need keeps;
    stretch = within_hold order offset need keeps;
  }

  -- before job k's release none of its work is done; where all of it is, it was released
  pub unserved : (j k t : ℕ) → j < length order → t ≤ release j k → service runs j t ≤ needed (need j) k
  unserved j k t l h =
      let few = unreleased (row_at order j).period (offset j) (periods j l) k t h in
      le_trans (service_within (length order) (hold_of order) runs began work trace j t l)
      (needed_grows (need j) (released_of order offset j t) k few)

  pub served_after : (j k t : ℕ) → j < length order → needed (need j) (suc k) ≤ service runs j t → release j k < t
  served_after j k t l h = lt_of_not-le (λ x. omega (arith, unserved j k t l x, needs j k l))

  -- ---- what is finished after a tick: what was, and what the tick finishes
  abbrev finished_in : ℕ → List Done
  finished_in t = finishing (runs t) t (queue_at (queues t) (runs t))

  finished_step : (i r f t : ℕ)
      → is_done i r f (before (suc t)).finished ≡ (is_done i r f (before t).finished || is_done i r f (finished_in t))
  finished_step i r f t = done_append i r f (before t).finished (finished_in t)

  finished_cases : (i r f t : ℕ) → is_done i r f (before (suc t)).finished ≡ true
      → (is_done i r f (before t).finished ≡ true) ⊎ (is_done i r f (finished_in t) ≡ true)
  finished_cases i r f t e =
      or_cases (is_done i r f (before t).finished) (is_done i r f (finished_in t)) (rw (finished_step i r f t) at e)

  finished_by_lem : (i r f t : ℕ) → is_done i r f (before t).finished ≡ true → f ≤ t
  finished_by_lem i r f zero e = absurd (true_not_false false e refl)
  finished_by_lem i r f (suc t) e = elim (finished_cases i r f t e) [
    | inl d ↦ omega (arith, finished_by_lem i r f t d)
    | inr d ↦ le_of_eq (ends_tick (queues t) (runs t) i r f t d).0.finish_is
  ]

  pub finished_rank : (i r f t : ℕ) → is_done i r f (before t).finished ≡ true → i < length order
  finished_rank i r f zero e = absurd (true_not_false false e refl)
  finished_rank i r f (suc t) e = elim (finished_cases i r f t e) [
    | inl d ↦ finished_rank i r f t d
    | inr d ↦ (
        let n = (ends_tick (queues t) (runs t) i r f t d).0 in
        let job : HasJob (queue_at (queues t) i) = (n.job, n.others, n.is) in
        omega (arith, queue_there (queues t) i job, ranks_in order offset need keeps t))
  ]

  -- the tick that completes the work of job k finishes it
  pub finish_told : (j t k : ℕ) → j < length order → service runs j t < needed (need j) (suc k)
      → needed (need j) (suc k) ≤ service runs j (suc t)
      → Finishes order offset need keeps j (release j k) (suc t)
  finish_told j t k l a b = elim (test_of (eqb (runs t) j)) [
    | inl e ↦ (
        let r = eqb-true (runs t) j e in
        let s = service_step runs j t r in
        let o = oldest j t l r in
        let here = o.3 in
        let one = needed_one (need j) here.index k (service runs j t) here.begun in
        let same = one (omega (arith, here.left, here.unfinished)) (omega (arith, needs j k l)) a in
        let left : service runs j t + o.0.needs ≡ needed (need j) (suc k) = rw same at here.left in
        let at : o.0.release ≡ release j k = rw same at here.released in
        let done = tick_ends (queues t) (runs t) j t o.0 o.1 r o.2 (omega arith) in
        rw (finished_step, ← at) (or_right (is_done j o.0.release (suc t) (before t).finished)
        (is_done j o.0.release (suc t) (finished_in t)) done))
    | inr e ↦ (
        let none : needed (need j) (suc k) ≤ service runs j t + 0 = rw e at b in
        absurd (omega arith))
  ]

  -- what is finished at f was completed in the tick before it
  pub record Finish (j r f : ℕ) : Type 0 where
    pub tick : ℕ
    pub index : ℕ
    pub after : f ≡ suc tick
    pub ran : runs tick ≡ j
    pub release_is : r ≡ release j index
    pub complete : service runs j (suc tick) ≡ needed (need j) (suc index)

  pub of_finish : (j r f : ℕ) → j < length order → Finishes order offset need keeps j r f → Finish j r f
  of_finish j r zero l e = absurd (true_not_false false e refl)
  of_finish j r (suc t) l e = elim (finished_cases j r (suc t) t e) [
    | inl d ↦ absurd (omega (arith, finished_by_lem j r (suc t) t d))
    | inr d ↦ (
        let n = ends_tick (queues t) (runs t) j r (suc t) t d in
        let o : OldestIn j t n.0.job n.0.others = rw n.0.is at (backlog_in j t l) in
        record {
          tick = t;
          index = o.index;
          after = refl;
          ran = n.1;
          release_is = n.0.release_is ∙ o.released;
          complete = omega (arith, service_step runs j t n.1, o.left, o.unfinished, n.0.last);
        })
  ]

  -- and nothing else finishes it: its release gives its index, and its service comes to its end in one tick only
  pub finish_once : (j r f g : ℕ) → j < length order
      → Finishes order offset need keeps j r f → Finishes order offset need keeps j r g → f ≡ g
  finish_once j r f g l d e =
      let x = of_finish j r f l d in
      let y = of_finish j r g l e in
      let known = eq_of_mul-eq-mul_right (row_at order j).period (periods j l) x.index y.index in
      let same = known (omega (arith, x.release_is, y.release_is)) in
      let ends = x.complete ∙ (ap (λ (k : ℕ). needed (need j) (suc k)) same ∙ sym y.complete) in
      let before = served_by runs j y.tick x.tick x.ran (le_of_eq ends) in
      let after = served_by runs j x.tick y.tick y.ran (le_of_eq (sym ends)) in
      omega (arith, x.after, y.after)
