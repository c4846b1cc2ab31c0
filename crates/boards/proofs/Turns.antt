-- The job of each tick: one of its rank's, between the work of the jobs before it and its own. So the ticks that a job
-- has had follow from its rank's service, and a released job is pending exactly where that has not come to its end.
use mathlib.Core.Path.{◌≡◌, sym, ap, subst, ◌∙◌}
use mathlib.Core.Bool.{Bool, true, false}
use mathlib.Core.List.{List, ◌∷◌}
use mathlib.Core.Logic.{inl, inr}
use Prim.Native.Nat.{ℕ, zero, suc, ◌+◌, ◌-◌, ◌≤◌, ◌<◌}
use native.Mathlib.Omega.{arith}
use native.Mathlib.Nat.{eq_of_mul-eq-mul_right}
use lib.Dec.{eqb}
use lib.ListN.{length}
use borrow.Author.Tests.{eqb-true, eq-eqb, leb-false, lt-leb}
use Rattle.basics.proofs.Tests.{test_of, true_not_false, le-or-lt, and_left, and_right, and_both}
use Rattle.rows.specs.Rows.{row_at}
use Rattle.rows.specs.Rows.{Row}
use Rattle.boards.specs.Boards.{Job, queue_at, ends}
use Rattle.boards.specs.Claims.{Finishes}
use Rattle.boards.specs.Runs.{is_oldest, Pending, board_goes_to, board_ticks}
use Rattle.boards.proofs.Releases.{released_before_lem, unreleased, needed, needed_grows, needed_one}
use Rattle.boards.proofs.Service.{service, service_step, service_grows}
use Rattle.boards.proofs.Stretches.{queues_in, runs_in}
use Rattle.boards.proofs.Traces.{release_of, released_of, work_of, oldest, trace, unserved}
use Rattle.boards.proofs.Traces.{finish_told, of_finish}

module _ (order : List Row) (offset : ℕ → ℕ) (need : ℕ → ℕ → ℕ) (keeps : ℕ → Bool)
    (periods : (j : ℕ) → j < length order → 1 ≤ (row_at order j).period)
    (needs : (j k : ℕ) → j < length order → 1 ≤ need j k) where
  abbrev queues : ℕ → List (List Job)
  queues t = queues_in order offset need keeps t

  abbrev runs : ℕ → ℕ
  runs t = runs_in order offset need keeps t

  abbrev release : ℕ → ℕ → ℕ
  release i k = release_of order offset i k

  abbrev takes : ℕ → ℕ → ℕ → Bool
  takes i k t = board_goes_to order offset need keeps i k t

  abbrev ticks : ℕ → ℕ → ℕ → ℕ
  ticks i k t = board_ticks order offset need keeps i k t

  -- tick t is one of job k's
  pub record Turn (i k t : ℕ) : Type 0 where
    pub ran : runs t ≡ i
    pub begun : needed (need i) k ≤ service runs i t
    pub unfinished : service runs i t < needed (need i) (suc k)

  pub one_turn : (i k m t : ℕ) → Turn i k t → Turn i m t → k ≡ m
  one_turn i k m t n o =
      needed_one (need i) k m (service runs i t) n.begun n.unfinished o.begun o.unfinished

  same_job : (i k m : ℕ) → i < length order → release i k ≡ release i m → k ≡ m
  same_job i k m l e = eq_of_mul-eq-mul_right (row_at order i).period (periods i l) k m (omega (arith, e))

  -- whatever rank runs, the tick is its oldest job's
  record Runs (i k t : ℕ) : Type 0 where
    job : Job
    others : List Job
    is : queue_at (queues t) i ≡ job ∷ others
    release_is : release i k ≡ job.release
    left : service runs i t + job.needs ≡ needed (need i) (suc k)

  oldest_turn : (i t : ℕ) → i < length order → runs t ≡ i → (k : ℕ) × Turn i k t × Runs i k t
  oldest_turn i t l r =
      let o = oldest order offset need keeps periods needs i t l r in
      let here = o.3 in (
        here.index,
        record { ran = r; begun = here.begun; unfinished = omega (arith, here.left, here.unfinished) },
        record { job = o.0; others = o.1; is = o.2; release_is = sym here.released; left = here.left },
      )

  pub some_turn : (i t : ℕ) → i < length order → runs t ≡ i → (k : ℕ) × Turn i k t
  some_turn i t l r = let o = oldest_turn i t l r in (o.0, o.1)

  of_turn : (i k t : ℕ) → i < length order → Turn i k t → Runs i k t
  of_turn i k t l n =
      let o = oldest_turn i t l n.ran in
      subst (λ m. Runs i m t) (one_turn i o.0 k t o.1 n) o.2

  -- ---- as the board says which job it goes to
  pub takes_of : (i k t : ℕ) → i < length order → Turn i k t → takes i k t ≡ true
  takes_of i k t l n =
      let o = of_turn i k t l n in
      and_both (eqb i (runs t)) (is_oldest (release i k) (queue_at (queues t) i)) (eq-eqb i (runs t) (sym n.ran))
      (rw o.is (eq-eqb (release i k) o.job.release o.release_is))

  pub turn_of : (i k t : ℕ) → i < length order → takes i k t ≡ true → Turn i k t
  turn_of i k t l e =
      let mine = eqb i (runs t) in
      let first = is_oldest (release i k) (queue_at (queues t) i) in
      let o = oldest_turn i t l (sym (eqb-true i (runs t) (and_left mine first e))) in
      let at = eqb-true (release i k) o.2.job.release (rw o.2.is at (and_right mine first e)) in
      subst (λ m. Turn i m t) (sym (same_job i k o.0 l (at ∙ sym o.2.release_is))) o.1

  -- its last tick is the one that completes its work
  pub ends_not : (i k t : ℕ) → i < length order → Turn i k t → service runs i (suc t) < needed (need i) (suc k)
      → ends (queue_at (queues t) (runs t)) ≡ false
  ends_not i k t l n h =
      let o = of_turn i k t l n in
      let step = service_step runs i t n.ran in
      rw (n.ran, o.is) (lt-leb o.job.needs 1 (omega (arith, o.left)))

  pub not_ends : (i k t : ℕ) → i < length order → Turn i k t → ends (queue_at (queues t) (runs t)) ≡ false
      → service runs i (suc t) < needed (need i) (suc k)
  not_ends i k t l n e =
      let o = of_turn i k t l n in
      let step = service_step runs i t n.ran in
      let more = leb-false o.job.needs 1 (rw (n.ran, o.is) at e) in
      omega (arith, o.left)

  -- ---- the ticks that a job has had, by its rank's service
  share : (i k t : ℕ) → i < length order
      → ticks i k t
      ≡ (service runs i t - needed (need i) k) - (service runs i t - needed (need i) (suc k))
  share i k zero l = omega arith
  share i k (suc t) l = elim (test_of (takes i k t)) [
    | inl e ↦ (
        let n = turn_of i k t l e in
        rw e (omega (arith, share i k t l, service_step runs i t n.ran, n.begun, n.unfinished)))
    | inr e ↦ elim (test_of (eqb (runs t) i)) [
      | inl r ↦ (
          let ran = eqb-true (runs t) i r in
          elim (le-or-lt (needed (need i) k) (service runs i t)) [
            | inl a ↦ elim (le-or-lt (needed (need i) (suc k)) (service runs i t)) [
              | inl b ↦ rw (e, r) (omega (arith, share i k t l))
              | inr b ↦ absurd (true_not_false _
                  (takes_of i k t l (record { ran = ran; begun = a; unfinished = b })) e)
            ]
            | inr a ↦ rw (e, r) (omega (arith, share i k t l))
          ])
      | inr r ↦ rw (e, r) (omega (arith, share i k t l))
    ]
  ]

  -- ---- pending: not all of the work up to the job is done, and it is released
  abbrev pub Pends : ℕ → ℕ → ℕ → Type 0
  Pends i k t = Pending order offset need keeps (board_goes_to order offset need keeps) i k t

  pub due : (i k t : ℕ) → i < length order → release i k ≤ t
      → needed (need i) (suc k) ≤ work_of order offset need i (suc t)
  due i k t l h =
      needed_grows (need i) (suc k) (released_of order offset i (suc t))
      (released_before_lem (row_at order i).period (offset i) (periods i l) k (suc t) (omega arith))

  pub not_done : (i k t : ℕ) → i < length order → ticks i k t < need i k → service runs i t < needed (need i) (suc k)
  not_done i k t l p = elim (le-or-lt (needed (need i) (suc k)) (service runs i t)) [
    | inl h ↦ absurd (omega (arith, share i k t l))
    | inr h ↦ h
  ]

  pub pending_of : (i k t : ℕ) → i < length order → Turn i k t → Pends i k t
  pending_of i k t l n = (
    elim (le-or-lt (release i k) t) [
      | inl h ↦ h
      | inr h ↦ (
          let few = unreleased (row_at order i).period (offset i) (periods i l) k (suc t) h in
          let done = needed_grows (need i) (released_of order offset i (suc t)) k few in
          let work = (trace order offset need keeps periods needs).has_work i t l n.ran in
          absurd (omega (arith, n.begun)))
    ],
    omega (arith, share i k t l, n.begun, n.unfinished),
  )

  -- ---- finishes
  pub record LastTick (i k t : ℕ) : Type 0 where
    pub turn : Turn i k t
    pub whole : ticks i k (suc t) ≡ need i k

  pub finish_if : (i k t : ℕ) → i < length order → Finishes order offset need keeps i (release i k) (suc t)
      → LastTick i k t
  finish_if i k t l e =
      let n = of_finish order offset need keeps periods needs i (release i k) (suc t) l e in
      let same = same_job i k n.index l n.release_is in
      let at : n.tick ≡ t = omega (arith, n.after) in
      let ran : runs t ≡ i = subst (λ u. runs u ≡ i) at n.ran in
      let whole : service runs i (suc t) ≡ needed (need i) (suc k) =
      ap (λ u. service runs i (suc u)) (sym at) ∙ (n.complete ∙ ap (λ m. needed (need i) (suc m)) (sym same)) in
      let step = service_step runs i t ran in
      record {
        turn = record { ran = ran; begun = omega (arith, needs i k l); unfinished = omega arith };
        whole = share i k (suc t) l ∙ omega (arith, whole);
      }

  pub finish_then : (i k t : ℕ) → i < length order → LastTick i k t
      → Finishes order offset need keeps i (release i k) (suc t)
  finish_then i k t l n =
      let step = service_step runs i t n.turn.ran in
      finish_told order offset need keeps periods needs i t k l n.turn.unfinished
      (omega (arith, n.turn.begun, n.turn.unfinished, share i k (suc t) l, n.whole))

  -- the tick before a finish
  before : (i k f : ℕ) → i < length order → Finishes order offset need keeps i (release i k) f
      → (t : ℕ) × (f ≡ suc t) × LastTick i k t
  before i k f l e =
      let n = of_finish order offset need keeps periods needs i (release i k) f l e in
      let done = subst (Finishes order offset need keeps i (release i k)) n.after e in
      (n.tick, n.after, finish_if i k n.tick l done)

  pub in_full : (i k f : ℕ) → i < length order → Finishes order offset need keeps i (release i k) f
      → (release i k < f) × (ticks i k f ≡ need i k)
  in_full i k f l e =
      let b = before i k f l e in (
        omega (arith, (pending_of i k b.0 l b.2.turn).0, b.1),
        subst (λ f. ticks i k f ≡ need i k) (sym b.1) b.2.whole,
      )

  pub in_sequence : (i k m f g : ℕ) → i < length order → k < m
      → Finishes order offset need keeps i (release i k) f → Finishes order offset need keeps i (release i m) g
      → f < g
  in_sequence i k m f g l h d e =
      let x = before i k f l d in
      let y = before i m g l e in
      elim (le-or-lt (suc f) g) [
        | inl b ↦ b
        | inr b ↦ absurd (omega (
          arith,
          service_grows runs i y.0 x.0 (omega (arith, x.1, y.1)),
          needed_grows (need i) (suc k) m h,
          x.2.turn.unfinished,
          y.2.turn.begun,
        ))
      ]

  pub not-before : (i k : ℕ) → i < length order → ticks i k (release i k) ≡ 0
  not-before i k l =
      let none = unserved order offset need keeps periods needs i k (release i k) l (omega arith) in
      share i k (release i k) l ∙ omega arith
