-- Every run by the documents' rules: a stretch goes on by the rules exactly where the board goes on with its job, for
-- the board has left of it what its row's hold is more than the ticks that it has had. All other ticks go by rank.
use mathlib.Core.Path.{◌≡◌, refl, sym, ap, subst, ◌∙◌}
use mathlib.Core.Bool.{Bool, true, false}
use mathlib.Core.List.{List}
use mathlib.Core.Logic.{inl, inr}
use Prim.Native.Nat.{ℕ, zero, suc, ◌+◌, ◌-◌, ◌≤◌, ◌<◌}
use native.Mathlib.Omega.{arith}
use native.Mathlib.Nat.{add-zero, add-suc, lt_trans}
use lib.Dec.{leb}
use lib.ListN.{length}
use borrow.Author.Tests.{le-leb}
use Rattle.basics.proofs.Tests.{test_of, true_not_false, false_of, le-or-lt, and_left, and_both}
use Rattle.rows.specs.Rows.{times_in_range, all_rows, row_at}
use Rattle.rows.specs.Rows.{Row}
use Rattle.rows.proofs.Limits.{Times, times, at_passes}
use Rattle.responses.specs.Figures.{rows_below}
use Rattle.responses.specs.Claims.{NoneHolds}
use Rattle.boards.specs.Claims.{LastsInRange, Finishes}
use Rattle.boards.specs.Runs.{goes_on_after, stretch, GoesOn, ByRank, ByRules, board_goes_to, BoardRuns}
use Rattle.boards.proofs.Releases.{needed, needed_grows}
use Rattle.boards.proofs.Service.{service, service_step, service_grows, service_most, Run, own_tick}
use Rattle.boards.proofs.Stretches.{hold_of, board_before, on_in, runs_in, began_in, runs_on, off}
use Rattle.boards.proofs.Stretches.{began_new, left_some, left_on, left_new, not_ended, rank_on}
use Rattle.boards.proofs.Traces.{release_of, work_of, trace, unserved, finished_rank, finish_told, of_finish}
use Rattle.boards.proofs.Ranks.{hold_below}
use Rattle.boards.proofs.Windows.{periods, needs}
use Rattle.boards.proofs.Turns.{Turn, one_turn, some_turn, takes_of, turn_of, ends_not, not_ends}
use Rattle.boards.proofs.Turns.{Pends, due, not_done, pending_of, finish_if, finish_then}
use Rattle.boards.proofs.Turns.{in_full, in_sequence, not-before}
use Rattle.boards.proofs.Schedules.{goes_on_of, of_goes_on, held_most, one_schedule}
use Rattle.boards.proofs.Document01.{same_board}

module _ (order : List Row) (offset : ℕ → ℕ) (need : ℕ → ℕ → ℕ) (keeps : ℕ → Bool)
    (periods : (j : ℕ) → j < length order → 1 ≤ (row_at order j).period)
    (needs : (j k : ℕ) → j < length order → 1 ≤ need j k) where
  abbrev on : ℕ → Bool
  on t = on_in order offset need keeps t

  abbrev left : ℕ → ℕ
  left t = (board_before order offset need keeps t).left

  abbrev runs : ℕ → ℕ
  runs t = runs_in order offset need keeps t

  abbrev began : ℕ → ℕ
  began t = began_in order offset need keeps t

  abbrev release : ℕ → ℕ → ℕ
  release i k = release_of order offset i k

  abbrev work : ℕ → ℕ → ℕ
  work i t = work_of order offset need i t

  abbrev takes : ℕ → ℕ → ℕ → Bool
  takes i k t = board_goes_to order offset need keeps i k t

  abbrev stretched : ℕ → ℕ → ℕ → ℕ
  stretched i k t = stretch order offset need keeps takes i k t

  abbrev Takes : ℕ → ℕ → ℕ → Type 0
  Takes i k t = Turn order offset need keeps periods needs i k t

  abbrev OnByRules : ℕ → ℕ → ℕ → Type 0
  OnByRules i k t = GoesOn order offset need keeps takes i k t

  run : Run (length order) (hold_of order) runs began work
  run = trace order offset need keeps periods needs

  -- ---- stretches
  -- before tick t: what is left of a stretch that goes on, and what goes on by the rules does so on the board
  record Stretches (t : ℕ) : Type 0 where
    left_is :
        (i k : ℕ) → i < length order → Takes i k t → on t ≡ true
        → (1 ≤ stretched i k t) × (left t ≡ hold_of order i - stretched i k t)
    on_if : (i k : ℕ) → i < length order → OnByRules i k t → (on t ≡ true) × Takes i k t

  on_then : (i k t : ℕ) → Stretches t → i < length order → Takes i k t → on t ≡ true → OnByRules i k t
  on_then i k t s l n e =
      let x = s.left_is i k l n e in
      of_goes_on order offset need keeps takes i k t (stretched i k t) (record {
        kept = and_left (keeps t) (leb 1 (left t)) e;
        begun = x.0;
        shorter = omega (arith, x.1, left_some order offset need keeps t e);
        unfinished = (pending_of order offset need keeps periods needs i k t l n).1;
      })

  -- a tick of a job that goes on after it
  after_tick_lem : (i k t : ℕ) → Stretches t → i < length order → Takes i k t
      → service runs i (suc t) < needed (need i) (suc k)
      → (1 ≤ stretched i k (suc t)) × (left (suc t) ≡ hold_of order i - stretched i k (suc t))
  after_tick_lem i k t s l n h =
      let goes = takes_of order offset need keeps periods needs i k t l n in
      let open_still = ends_not order offset need keeps periods needs i k t l n h in
      elim (test_of (on t)) [
        | inl e ↦ (
            let next = left_on order offset need keeps t open_still e in
            rw (goes, on_then i k t s l n e) (omega arith, omega (arith, next, (s.left_is i k l n e).1)))
        | inr e ↦ (
            let next = left_new order offset need keeps t open_still e in
            let none : OnByRules i k t → ⊥ = λ g. true_not_false (on t) (s.on_if i k l g).0 e in
            let new = false_of (goes_on_after order offset need keeps takes i k t (stretched i k t)) none in
            rw (goes, new) (omega arith, omega (arith, next, ap (hold_of order) n.ran)))
      ]

  -- a stretch that goes on is that of the job of the tick before
  same_turn : (i k t : ℕ) → i < length order → Takes i k (suc t) → on (suc t) ≡ true → Takes i k t
  same_turn i k t l n e =
      let ran : runs t ≡ i = sym (runs_on order offset need keeps (suc t) e) ∙ n.ran in
      let o = some_turn order offset need keeps periods needs i t l ran in
      let some = left_some order offset need keeps (suc t) e in
      let more = not_ended order offset need keeps t some in
      let open_still = not_ends order offset need keeps periods needs i o.0 t l o.1 more in
      let begun = o.1.begun in
      let then : Takes i o.0 (suc t) = record {
        ran = n.ran;
        begun = omega (arith, service_grows runs i t (suc t) (omega arith));
        unfinished = open_still;
      } in
      subst (λ m. Takes i m t) (one_turn order offset need keeps periods needs i o.0 k (suc t) then n) o.1

  taken : (i k t : ℕ) → 1 ≤ stretched i k (suc t) → takes i k t ≡ true
  taken i k t h = elim (test_of (takes i k t)) [
    | inl e ↦ e
    | inr e ↦ absurd (let z : 1 ≤ 0 = rw e at h in omega arith)
  ]

  stretches : (t : ℕ) → Stretches t
  stretches zero = record {
    left_is = λ i k l n e. absurd (true_not_false (on 0) e (off order offset need keeps 0 refl));
    on_if = λ i k l g. absurd (omega (arith, (goes_on_of order offset need keeps takes i k 0 0 g).begun));
  }
  stretches (suc t) =
      let s = stretches t in
      record {
        left_is = λ i k l n e. after_tick_lem i k t s l (same_turn i k t l n e) n.unfinished;
        on_if = λ i k l g.
            let m = goes_on_of order offset need keeps takes i k (suc t) (stretched i k (suc t)) g in
            let n = turn_of order offset need keeps periods needs i k t l (taken i k t m.begun) in
            let open_still = not_done order offset need keeps periods needs i k (suc t) l m.unfinished in
            let x = after_tick_lem i k t s l n open_still in
            let some = le-leb 1 (left (suc t)) (omega (arith, x.1, m.shorter)) in
            let e = and_both (keeps (suc t)) (leb 1 (left (suc t))) m.kept some in
            let begun = n.begun in (
              e,
              record {
                ran = runs_on order offset need keeps (suc t) e ∙ n.ran;
                begun = omega (arith, service_grows runs i t (suc t) (omega arith));
                unfinished = open_still;
              },
            );
      }

  -- ---- a tick by rank: the ranks above its own have no job pending
  none_left : (j t : ℕ) → j < length order → j < runs t → began t ≡ t → work j (suc t) ≤ service runs j t
  none_left j t l b e = subst (λ u. work j (suc u) ≤ service runs j u) e (run.by_rank j t l b)

  above_done : (j m t : ℕ) → j < length order → j < runs t → began t ≡ t
      → Pends order offset need keeps periods needs j m t → ⊥
  above_done j m t l b e p =
      let more = not_done order offset need keeps periods needs j m t l p.1 in
      omega (arith, none_left j t l b e, due order offset need keeps periods needs j m t l p.0)

  by_rank : (i k t : ℕ) → i < length order → on t ≡ false → Takes i k t → ByRank order offset need keeps takes i k t
  by_rank i k t l e n =
      let new = began_new order offset need keeps t e in
      record {
        pending = pending_of order offset need keeps periods needs i k t l n;
        none_above = λ j m h p. above_done j m t (omega (arith, h, l)) (omega (arith, n.ran, h)) new p;
        none_older = λ m h p.
            let more = not_done order offset need keeps periods needs i m t l p.1 in
            omega (arith, needed_grows (need i) (suc m) k h, n.begun);
      }

  of_rank : (i k t : ℕ) → i < length order → on t ≡ false → ByRank order offset need keeps takes i k t → Takes i k t
  of_rank i k t l e p =
      let new = began_new order offset need keeps t e in
      let more = not_done order offset need keeps periods needs i k t l p.pending.1 in
      let lower : i < runs t → ⊥ = λ b. above_done i k t l b new p.pending in
      let higher : runs t < i → ⊥ = λ b.
      let lj = lt_trans b l in
      let o = some_turn order offset need keeps periods needs (runs t) t lj refl in
      p.none_above (runs t) o.0 b (pending_of order offset need keeps periods needs (runs t) o.0 t lj o.1) in
      let ran : runs t ≡ i = omega (arith, lower, higher) in
      let o = some_turn order offset need keeps periods needs i t l ran in
      let older : o.0 < k → ⊥ = λ h.
      p.none_older o.0 h (pending_of order offset need keeps periods needs i o.0 t l o.1) in
      let newer : k < o.0 → ⊥ = λ h. omega (arith, needed_grows (need i) (suc k) o.0 h, o.1.begun) in
      let same : o.0 ≡ k = omega (arith, newer, older) in
      subst (λ m. Takes i m t) same o.1

  by_rules : ByRules order offset need keeps takes
  by_rules i k t l = (
    λ g.
        let n = turn_of order offset need keeps periods needs i k t l g in
        elim (test_of (on t)) [
          | inl e ↦ inl (on_then i k t (stretches t) l n e)
          | inr e ↦ inr (λ j m h o. true_not_false (on t) ((stretches t).on_if j m h o).0 e, by_rank i k t l e n)
        ],
    λ c. takes_of order offset need keeps periods needs i k t l (elim c [
      | inl o ↦ ((stretches t).on_if i k l o).1
      | inr p ↦ of_rank i k t l (false_of (on t) (λ e.
          let lj = rank_on order offset need keeps t e in
          let o = some_turn order offset need keeps periods needs (runs t) t lj refl in
          p.0 (runs t) o.0 lj (on_then (runs t) o.0 t (stretches t) lj o.1 e))) p.1
    ]),
  )

  -- ---- idle ticks
  idle : (t : ℕ) → ((i k : ℕ) → i < length order → takes i k t ≡ true → ⊥)
      → (i k : ℕ) → i < length order → Pends order offset need keeps periods needs i k t → ⊥
  idle t none i k l p = elim (le-or-lt (length order) (runs t)) [
    | inl h ↦ (
        let off = false_of (on t) (λ e. omega (arith, rank_on order offset need keeps t e)) in
        above_done i k t l (omega arith) (began_new order offset need keeps t off) p)
    | inr h ↦ (
        let o = some_turn order offset need keeps periods needs (runs t) t h refl in
        none (runs t) o.0 h (takes_of order offset need keeps periods needs (runs t) o.0 t h o.1))
  ]

  -- ---- the highest rank: none below it holds the processor, so every tick of a pending job is its own
  module _ (l : 0 < length order) (none : NoneHolds (rows_below order 0))
      (short : (k : ℕ) → need 0 k ≤ (row_at order 0).period) where
    -- from the release of its kth job on, if those before are done
    ahead : (k d : ℕ) → needed (need 0) k ≤ service runs 0 (release 0 k) → d ≤ need 0 k
        → needed (need 0) k + d ≤ service runs 0 (release 0 k + d)
    ahead k zero h b = rw (add-zero (release 0 k)) (omega arith)
    ahead k (suc d) h b =
        let t = release 0 k + d in
        let ih = ahead k d h (omega arith) in
        rw (add-suc (release 0 k) d) (elim (le-or-lt (runs t) 0) [
          | inl z ↦ (let ran : runs t ≡ 0 = omega arith in omega (arith, service_step runs 0 t ran))
          | inr z ↦ (
              let own = own_tick (length order) (hold_of order) runs began work run t
              (λ x. hold_below 1 1 order none (runs t) z x) in
              let more = service_grows runs 0 t (suc t) (omega arith) in
              let ready = due order offset need keeps periods needs 0 k t l (omega arith) in
              omega (arith, none_left 0 t l z own))
        ])

    on_time : (k : ℕ) → needed (need 0) k ≤ service runs 0 (release 0 k)
    on_time zero = omega arith
    on_time (suc k) =
        let a = ahead k (need 0 k) (on_time k) (omega arith) in
        omega (arith, service_grows runs 0 (release 0 k + need 0 k) (release 0 (suc k)) (omega (arith, short k)))

    highest_first : (k : ℕ) → Finishes order offset need keeps 0 (release 0 k) (release 0 k + need 0 k)
    highest_first k =
        let some = needs 0 k l in
        let d = need 0 k - 1 in
        let t = release 0 k + d in
        let next : suc t ≡ release 0 k + need 0 k = omega arith in
        let low = unserved order offset need keeps periods needs 0 k (release 0 k) l (omega arith) in
        let most = service_most runs 0 (release 0 k) d in
        let whole = ahead k (need 0 k) (on_time k) (omega arith) in
        let done = subst (λ u. needed (need 0) (suc k) ≤ service runs 0 u) (sym next) whole in
        subst (Finishes order offset need keeps 0 (release 0 k)) next
        (finish_told order offset need keeps periods needs 0 t k l (omega arith) done)

  -- ---- all together
  all_runs : BoardRuns order offset need keeps
  all_runs = record {
    by_rules = by_rules;
    no_other = λ f r. one_schedule order offset need keeps f takes r by_rules;
    held_most = λ i k t l. held_most order offset need keeps takes i k t;
    idle = idle;
    finishes = λ i k t l. (
      λ e.
          let n = finish_if order offset need keeps periods needs i k t l e in
          (takes_of order offset need keeps periods needs i k t l n.turn, n.whole),
      λ g.
          let n = turn_of order offset need keeps periods needs i k t l g.0 in
          finish_then order offset need keeps periods needs i k t l (record { turn = n; whole = g.1 }),
    );
    a_job = λ i r f e.
        let l = finished_rank order offset need keeps periods needs i r f f e in
        let n = of_finish order offset need keeps periods needs i r f l e in
        (l, (n.index, n.release_is));
    not-before = not-before order offset need keeps periods needs;
    in_full = in_full order offset need keeps periods needs;
    in_sequence = in_sequence order offset need keeps periods needs;
    highest_first = highest_first;
    without_holds = same_board order offset need keeps;
  }

-- every run of rows in range
pub board_runs : (order : List Row) (offset : ℕ → ℕ) (need : ℕ → ℕ → ℕ) (keeps : ℕ → Bool)
    → all_rows times_in_range order ≡ true → LastsInRange order need → BoardRuns order offset need keeps
board_runs order offset need keeps ok lasts =
    all_runs order offset need keeps (periods order offset need rows lasts) (needs order offset need rows lasts)
  where
    rows : (j : ℕ) → j < length order → Times (row_at order j)
    rows j l = times (row_at order j) (at_passes times_in_range order j ok l)
