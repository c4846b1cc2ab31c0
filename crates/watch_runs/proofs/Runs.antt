-- A run tick by tick: its jobs show the board before each tick, and the text so far is that of what has finished.
use mathlib.Core.Path.{◌≡◌, refl, sym, ap, subst, ◌∙◌}
use mathlib.Core.List.{List, [], ◌∷◌, ◌++◌, append-nil, append_assoc}
use Prim.Native.Nat.{ℕ, suc, ◌+◌, ◌*◌, ◌^◌, ◌≤◌, ◌<◌}
use native.Mathlib.Omega.{arith}
use native.Mathlib.Numerals.{add-one}
use lib.ListN.{length, get_or, length-append}
use Rattle.std.specs.Prelude.{Option, None, Some}
use Rattle.text.proofs.Decimals.{decimal_short}
use Rattle.text.proofs.Spelling.{line_length}
use Rattle.text.proofs.Puts.{begins, first, next_put, ends, wrote_nothing}
use Rattle.rows.specs.Rows.{max_ticks, row_at}
use Rattle.rows.specs.Rows.{Row}
use Rattle.boards.specs.Boards.{Done, no_jobs}
use Rattle.boards.specs.Document01.{pending_then, finished_then}
use Rattle.boards.specs.Witnesses.{never}
use Rattle.boards.proofs.Document01.{same_board}
use Rattle.boards.proofs.Queues.{length_none, none_at}
use Rattle.boards.proofs.Releases.{unreleased}
use Rattle.watch_demands.specs.Jobs.{index_of, length_of}
use Rattle.watch_demands.specs.Runs.{job_text, finished_text}
use Rattle.watch_runs.specs.declared.steps.Board.{Board}
use Rattle.watch_runs.specs.declared.steps.Finish.{Finish}
use Rattle.watch_runs.specs.declared.steps.Pending.{Pending}
use Rattle.watch_runs.specs.inside.Owners.{rank_at, Released, SlotIn, Sought}
use Rattle.watch_runs.specs.inside.States.{length_in, job_at, RankShown, Shown, Begins, Steady, Steps}
use Rattle.watch_runs.specs.inside.States.{done_in}
use Rattle.watch_runs.specs.inside.Runs.{job_room, run_room, PutIf, WroteIf, Describes, Startable, Runs}
use Rattle.watch_runs.proofs.Slots.{slot_length, first_slot}

-- ---- texts
pub job_length : (a b c : ℕ) → a < 2 ^ 64 → b < 2 ^ 64 → c < 2 ^ 64 → length (job_text a b c) ≤ job_room
unfolding job_text
job_length a b c la lb lc =
    simp (length-append, line_length)
    (omega (
      arith,
      decimal_short a 19 (omega arith),
      decimal_short b 19 (omega arith),
      decimal_short c 19 (omega arith),
    ))

text_append : (order : List Row) (xs ys : List Done)
    → finished_text order (xs ++ ys) ≡ finished_text order xs ++ finished_text order ys
text_append order [] ys = refl
text_append order (x ∷ xs) ys =
    let here = job_text (row_at order x.rank).task x.release x.finish in
    ap (λ (l : List ℕ). here ++ l) (text_append order xs ys)
    ∙ sym (append_assoc here (finished_text order xs) (finished_text order ys))

-- one job more
text-more : {text job o o₁ o₂ : List ℕ} {m n : ℕ} → WroteIf text o o₁ m → PutIf job m o₁ o₂ n → length o₁ ≡ length o
    → WroteIf (text ++ job) o o₂ n
text-more {text} {job} {o} {o₁} {o₂} {m} {n} t p same = record {
  long_is = omega (arith, t.long_is, p.ends, length-append text job);
  fits = λ h.
      let long = length-append text (job ++ []) in
      let long' = length-append job [] in
      let start = begins (text ∷ job ∷ []) o (omega (arith, h, t.long_is, p.ends)) in
      let here = first start (t.fits (omega (arith, p.ends))) in
      rw (append-nil job) at
      (ends (next_put here record { ends = p.ends; holds = p.fits (omega arith) }));
}

-- ---- the first jobs
module _ {order : List Row} {offset : ℕ → ℕ} {x : Board} (d : Describes order offset x) where
  abbrev released : Released order offset x.ranks.now
  released = d.suits.released

  -- the board before its first tick
  module _
      (pending : List Pending) (as_many : length pending ≡ length x.ranks.now) (b : Begins x pending)
    where
      some : (j : ℕ) → j < length order → 1 ≤ (row_at order j).period
      some j l = released.period_some j (omega (arith, released.as_many))

      shown_at : (j : ℕ) → j < length order
          → RankShown order offset x.lengths.now 0 j (get_or (no_jobs order) j []) (job_at pending j)
      shown_at j l =
          let in_ranks : j < length x.ranks.now = omega (arith, released.as_many) in
          let first = b j (omega (arith, as_many, in_ranks)) in
          let none = unreleased (row_at order j).period (offset j) (some j l) 0 0 (omega arith) in
          let slot =
          rw d.suits.as_many at (first_slot order offset some x.owners.now d.suits.owned j l (job_at pending j).slot first.sought) in
          record {
            oldest = 0;
            pending = 0;
            so_far = omega arith;
            queue_is = none_at order j;
            unbegun = λ z.
                first.left_is
                ∙ ap (length_in x.lengths.now (rank_at x.ranks.now j).cost) slot
                ∙ slot_length x.lengths.now (index_of order offset j 0) (rank_at x.ranks.now j).cost
                ∙ ap (get_or x.lengths.now (index_of order offset j 0)) (d.suits.cost_is j in_ranks);
            start_is = omega (arith, first.start_is, released.offset_is j in_ranks);
            slot_is = slot;
          }

      pub begun : Shown order offset x.lengths.now 0 (no_jobs order) pending
      begun = record { ranks = length_none order; each = shown_at }

-- the slots of the first jobs are in the list
pub slots_begun : (x : Board) (pending : List Pending) → Begins x pending
    → (j : ℕ) → j < length pending → SlotIn (length x.owners.now) (job_at pending j).slot
slots_begun x pending b j l = sought_in (length x.owners.now) (job_at pending j).slot (b j l).sought
  where
    sought_in : (n : ℕ) (r : Option ℕ) → Sought x.owners.now 0 j r → SlotIn (length x.owners.now) r
    sought_in n None s = tt
    sought_in n (Some m) s = s.within

-- ---- a run on its way: from its first releases and its buffer at the start to the jobs and the buffer before tick t
module _ (ticks : ℕ) (x : Board) (o : List ℕ) where
  pub record Running (pending : List Pending) (o₁ : List ℕ) (end t : ℕ) : Type 0 where
    pub soon : ticks ≤ max_ticks
    pub reached : t ≤ ticks
    pub steady : Steady t pending x
    pub end_max : end ≤ job_room * t
    pub same : length o₁ ≡ length o
    -- whatever order the ranks are of
    pub shows :
        (order : List Row) (offset : ℕ → ℕ) → Describes order offset x
        → let need = length_of order offset x.lengths.now in
        Shown order offset x.lengths.now t (pending_then order offset need t) pending
        × WroteIf (finished_text order (finished_then order offset need t)) o o₁ end

  pub running_starts : Startable ticks x → (pending : List Pending) → length pending ≡ length x.ranks.now
      → Begins x pending → Running pending o 0 0
  running_starts r pending as_many b = record {
    soon = r.soon;
    reached = omega arith;
    steady = record { soon = omega arith; fits = r.fits; as_many = as_many; slots_in = slots_begun x pending b };
    end_max = omega arith;
    same = refl;
    shows = λ order offset d. (
      begun d pending as_many b,
      record { long_is = refl; fits = λ h. wrote_nothing o },
    );
  }

  module _ {pending : List Pending} {o₁ : List ℕ} {end t : ℕ} (g : Running pending o₁ end t) where
    pub end_small : end ≤ run_room
    end_small = omega (arith, g.end_max, g.reached, g.soon)

    module _ (more : t < ticks) {pending' : List Pending} (same_p : length pending' ≡ length pending) where
      -- with its text, as a tick leaves it
      module _
          {r : Option Finish} (f : Steps t x pending pending' r) {o₂ : List ℕ} {end' : ℕ}
          (end_max : end' ≤ job_room * (t + 1)) (same : length o₂ ≡ length o)
          (text : (order : List Row) (offset : ℕ → ℕ) → Describes order offset x → (ds : List Done)
          → WroteIf (finished_text order ds) o o₁ end → WroteIf (finished_text order (ds ++ done_in t r)) o o₂ end')
        where
          stepped : Running pending' o₂ end' (t + 1)
          stepped = record {
            soon = g.soon;
            reached = omega arith;
            steady = record {
              soon = omega (arith, g.soon);
              fits = g.steady.fits;
              as_many = same_p ∙ g.steady.as_many;
              slots_in = λ j l. f.slots_in j (omega (arith, same_p));
            };
            end_max = end_max;
            same = same;
            shows = λ order offset d.
                let need = length_of order offset x.lengths.now in
                let now = g.shows order offset d in
                let then = f.follows order offset (pending_then order offset need t) d.suits now.0 in
                rw (add-one t)
                (then.0, rw then.1 (text order offset d (finished_then order offset need t) now.1));
          }

      -- a tick that finishes no job
      pub running_idle : Steps t x pending pending' None → Running pending' o₁ end (t + 1)
      running_idle f =
          stepped f (omega (arith, g.end_max)) g.same
          (λ order offset d ds w. rw (append-nil ds) w)

      -- a tick that finishes one
      pub running_on : (r : Finish) → Steps t x pending pending' (Some r) → {o₂ : List ℕ} {end' : ℕ}
          → PutIf (job_text ((rank_at x.ranks.now r.rank).task) r.release (t + 1)) end o₁ o₂ end' → length o₂ ≡ length o₁
          → Running pending' o₂ end' (t + 1)
      running_on r f {o₂} {end'} p same =
          stepped f (omega (arith, p.ends, p.short, g.end_max)) (same ∙ g.same) (λ order offset d ds w.
          let job = job_text (row_at order r.rank).task r.release (suc t) in
          let put : PutIf job end o₁ o₂ end' =
          rw (d.task_is r.rank f.rank_in, add-one t) at p in
          rw (text_append order ds (done_in t (Some r)), append-nil job) (text-more w put g.same))

    -- the run's text is that of the board, which no task holds
    pub running_ends : ticks ≤ t → Runs ticks x o o₁ end
    running_ends h =
        let e : t ≡ ticks = omega (arith, g.reached) in
        record {
          long_max = rw e at g.end_max;
          wrote = λ order offset d.
              let need = length_of order offset x.lengths.now in
              let same = (same_board order offset need never).same_finished d.none_holds ticks in
              subst (λ ds. WroteIf (finished_text order ds) o o₁ end)
              (ap (finished_then order offset need) e ∙ sym same) (g.shows order offset d).1;
        }
