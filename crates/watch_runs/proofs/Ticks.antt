-- A step of the numbers is a tick of the board. A release changes none of them: a rank has a job pending at tick t
-- exactly if the release of its oldest unfinished job is at most t.
use mathlib.Core.Path.{◌≡◌, refl, sym, ap, ap₂, subst, ◌∙◌}
use mathlib.Core.Bool.{false}
use mathlib.Core.List.{List, [], ◌∷◌, ◌++◌}
use mathlib.Core.Logic.{inl, inr}
use Prim.Native.Nat.{ℕ, zero, suc, ◌+◌, ◌-◌, ◌/◌, ◌≤◌, ◌<◌}
use native.Mathlib.Omega.{arith}
use native.Mathlib.Decide.{ℕ_discrete}
use native.Mathlib.Nat.{zero-add, add-zero}
use lib.Dec.{leb, eqb}
use lib.ListN.{length, get_or, set}
use lib.Seq.{get_or-set_same, get_or-set_other}
use borrow.Author.Tests.{le-leb, lt-leb, eqb-true, eqb-false}
use Rattle.std.specs.Prelude.{Option, None, Some}
use Rattle.basics.proofs.Tests.{test_of}
use Rattle.rows.specs.Rows.{row_at}
use Rattle.rows.specs.Rows.{Row}
use Rattle.boards.specs.Boards.{Job, Done, releases, with_releases, highest, queue_at, worked, worked_at, finishing}
use Rattle.boards.specs.Document01.{after_work, finishes}
use Rattle.boards.proofs.Document01.{work_is, finishes_is}
use Rattle.boards.proofs.Queues.{with_release, length_released, released_at}
use Rattle.boards.proofs.Queues.{length_worked, worked_same, worked_other}
use Rattle.boards.proofs.Releases.{released_before_lem, unreleased, release_yes, release_no}
use Rattle.watch_demands.specs.Jobs.{release_of, index_of, length_of}
use Rattle.watch_runs.specs.inside.Owners.{rank_at, SlotIn, NextSlot}
use Rattle.watch_runs.specs.declared.steps.Board.{Board}
use Rattle.watch_runs.specs.declared.steps.Pending.{Pending}
use Rattle.watch_runs.specs.inside.States.{waiting, queue_of, slot_of, length_in, no_job, job_at, RankShown, Shown, Suits}
use Rattle.watch_runs.specs.inside.States.{FirstDue, TurnIs}
use Rattle.watch_runs.proofs.Slots.{slot_length, following_slot}

-- ---- slots
-- one job is another, whose slot is in the list too
pub slots_with : (n : ℕ) (pending : List Pending) (r : ℕ) (job : Pending) → r < length pending
    → ((j : ℕ) → j < length pending → SlotIn n (job_at pending j).slot) → SlotIn n job.slot
    → (j : ℕ) → j < length pending → SlotIn n (job_at (set pending r job) j).slot
slots_with n pending r job h all own j l = elim (ℕ_discrete j r) [
  | yes e ↦ rw (e, get_or-set_same pending r job no_job h) own
  | no ne ↦ rw (get_or-set_other pending r j job no_job ne) (all j l)
]

pub next_in : (owners : List ℕ) (slot : Option ℕ) (rank : ℕ) (r : Option ℕ) → NextSlot owners slot rank r
    → SlotIn (length owners) r
next_in owners slot rank None n = tt
next_in owners None rank (Some m) n = absurd (let z : ◌≡◌ {A = ℕ} 0 1 = cc in omega arith)
next_in owners (Some k) rank (Some m) n = n.within

-- ---- queues
abbrev job : (ℕ → ℕ) → (ℕ → ℕ) → ℕ → Job
job at need k = record { release = at k; needs = need k }

module _ (at need : ℕ → ℕ) where
  waiting_more : (k c : ℕ) → waiting at need k c ++ (job at need (k + c) ∷ []) ≡ waiting at need k (suc c)
  waiting_more k zero = ap (λ (x : ℕ). job at need x ∷ []) (add-zero k)
  waiting_more k (suc c) =
      let s : k + suc c ≡ suc k + c = omega arith in
      rw s (ap (λ (q : List Job). job at need k ∷ q) (waiting_more (suc k) c))

  queue_fresh : (k c : ℕ) → waiting at need k c ≡ queue_of at need k c (need k)
  queue_fresh k zero = refl
  queue_fresh k (suc c) = refl

  queue_more : (k c left : ℕ) → (c ≡ 0 → left ≡ need k)
      → queue_of at need k c left ++ (job at need (k + c) ∷ []) ≡ queue_of at need k (suc c) left
  queue_more k zero left h = rw (h refl, add-zero k)
  queue_more k (suc c) left h =
      let s : k + suc c ≡ suc k + c = omega arith in
      rw s (ap (λ (q : List Job). record { release = at k; needs = left } ∷ q) (waiting_more (suc k) c))

-- ---- the highest rank with a job
none_works : (i t : ℕ) (qs : List (List Job)) → ((j : ℕ) → j < length qs → queue_at qs j ≡ [])
    → (after_work qs ≡ qs) × (finishes i t qs ≡ [])
none_works i t [] h = (refl, refl)
none_works i t ([] ∷ qs) h =
    let r = none_works (suc i) t qs (λ j l. h (suc j) (omega arith)) in
    (ap (λ (x : List (List Job)). [] ∷ x) r.0, r.1)
none_works i t ((x ∷ q) ∷ qs) h = absurd (cons_not_nil x q (h 0 (omega arith)))
  where
    cons_not_nil : (x : Job) (q : List Job) → x ∷ q ≡ [] → ⊥
    cons_not_nil x q e = let z : ◌≡◌ {A = ℕ} 0 1 = cc in omega arith

highest_is : (qs : List (List Job)) (m : ℕ) (x : Job) (q : List Job) → ((j : ℕ) → j < m → queue_at qs j ≡ [])
    → queue_at qs m ≡ x ∷ q → highest qs ≡ m
highest_is [] m x q h e = let z : ◌≡◌ {A = ℕ} 0 1 = cc in omega arith
highest_is ([] ∷ qs) zero x q h e = let z : ◌≡◌ {A = ℕ} 0 1 = cc in omega arith
highest_is ([] ∷ qs) (suc m) x q h e = ap suc (highest_is qs m x q (λ j l. h (suc j) (omega arith)) e)
highest_is ((y ∷ p) ∷ qs) zero x q h e = refl
highest_is ((y ∷ p) ∷ qs) (suc m) x q h e =
    let f : y ∷ p ≡ [] = h 0 (omega arith) in
    let z : ◌≡◌ {A = ℕ} 0 1 = cc in omega arith

module _
    {order : List Row} {offset : ℕ → ℕ} {x : Board} (s : Suits order offset x)
  where
    abbrev lengths : List ℕ
    lengths = x.lengths.now

    abbrev at : ℕ → ℕ → ℕ
    at = release_of order offset

    abbrev need : ℕ → ℕ → ℕ
    need = length_of order offset lengths

    abbrev Rank : ℕ → ℕ → List Job → Pending → Type 0
    Rank = RankShown order offset lengths

    some : (j : ℕ) → j < length order → 1 ≤ (row_at order j).period
    some j l = s.released.period_some j (omega (arith, s.released.as_many))

    -- ---- releases
    released_shown : (t : ℕ) (qs : List (List Job)) → length qs ≡ length order → (j : ℕ) → j < length order
        → {now : Pending} → Rank t j (queue_at qs j) now
        → Rank (suc t) j (queue_at (with_releases 0 t order offset need qs) j) now
    released_shown t qs long j l {now = now} y = elim (test_of (releases (row_at order j) (offset j) t)) [
      | inl e ↦ (
          let z = release_yes (row_at order j) (offset j) t (some j l) e in
          let k = y.oldest + y.pending in
          let at_k : t ≡ at j k = sym z.0 ∙ ap (at j) (sym y.so_far) in
          let this : (t - offset j) / (row_at order j).period ≡ k = z.1 ∙ sym y.so_far in
          record {
            oldest = y.oldest;
            pending = suc y.pending;
            so_far = omega (arith, y.so_far, z.2);
            queue_is =
                here
                ∙ rw e (ap₂ (λ q (z : Job). q ++ (z ∷ [])) y.queue_is (new (at j) (need j) at_k this)
                ∙ queue_more (at j) (need j) y.oldest y.pending now.left y.unbegun);
            unbegun = λ z. absurd (omega arith);
            start_is = y.start_is;
            slot_is = y.slot_is;
          })
      | inr e ↦ record {
        oldest = y.oldest;
        pending = y.pending;
        so_far = y.so_far ∙ sym (release_no (row_at order j) (offset j) t (some j l) e);
        queue_is = here ∙ rw e y.queue_is;
        unbegun = y.unbegun;
        start_is = y.start_is;
        slot_is = y.slot_is;
      }
    ]
      where
        new : (f g : ℕ → ℕ) {u k m : ℕ} → u ≡ f k → m ≡ k
            → ◌≡◌ {A = Job} (record { release = u; needs = g m }) (job f g k)
        new f g p q = rw (p, q)

        here : queue_at (with_releases 0 t order offset need qs) j
            ≡ with_release (need j) (row_at order j) (offset j) t (queue_at qs j)
        here = rw zero-add at (released_at offset need 0 t order qs j long l)

    -- ---- who is due
    module _
        (j : ℕ) (l : j < length order) {t : ℕ} {q : List Job} {now : Pending} (y : Rank (suc t) j q now)
      where
        due : now.start ≤ t → (c : ℕ) × (y.pending ≡ suc c)
        due h =
            let began : at j y.oldest < suc t = omega (arith, y.start_is) in
            let b = released_before_lem (row_at order j).period (offset j) (some j l) y.oldest (suc t) began in
            (y.pending - 1, omega (arith, y.so_far))

        not_due : t < now.start → q ≡ []
        not_due h =
            let later : suc t ≤ at j y.oldest = omega (arith, y.start_is) in
            let b = unreleased (row_at order j).period (offset j) (some j l) y.oldest (suc t) later in
            let none : y.pending ≡ 0 = omega (arith, y.so_far) in
            y.queue_is ∙ ap (λ (c : ℕ). queue_of (at j) (need j) y.oldest c now.left) none

    -- ---- a tick
    module _
        {t : ℕ} {qs : List (List Job)} {pending : List Pending} (shown : Shown order offset lengths t qs pending)
        (as_many : length pending ≡ length x.ranks.now)
      where
        abbrev in_tick : List (List Job)
        in_tick = with_releases 0 t order offset need qs

        -- the jobs that a tick leaves, and what it finishes
        abbrev Ticks : List Pending → List Done → Type 0
        Ticks pending' done =
            Shown order offset lengths (suc t) (after_work in_tick) pending' × (finishes 0 t in_tick ≡ done)

        in_tick_long : length in_tick ≡ length order
        in_tick_long = length_released offset need 0 t order qs shown.ranks

        rank_in : (j : ℕ) → j < length order → Rank (suc t) j (queue_at in_tick j) (job_at pending j)
        rank_in j l = released_shown t qs shown.ranks j l (shown.each j l)

        idle_at : (j : ℕ) → j < length order → t < (job_at pending j).start → queue_at in_tick j ≡ []
        idle_at j l h = not_due j l (rank_in j l) h

        -- nobody is due
        pub idles : TurnIs t pending None → Ticks pending []
        idles none =
            let idle =
            none_works 0 t in_tick
            (λ j l. idle_at j (omega (arith, in_tick_long)) (none j (omega (arith, in_tick_long, as_many, s.released.as_many)))) in
            (rw idle.0 record { ranks = in_tick_long; each = rank_in }, idle.1)

        -- rank r is due
        module _ {r : ℕ} (whose : FirstDue t pending r) where
          here : r < length order
          here = omega (arith, whose.within, as_many, s.released.as_many)

          in_ranks : r < length x.ranks.now
          in_ranks = omega (arith, whose.within, as_many)

          abbrev job_now : Pending
          job_now = job_at pending r

          y : Rank (suc t) r (queue_at in_tick r) job_now
          y = rank_in r here

          abbrev behind : ℕ
          behind = (due r here y whose.due).0

          abbrev rest : List Job
          rest = waiting (at r) (need r) (suc y.oldest) behind

          abbrev first : Job
          first = record { release = at r y.oldest; needs = job_now.left }

          pending_is : y.pending ≡ suc behind
          pending_is = (due r here y whose.due).1

          queue_here : queue_at in_tick r ≡ first ∷ rest
          queue_here = y.queue_is ∙ ap (λ (c : ℕ). queue_of (at r) (need r) y.oldest c job_now.left) pending_is

          highest_here : highest in_tick ≡ r
          highest_here =
              highest_is in_tick r first rest
              (λ j h. idle_at j (omega (arith, here)) (whose.others j h)) queue_here

          work_here : after_work in_tick ≡ worked_at r in_tick
          work_here = work_is in_tick ∙ ap (λ (m : ℕ). worked_at m in_tick) highest_here

          done_here : finishes 0 t in_tick ≡ finishing r t (first ∷ rest)
          done_here =
              finishes_is 0 t in_tick
              ∙ ap (λ (m : ℕ). finishing m t (queue_at in_tick (highest in_tick))) (zero-add (highest in_tick))
              ∙ ap (λ (m : ℕ). finishing m t (queue_at in_tick m)) highest_here
              ∙ ap (finishing r t) queue_here

          abbrev Now : Pending → ℕ → Type 0
          Now job j = Rank (suc t) j (queue_at (worked_at r in_tick) j) (job_at (set pending r job) j)

          -- the other ranks keep their jobs
          shown_with : (job : Pending) → Rank (suc t) r (worked (first ∷ rest)) job
              → Shown order offset lengths (suc t) (after_work in_tick) (set pending r job)
          shown_with job z = rw work_here record {
            ranks = length_worked r in_tick ∙ in_tick_long;
            each = λ j l. elim (test_of (eqb r j)) [
              | inl e ↦ subst (λ j. Now job j) (eqb-true r j e) own
              | inr e ↦ rw (
                worked_other r j in_tick e,
                get_or-set_other pending r j job no_job (λ h. eqb-false r j e (sym h)),
              ) (rank_in j l)
            ];
          }
            where
              own : Now job r
              own =
                  rw (worked_same r in_tick ∙ ap worked queue_here, get_or-set_same pending r job no_job whose.within) z

          -- its job goes on
          module _ (more : 1 < job_now.left) where
            not_yet : leb job_now.left 1 ≡ false
            not_yet = lt-leb job_now.left 1 more

            abbrev less : Pending
            less = record { start = job_now.start; left = job_now.left - 1; slot = job_now.slot }

            one_less : Rank (suc t) r (worked (first ∷ rest)) less
            one_less = rw not_yet record {
              oldest = y.oldest;
              pending = suc behind;
              so_far = ap (λ (c : ℕ). y.oldest + c) (sym pending_is) ∙ y.so_far;
              queue_is = refl;
              unbegun = λ z. absurd (omega arith);
              start_is = y.start_is;
              slot_is = y.slot_is;
            }

            pub works : Ticks (set pending r less) []
            works = (shown_with less one_less, done_here ∙ rw not_yet)

          abbrev one_done : ℕ → List Done
          one_done u = record { rank = r; release = u; finish = suc t } ∷ []

          abbrev k : ℕ
          k = suc y.oldest

          abbrev index : ℕ → ℕ
          index = index_of order offset r

          -- its job ends
          module _ (last : job_now.left ≤ 1) (slot : Option ℕ) (next : NextSlot x.owners.now job_now.slot r slot) where
            next_slot_is : slot ≡ slot_of (length lengths) (index k)
            next_slot_is =
                let many = s.as_many in
                rw many at (following_slot order offset some x.owners.now s.owned r here y.oldest job_now.slot slot
                (y.slot_is ∙ ap (λ (n : ℕ). slot_of n (index y.oldest)) (sym many)) next)

            module _ {left : ℕ} (left_is : left ≡ length_in lengths (rank_at x.ranks.now r).cost slot) where
              needs_next : left ≡ need r k
              needs_next =
                  left_is
                  ∙ ap (length_in lengths (rank_at x.ranks.now r).cost) next_slot_is
                  ∙ slot_length lengths (index k) (rank_at x.ranks.now r).cost
                  ∙ ap (get_or lengths (index k)) (s.cost_is r in_ranks)

              abbrev job_next : Pending
              job_next = record { start = job_now.start + (rank_at x.ranks.now r).period; left = left; slot = slot }

              next_job : Rank (suc t) r (worked (first ∷ rest)) job_next
              next_job = rw (le-leb job_now.left 1 last) record {
                oldest = k;
                pending = behind;
                so_far = omega (arith, y.so_far, pending_is);
                queue_is =
                    queue_fresh (at r) (need r) k behind ∙ ap (queue_of (at r) (need r) k behind) (sym needs_next);
                unbegun = λ z. needs_next;
                start_is = omega (arith, y.start_is, s.released.period_is r in_ranks);
                slot_is = next_slot_is;
              }

              pub ends : Ticks (set pending r job_next) (one_done job_now.start)
              ends = (shown_with job_next next_job, done_here ∙ rw (le-leb job_now.left 1 last) (ap one_done (sym y.start_is)))
