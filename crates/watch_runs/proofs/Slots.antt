-- The owner of an index is the rank of the job that has it. So a rank's slots are the indices of its jobs, as far as
-- the list goes: its first slot is that of its first job, and its next slot that of its next.
use mathlib.Core.Path.{◌≡◌, refl, sym, ap, ◌∙◌}
use mathlib.Core.List.{List}
use mathlib.Core.Logic.{inl, inr}
use Prim.Native.Nat.{ℕ, suc, ◌+◌, ◌≤◌, ◌<◌}
use native.Mathlib.Omega.{arith}
use native.Mathlib.Nat.{le_antisymm, not-suc-le-zero}
use lib.Dec.{ltb}
use lib.ListN.{length, get_or, get_or-eq_default}
use borrow.Author.Tests.{ltb-false, le-ltb, lt-ltb}
use Rattle.std.specs.Prelude.{Option, None, Some}
use Rattle.basics.proofs.Tests.{le-or-lt, test_of}
use Rattle.rows.specs.Rows.{row_at}
use Rattle.rows.specs.Rows.{Row}
use Rattle.watch_demands.specs.Jobs.{index_of, rank_with}
use Rattle.watch_demands.proofs.Jobs.{later_job, earlier_job, rank_is}
use Rattle.watch_demands.proofs.Merges.{indexed}
use Rattle.watch_runs.specs.inside.Owners.{Owned, FirstFrom, Sought, NextSlot}
use Rattle.watch_runs.specs.inside.States.{slot_of, length_in}

-- the length in a slot is that at the index: past the list both are the cost
pub slot_length : (lengths : List ℕ) (index cost : ℕ)
    → length_in lengths cost (slot_of (length lengths) index) ≡ get_or lengths index cost
slot_length lengths index cost = elim (test_of (ltb index (length lengths))) [
  | inl h ↦ rw h refl
  | inr h ↦ rw h (sym (get_or-eq_default lengths cost (ltb-false index (length lengths) h)))
]

module _
    (order : List Row) (offset : ℕ → ℕ) (periods : (j : ℕ) → j < length order → 1 ≤ (row_at order j).period)
    (owners : List ℕ) (owned : Owned order offset owners) (j : ℕ) (l : j < length order)
  where
    abbrev index : ℕ → ℕ
    index = index_of order offset j

    -- a slot of the rank is the index of one of its jobs
    job_of : (m : ℕ) → m < length owners → get_or owners m 0 ≡ j → (k : ℕ) × (index k ≡ m)
    job_of m h e =
        let o = (indexed order offset periods).none_left_out (omega (arith, l)) m in
        let mine : o.0 ≡ j =
        sym (rank_is order offset periods o.0 o.1 o.2)
        ∙ ap (rank_with order offset) o.3
        ∙ sym (owned m h)
        ∙ e in
        (o.1, ap (λ (i : ℕ). index_of order offset i o.1) (sym mine) ∙ o.3)

    -- the first slot from one on is the kth job's, where that comes no earlier and all jobs before it do
    module _
        (k from : ℕ) (before : (a : ℕ) → a < k → index a < from) (not-before : from ≤ index k)
      where
        its_owner : index k < length owners → get_or owners (index k) 0 ≡ j
        its_owner h = owned (index k) h ∙ rank_is order offset periods j k l

        none_sooner : (r : ℕ) → FirstFrom owners from j r → r < index k → ⊥
        none_sooner r s sooner =
            let o = job_of r s.within s.owner in
            let b = before o.0 (earlier_job order offset periods j o.0 k l (omega (arith, o.1))) in
            omega (arith, o.1, s.onward)

        sought_is : (r : Option ℕ) → Sought owners from j r → r ≡ slot_of (length owners) (index k)
        sought_is None s = elim (le-or-lt (length owners) (index k)) [
          | inl h ↦ rw (le-ltb (index k) (length owners) h) refl
          | inr h ↦ absurd (s (index k) not-before h (its_owner h))
        ]
        sought_is (Some r) s = elim (le-or-lt r (index k)) [
          | inl a ↦ elim (le-or-lt (index k) r) [
            | inl b ↦ (
                let e : index k ≡ r = le_antisymm b a in
                rw (e, lt-ltb r (length owners) s.within) refl)
            | inr b ↦ absurd (none_sooner r s b)
          ]
          | inr a ↦ absurd (s.between (index k) not-before a (its_owner (omega (arith, s.within))))
        ]

    pub first_slot : (r : Option ℕ) → Sought owners 0 j r → r ≡ slot_of (length owners) (index 0)
    first_slot r s = sought_is 0 0 (λ a b. absurd (not-suc-le-zero b)) (omega arith) r s

    pub following_slot : (k : ℕ) (slot r : Option ℕ) → slot ≡ slot_of (length owners) (index k)
        → NextSlot owners slot j r → r ≡ slot_of (length owners) (index (suc k))
    following_slot k slot r p n = elim (le-or-lt (length owners) (index k)) [
      | inl h ↦ (
          let e : slot ≡ None = p ∙ rw (le-ltb (index k) (length owners) h) refl in
          let z : length owners ≤ index (suc k) = omega (arith, grows) in
          rw (le-ltb (index (suc k)) (length owners) z) (rw e at n))
      | inr h ↦ (
          let e : slot ≡ Some (index k) = p ∙ rw (lt-ltb (index k) (length owners) h) refl in
          sought_is (suc k) (index k + 1) (λ a b. omega (arith, up_to a b)) (omega (arith, grows)) r (rw e at n))
    ]
      where
        grows : index k < index (suc k)
        grows = later_job order offset periods j k (suc k) l (omega arith)

        up_to : (a : ℕ) → a < suc k → index a ≤ index k
        up_to a b = elim (le-or-lt k a) [
          | inl h ↦ (let e : a ≡ k = omega arith in omega (arith, ap index e))
          | inr h ↦ omega (arith, later_job order offset periods j a k l h)
        ]
