-- The first m jobs of a run as a number of jobs of each rank: all of them come before every other. The next is the rank
-- whose next release is the earliest; so each index has its job.
use mathlib.Core.Path.{◌≡◌, refl, sym, ap, ◌∙◌}
use mathlib.Core.List.{List}
use mathlib.Core.Logic.{inl, inr}
use Prim.Native.Nat.{ℕ, zero, suc, ◌+◌, ◌-◌, ◌≤◌, ◌<◌}
use native.Mathlib.Omega.{arith}
use native.Mathlib.Nat.{le_antisymm, le_of_eq, not-suc-le-zero}
use native.Mathlib.Numerals.{add-one}
use lib.Dec.{eqb}
use lib.ListN.{length}
use borrow.Author.Tests.{eqb-true, eqb-false, eq-eqb, ne_eqb}
use Rattle.basics.specs.Basics.{pick, sum_to}
use Rattle.basics.proofs.Tests.{test_of, le-or-lt}
use Rattle.rows.specs.Rows.{row_at}
use Rattle.rows.specs.Rows.{Row}
use Rattle.boards.proofs.Sums.{Above, sum-zero, sum-le}
use Rattle.boards.proofs.Releases.{released_before_lem, unreleased}
use Rattle.watch_demands.specs.inside.Least.{LeastIs}
use Rattle.watch_demands.specs.Jobs.{release_of, ahead, index_of, Earlier, Indexed}
use Rattle.watch_demands.proofs.Jobs.{until, until_above, until_below, until_own}
use Rattle.watch_demands.proofs.Jobs.{counts_up, one_each, rank_is}

-- ---- sums
sum_same : (n : ℕ) (f g : ℕ → ℕ) → Above n (λ j. f j ≡ g j) → sum_to n f ≡ sum_to n g
sum_same n f g h =
    le_antisymm (sum-le n f g (λ j l. le_of_eq (h j l))) (sum-le n g f (λ j l. le_of_eq (sym (h j l))))

sum_bump : (n i : ℕ) (f g : ℕ → ℕ) → i < n → g i ≡ suc (f i) → ((j : ℕ) → j < n → (j ≡ i → ⊥) → g j ≡ f j)
    → sum_to n g ≡ suc (sum_to n f)
sum_bump zero i f g l e h = absurd (not-suc-le-zero l)
sum_bump (suc n) zero f g l e h =
    omega (arith, e, sum_same n (λ j. g (suc j)) (λ j. f (suc j)) (λ j b. h (suc j) (omega arith) (λ z. omega arith)))
sum_bump (suc n) (suc i) f g l e h =
    omega (
      arith,
      h 0 (omega arith) (λ z. omega arith),
      sum_bump n i (λ j. f (suc j)) (λ j. g (suc j)) (omega arith) e
          (λ j b z. h (suc j) (omega arith) (λ y. z (omega arith))),
    )

-- ---- the first of the least of n numbers
pub least-one : (f : ℕ → ℕ) → LeastIs 1 f 0
least-one f = record {
  within = omega arith;
  least = λ j l. (let e : j ≡ 0 = omega arith in rw e (omega arith));
  first = λ j l. absurd (not-suc-le-zero l);
}

pub least_same : {n r : ℕ} {f : ℕ → ℕ} → LeastIs n f r → f r ≤ f n → LeastIs (n + 1) f r
least_same {n} {r} {f} x h = record {
  within = omega (arith, x.within);
  least = λ j l. elim (le-or-lt n j) [
    | inl b ↦ (let e : j ≡ n = omega arith in rw e h)
    | inr b ↦ x.least j b
  ];
  first = x.first;
}

pub least_new : {n r : ℕ} {f : ℕ → ℕ} → LeastIs n f r → f n < f r → LeastIs (n + 1) f n
least_new {n} {r} {f} x h = record {
  within = omega arith;
  least = λ j l. elim (le-or-lt n j) [
    | inl b ↦ (let e : j ≡ n = omega arith in rw e (omega arith))
    | inr b ↦ omega (arith, h, x.least j b)
  ];
  first = λ j l. omega (arith, h, x.least j l);
}

least_of : (n : ℕ) (f : ℕ → ℕ) → (r : ℕ) × LeastIs (suc n) f r
least_of zero f = (0, least-one f)
least_of (suc n) f =
    let x = least_of n f in
    elim (le-or-lt (f x.0) (f (suc n))) [
      | inl h ↦ (x.0, rw add-one at (least_same x.1 h))
      | inr h ↦ (suc n, rw add-one at (least_new x.1 h))
    ]

-- ---- one job more of rank r
abbrev pub bump : ℕ → (ℕ → ℕ) → ℕ → ℕ
bump r count i = pick (eqb i r) (suc (count i)) (count i)

bump_own : (r : ℕ) (count : ℕ → ℕ) → bump r count r ≡ suc (count r)
bump_own r count = rw (eq-eqb r r refl)

bump_other : (r : ℕ) (count : ℕ → ℕ) (i : ℕ) → (i ≡ r → ⊥) → bump r count i ≡ count i
bump_other r count i h = rw (ne_eqb i r h)

-- ---- the first jobs
module _ (order : List Row) (offset : ℕ → ℕ) where
  -- `count i` jobs of each rank i are the first m
  pub record Merged (count : ℕ → ℕ) (m : ℕ) : Type 0 where
    pub total : sum_to (length order) count ≡ m
    pub sooner :
        (i k j : ℕ) → i < length order → j < length order → k < count i → Earlier order offset i k j (count j)

  pub merged_none : Merged (λ j. 0) 0
  merged_none = record { total = sum-zero (length order); sooner = λ i k j a b l. absurd (not-suc-le-zero l) }

module _ (order : List Row) (offset : ℕ → ℕ) (periods : (j : ℕ) → j < length order → 1 ≤ (row_at order j).period) where
  abbrev at : ℕ → ℕ → ℕ
  at = release_of order offset

  module _
      {count : ℕ → ℕ} {m : ℕ} (c : Merged order offset count m)
      (r : ℕ) (x : LeastIs (length order) (λ j. at j (count j)) r)
    where
      abbrev next : ℕ
      next = at r (count r)

      -- the earliest of the next releases has index m
      counted : (j : ℕ) → j < length order → ahead order offset r next j ≡ count j
      counted j l = le_antisymm
          (unreleased (row_at order j).period (offset j) (periods j l) (count j) (until r next j) within)
          (elim (le-or-lt (count j) (ahead order offset r next j)) [
            | inl h ↦ h
            | inr h ↦ (
                let k = ahead order offset r next j in
                let e = c.sooner j k r l x.within h in
                let before = released_before_lem (row_at order j).period (offset j) (periods j l) k (until r next j)
                (until_own order offset periods j k r (count r) e) in
                absurd (omega arith))
          ])
        where
          within : until r next j ≤ at j (count j)
          within = elim (le-or-lt r j) [
            | inl h ↦ omega (arith, until_below r next j h, x.least j l)
            | inr h ↦ omega (arith, until_above r next j h, x.first j h)
          ]

      pub merged_index : index_of order offset r (count r) ≡ m
      unfolding index_of
      merged_index = sum_same (length order) (ahead order offset r next) count counted ∙ c.total

      later : next < at r (suc (count r))
      later = omega (arith, periods r x.within)

      -- what came before the next releases still does
      still : (i k j : ℕ) → j < length order → Earlier order offset i k j (count j)
          → Earlier order offset i k j (bump r count j)
      still i k j l e = elim (test_of (eqb j r)) [
        | inl s ↦ rw s (inl (past (eqb-true j r s) e))
        | inr s ↦ rw s e
      ]
        where
          past : j ≡ r → Earlier order offset i k j (count j) → at i k < at j (suc (count j))
          past s (inl h) = omega (arith, h, periods j l)
          past s (inr h) = omega (arith, h.0, periods j l)

      this : (j : ℕ) → j < length order → Earlier order offset r (count r) j (bump r count j)
      this j l = elim (test_of (eqb j r)) [
        | inl s ↦ rw (s, eqb-true j r s) (inl later)
        | inr s ↦ rw s (elim (le-or-lt (at j (count j)) next) [
          | inl h ↦ elim (le-or-lt j r) [
            | inl b ↦ absurd (omega (arith, x.first j (less b (eqb-false j r s))))
            | inr b ↦ inr (le_antisymm (x.least j l) h, b)
          ]
          | inr h ↦ inl h
        ])
      ]
        where
          less : j ≤ r → (j ≡ r → ⊥) → j < r
          less a b = elim (le-or-lt r j) [ inl h ↦ absurd (b (le_antisymm a h)) | inr h ↦ h ]

      pub merged_next : Merged order offset (bump r count) (suc m)
      merged_next = record {
        total =
            sum_bump (length order) r count (bump r count) x.within (bump_own r count)
            (λ j l h. bump_other r count j h)
            ∙ ap suc c.total;
        sooner = λ i k j a b l. elim (le-or-lt (count i) k) [
          | inl h ↦ elim (test_of (eqb i r)) [
            | inl s ↦ (
                let last : k < suc (count i) = rw s at l in
                let e : i ≡ r = eqb-true i r s in
                let f : k ≡ count i = omega arith in
                rw (f, e) (this j b))
            | inr s ↦ absurd (omega (arith, rw s at l))
          ]
          | inr h ↦ still i k j b (c.sooner i k j a b h)
        ];
      }

  -- ---- every index has its job
  next_of : 1 ≤ length order → (count : ℕ → ℕ) → (r : ℕ) × LeastIs (length order) (λ j. at j (count j)) r
  next_of some count =
      let e : suc (length order - 1) ≡ length order = omega arith in
      rw e at (least_of (length order - 1) (λ j. at j (count j)))

  merged-at : 1 ≤ length order → (m : ℕ) → (count : ℕ → ℕ) × Merged order offset count m
  merged-at some zero = (λ j. 0, merged_none order offset)
  merged-at some (suc m) =
      let c = merged-at some m in
      let x = next_of some c.0 in
      (bump x.0 c.0, merged_next c.1 x.0 x.1)

  none_left_out : 1 ≤ length order → (m : ℕ)
      → (i : ℕ) × (k : ℕ) × (i < length order) × (index_of order offset i k ≡ m)
  none_left_out some m =
      let c = merged-at some m in
      let x = next_of some c.0 in
      (x.0, c.0 x.0, x.1.within, merged_index c.1 x.0 x.1)

  pub indexed : Indexed order offset
  indexed = record {
    counts_up = λ i k j m li lj. counts_up order offset periods i k j m li;
    one_each = one_each order offset periods;
    none_left_out = none_left_out;
    rank_is = rank_is order offset periods;
  }
