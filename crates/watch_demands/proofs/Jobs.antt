-- The indices of a run's jobs count up by release and rank: each part of the sum grows, and the job's own by one. So no
-- two jobs share an index, a kth job has at least k before it, and the search for a job's rank finds it.
use mathlib.Core.Path.{◌≡◌, refl, sym, ap, ◌∙◌}
use mathlib.Core.Bool.{Bool, true, false}
use mathlib.Core.List.{List}
use mathlib.Core.Logic.{inl, inr}
use Prim.Native.Nat.{ℕ, zero, suc, ◌≤◌, ◌<◌}
use native.Mathlib.Omega.{arith}
use native.Mathlib.Nat.{le_antisymm, mul-le-mul_right, eq_of_mul-eq-mul_right, not-suc-le-zero}
use lib.Dec.{eqb, ltb}
use lib.ListN.{length}
use borrow.Author.Tests.{eqb-true, eq-eqb, lt-ltb, le-ltb, ltb-true}
use Rattle.basics.specs.Basics.{pick, sum_to}
use Rattle.basics.proofs.Tests.{test_of, false_of, le-or-lt}
use Rattle.rows.specs.Rows.{row_at}
use Rattle.rows.specs.Rows.{Row}
use Rattle.boards.proofs.Sums.{Above, sum_tight}
use Rattle.boards.proofs.Releases.{released, released_exactly, released_grows}
use Rattle.watch_demands.specs.Jobs.{first_of, release_of, ahead, index_of, has_index, rank_with, Earlier}

-- ---- the first number that passes a test
first-is : (n : ℕ) (test : ℕ → Bool) (i : ℕ) → i < n → test i ≡ true → ((j : ℕ) → j < i → test j ≡ false)
    → first_of n test ≡ i
first-is zero test i l e h = absurd (not-suc-le-zero l)
first-is (suc n) test zero l e h = rw e
first-is (suc n) test (suc i) l e h =
    rw (h 0 (omega arith))
    (ap suc (first-is n (λ j. test (suc j)) i (omega arith) e (λ j b. h (suc j) (omega arith))))

first_below : (n : ℕ) (test : ℕ → Bool) (i : ℕ) → i < n → test i ≡ true → first_of n test < n
first_below zero test i l e = absurd (not-suc-le-zero l)
first_below (suc n) test zero l e = rw e (omega arith)
first_below (suc n) test (suc i) l e = elim (test_of (test 0)) [
  | inl p ↦ rw p (omega arith)
  | inr p ↦ rw p (omega (arith, first_below n (λ j. test (suc j)) i (omega arith) e))
]

first_passes : (n : ℕ) (test : ℕ → Bool) (i : ℕ) → first_of n test ≡ i → i < n → test i ≡ true
first_passes zero test i e l = absurd (not-suc-le-zero l)
first_passes (suc n) test i e l = elim (test_of (test 0)) [
  | inl p ↦ ap test (sym (rw p at e)) ∙ p
  | inr p ↦ (
      let is : suc (first_of n (λ j. test (suc j))) ≡ i = rw p at e in
      ap test (sym is) ∙ first_passes n (λ j. test (suc j)) (first_of n (λ j. test (suc j))) refl (omega arith))
]

-- ---- the part of each rank in an index
sum_less : (n i : ℕ) (f g : ℕ → ℕ) → i < n → Above n (λ j. f j ≤ g j) → f i < g i → sum_to n f < sum_to n g
sum_less n i f g l h s = elim (le-or-lt (sum_to n g) (sum_to n f)) [
  | inl e ↦ omega (arith, sum_tight n f g h e i l)
  | inr e ↦ e
]

-- the tick before which a job of rank j comes ahead of rank i's release at r
abbrev pub until : ℕ → ℕ → ℕ → ℕ
until i r j = pick (ltb j i) (suc r) r

pub until_above : (i r j : ℕ) → j < i → until i r j ≡ suc r
until_above i r j l = rw (lt-ltb j i l)

pub until_below : (i r j : ℕ) → i ≤ j → until i r j ≡ r
until_below i r j l = rw (le-ltb j i l)

until_least : (i r j : ℕ) → r ≤ until i r j
until_least i r j = elim (le-or-lt i j) [
  | inl l ↦ omega (arith, until_below i r j l)
  | inr l ↦ omega (arith, until_above i r j l)
]

until_most : (i r j : ℕ) → until i r j ≤ suc r
until_most i r j = elim (le-or-lt i j) [
  | inl l ↦ omega (arith, until_below i r j l)
  | inr l ↦ omega (arith, until_above i r j l)
]

module _ (order : List Row) (offset : ℕ → ℕ) (periods : (j : ℕ) → j < length order → 1 ≤ (row_at order j).period) where
  abbrev at : ℕ → ℕ → ℕ
  at = release_of order offset

  until_grows : (i k j m x : ℕ) → Earlier order offset i k j m → until i (at i k) x ≤ until j (at j m) x
  until_grows i k j m x (inl l) = omega (arith, until_most i (at i k) x, until_least j (at j m) x)
  until_grows i k j m x (inr l) = elim (le-or-lt i x) [
    | inl b ↦ omega (arith, until_below i (at i k) x b, until_least j (at j m) x, l.0)
    | inr b ↦ omega (arith, until_above i (at i k) x b, until_above j (at j m) x (omega (arith, l.1)), l.0)
  ]

  -- its own rank's part takes the job in
  pub until_own : (i k j m : ℕ) → Earlier order offset i k j m → suc (at i k) ≤ until j (at j m) i
  until_own i k j m (inl l) = omega (arith, until_least j (at j m) i)
  until_own i k j m (inr l) = omega (arith, until_above j (at j m) i l.1, l.0)

  -- ---- indices count up
  pub counts_up : (i k j m : ℕ) → i < length order → Earlier order offset i k j m
      → index_of order offset i k < index_of order offset j m
  unfolding index_of
  counts_up i k j m l e =
      let p = (row_at order i).period in
      let own = released_exactly p (offset i) (periods i l) k (at i k) refl in
      let taken = released_grows p (offset i) (periods i l) (suc (at i k)) (until j (at j m) i) (until_own i k j m e) in
      let before : ahead order offset i (at i k) i ≡ k =
      ap (released p (offset i)) (until_below i (at i k) i (omega arith)) ∙ own.0 in
      sum_less (length order) i (ahead order offset i (at i k)) (ahead order offset j (at j m)) l
      (λ x b. released_grows (row_at order x).period (offset x) (periods x b) (until i (at i k) x)
      (until j (at j m) x) (until_grows i k j m x e))
      (omega (arith, before, own.1, taken))

  pub later_job : (i k m : ℕ) → i < length order → k < m → index_of order offset i k < index_of order offset i m
  later_job i k m l b =
      counts_up i k i m l (inl (omega (arith, periods i l, mul-le-mul_right (row_at order i).period b)))

  pub one_each : (i k j m : ℕ) → i < length order → j < length order
      → index_of order offset i k ≡ index_of order offset j m → (i ≡ j) × (k ≡ m)
  one_each i k j m li lj e = elim (le-or-lt (at i k) (at j m)) [
    | inl a ↦ elim (le-or-lt (at j m) (at i k)) [
      | inl b ↦ elim (le-or-lt i j) [
        | inl c ↦ elim (le-or-lt j i) [
          | inl d ↦ (let s : i ≡ j = le_antisymm c d in (s, same s (omega arith)))
          | inr d ↦ absurd (omega (arith, counts_up i k j m li (inr (omega arith, d))))
        ]
        | inr c ↦ absurd (omega (arith, counts_up j m i k lj (inr (omega arith, c))))
      ]
      | inr b ↦ absurd (omega (arith, counts_up i k j m li (inl b)))
    ]
    | inr a ↦ absurd (omega (arith, counts_up j m i k lj (inl a)))
  ]
    where
      same : i ≡ j → at i k ≡ at j m → k ≡ m
      same s r =
          let t : at i k ≡ at i m = r ∙ ap (λ (x : ℕ). at x m) (sym s) in
          eq_of_mul-eq-mul_right (row_at order i).period (periods i li) k m (omega arith)

  -- of one rank's jobs, the one with the lower index is the earlier
  pub earlier_job : (i a b : ℕ) → i < length order → index_of order offset i a < index_of order offset i b → a < b
  earlier_job i a b l h = elim (le-or-lt b a) [
    | inl g ↦ elim (le-or-lt a b) [
      | inl f ↦ absurd (omega (arith, ap (index_of order offset i) (le_antisymm f g)))
      | inr f ↦ absurd (omega (arith, later_job i b a l f))
    ]
    | inr g ↦ g
  ]

  -- ---- the rank with a job's index
  index_least : (i k : ℕ) → i < length order → k ≤ index_of order offset i k
  index_least i zero l = omega arith
  index_least i (suc k) l = omega (arith, index_least i k l, later_job i k (suc k) l (omega arith))

  has_own : (i k : ℕ) → i < length order → has_index order offset (index_of order offset i k) i ≡ true
  has_own i k l =
      let m = index_of order offset i k in
      let within : k < suc m = omega (arith, index_least i k l) in
      lt-ltb (first_of (suc m) (λ x. eqb (index_of order offset i x) m)) (suc m)
      (first_below (suc m) (λ x. eqb (index_of order offset i x) m) k within (eq-eqb m m refl))

  has_no_other : (i k j : ℕ) → i < length order → j < length order
      → has_index order offset (index_of order offset i k) j ≡ true → j ≡ i
  has_no_other i k j li lj e =
      let m = index_of order offset i k in
      let x = first_of (suc m) (λ x. eqb (index_of order offset j x) m) in
      let found = first_passes (suc m) (λ x. eqb (index_of order offset j x) m) x refl (ltb-true x (suc m) e) in
      (one_each j x i k lj li (eqb-true (index_of order offset j x) m found)).0

  pub rank_is : (i k : ℕ) → i < length order → rank_with order offset (index_of order offset i k) ≡ i
  unfolding rank_with
  rank_is i k l =
      let m = index_of order offset i k in
      first-is (length order) (has_index order offset m) i l (has_own i k l)
      (λ j b. false_of (has_index order offset m j) (λ e. omega (arith, has_no_other i k j l (omega arith) e)))
