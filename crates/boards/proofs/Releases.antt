-- The jobs that a task has released before a tick, and the ticks that they need. Releases stand a period apart, so
-- their number is a ceiling; a window of w ticks brings at most w / p of them, rounded up, and after the first release
-- at least as many as whole periods fit it.
use mathlib.Core.Path.{◌≡◌, sym}
use mathlib.Core.Bool.{true, false}
use mathlib.Core.Logic.{inl, inr}
use Prim.Native.Nat.{ℕ, zero, suc, ◌+◌, ◌-◌, ◌*◌, ◌/◌, ◌%◌, ◌≤◌, ◌<◌, zero-le}
use native.Mathlib.Omega.{arith}
use native.Mathlib.Nat.{add-zero, add-suc, le_antisymm, lt_of_not-le}
use native.Mathlib.Nat.{div-add-mod', mul-mod_left, lt_of_mul-lt-mul_right}
use lib.Dec.{eqb, leb}
use borrow.Author.Tests.{eqb-true, eq-eqb, leb-true, le-leb}
use Rattle.basics.proofs.Tests.{le-or-lt, true_not_false, and_left, and_right, and_both}
use Rattle.rows.specs.Rows.{Row}
use Rattle.responses.specs.Interference.{ceiling}
use Rattle.responses.proofs.Sums.{ceiling_covers, ceiling_close, ceiling_under, ceiling_mono}
use Rattle.boards.specs.Boards.{releases}

-- ---- how many jobs
-- the jobs of a task with period p that are released before tick t
abbrev pub released : ℕ → ℕ → ℕ → ℕ
released p offset t = ceiling (t - offset) p

-- one period less than cover a stops short of it
pub ceiling_short : (a p : ℕ) → 1 ≤ p → 1 ≤ a → (ceiling a p - 1) * p < a
ceiling_short a p pos l = go (ceiling a p) (ceiling_close a p pos)
  where
    go : (c : ℕ) → c * p < a + p → (c - 1) * p < a
    go zero h = omega arith
    go (suc c) h = let e : suc c - 1 ≡ c = omega arith in rw e (omega arith)

module _ (p offset : ℕ) (pos : 1 ≤ p) where
  -- job k is released before t exactly if k is below their number at t
  pub released_before_lem : (k t : ℕ) → offset + k * p < t → k < released p offset t
  released_before_lem k t l = lt_of_mul-lt-mul_right p (omega (arith, ceiling_covers (t - offset) p pos))

  pub unreleased : (k t : ℕ) → t ≤ offset + k * p → released p offset t ≤ k
  unreleased k t l = ceiling_under k (t - offset) p pos (omega arith)

  pub released_grows : (s t : ℕ) → s ≤ t → released p offset s ≤ released p offset t
  released_grows s t l = ceiling_mono (s - offset) (t - offset) p (omega arith)

  -- job k's own release
  pub released_exactly : (k t : ℕ) → offset + k * p ≡ t
      → (released p offset t ≡ k) × (released p offset (suc t) ≡ suc k)
  released_exactly k t e =
      let covers = ceiling_covers (t - offset) p pos in
      let none_less : k < suc (released p offset t) = lt_of_mul-lt-mul_right p (omega arith) in (
        le_antisymm (unreleased k t (omega arith)) (omega arith),
        le_antisymm (unreleased (suc k) (suc t) (omega arith)) (released_before_lem k (suc t) (omega arith)),
      )

  -- in a window of w ticks: at most w / p rounded up, and at least m if m periods fit after the first release
  pub released_most : (s w : ℕ) → released p offset (s + w) ≤ released p offset s + ceiling w p
  released_most s w =
      let before = ceiling_covers (s - offset) p pos in
      let within = ceiling_covers w p pos in
      unreleased (released p offset s + ceiling w p) (s + w) (omega arith)

  pub released_least : (s w m : ℕ) → offset ≤ s → m * p ≤ w
      → released p offset s + m ≤ released p offset (s + w)
  released_least s w m started fits =
      let before = ceiling_close (s - offset) p pos in
      let after = ceiling_covers (s + w - offset) p pos in
      let h : released p offset s + m < suc (released p offset (s + w)) = lt_of_mul-lt-mul_right p (omega arith) in
      omega arith

-- ---- the ticks that the first k jobs need
abbrev pub needed : (ℕ → ℕ) → ℕ → ℕ
needed need zero = 0
needed need (suc k) = needed need k + need k

module _ (need : ℕ → ℕ) where
  pub needed_most : (w : ℕ) → ((k : ℕ) → need k ≤ w) → (a m : ℕ) → needed need (a + m) ≤ needed need a + m * w
  needed_most w h a zero = rw add-zero (omega arith)
  needed_most w h a (suc m) = rw add-suc (omega (arith, needed_most w h a m, h (a + m)))

  pub needed_least : (b : ℕ) → ((k : ℕ) → b ≤ need k) → (a m : ℕ) → needed need a + m * b ≤ needed need (a + m)
  needed_least b h a zero = rw add-zero (omega arith)
  needed_least b h a (suc m) = rw add-suc (omega (arith, needed_least b h a m, h (a + m)))

  pub needed_grows : (a c : ℕ) → a ≤ c → needed need a ≤ needed need c
  needed_grows a c l =
      let e : a + (c - a) ≡ c = omega arith in
      let h : needed need a ≤ needed need (a + (c - a)) = omega (arith, needed_least 0 (λ k. zero-le) a (c - a)) in
      rw e at h

  needed_under : (i k x : ℕ) → needed need i ≤ x → x < needed need (suc k) → i ≤ k
  needed_under i k x a b =
      elim (le-or-lt i k) [ inl h ↦ h | inr h ↦ omega (arith, needed_grows (suc k) i h) ]

  -- a number of ticks lies in one job
  pub needed_one : (i k x : ℕ) → needed need i ≤ x → x < needed need (suc i)
      → needed need k ≤ x → x < needed need (suc k) → i ≡ k
  needed_one i k x a b c d = le_antisymm (needed_under i k x a d) (needed_under k i x c b)

-- ---- the board's test for a release
module _ (r : Row) (offset t : ℕ) (pos : 1 ≤ r.period) where
  -- what is released at t is the job after those released before
  pub release_yes : releases r offset t ≡ true
      → let k = released r.period offset t in
      (offset + k * r.period ≡ t)
      × ((t - offset) / r.period ≡ k)
      × (released r.period offset (suc t) ≡ suc k)
  release_yes e =
      let p = r.period in
      let k = (t - offset) / p in
      let whole = eqb ((t - offset) % p) 0 in
      let started = leb-true offset t (and_left (leb offset t) whole e) in
      let exact = eqb-true ((t - offset) % p) 0 (and_right (leb offset t) whole e) in
      let same : offset + k * p ≡ t = omega (arith, div-add-mod' (t - offset) p) in
      let both = released_exactly p offset pos k t same in
      (rw both.0 same, sym both.0, rw both.0 both.1)

  pub release_no : releases r offset t ≡ false
      → released r.period offset (suc t) ≡ released r.period offset t
  release_no e =
      let k = released r.period offset t in
      le_antisymm (unreleased r.period offset pos k (suc t) (lt_of_not-le none_now))
      (released_grows r.period offset pos t (suc t) (omega arith))
    where
      none_now : ¬ (offset + released r.period offset t * r.period ≤ t)
      none_now l =
          let p = r.period in
          let k = released p offset t in
          let same : t - offset ≡ k * p = omega (arith, ceiling_covers (t - offset) p pos) in
          let exact : (t - offset) % p ≡ 0 = rw same (mul-mod_left k p) in
          true_not_false (releases r offset t)
          (and_both (leb offset t) (eqb ((t - offset) % p) 0) (le-leb offset t (omega arith)) (eq-eqb _ 0 exact)) e
