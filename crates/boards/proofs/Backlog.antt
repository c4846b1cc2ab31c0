-- A queue is its task's backlog: after a jobs released and x ticks had, it holds the jobs of those a that x ticks
-- don't complete, the oldest with what is left of it. A release and a tick of work keep that.
use mathlib.Core.Path.{◌≡◌, refl, ap, ◌∙◌}
use mathlib.Core.List.{List, [], ◌∷◌, ◌++◌}
use mathlib.Core.Logic.{inl, inr}
use Prim.Native.Nat.{ℕ, suc, ◌+◌, ◌≤◌, ◌<◌}
use native.Mathlib.Omega.{arith}
use lib.Dec.{leb}
use borrow.Author.Tests.{leb-true, leb-false}
use Rattle.basics.proofs.Tests.{test_of}
use Rattle.boards.specs.Boards.{Job, worked}
use Rattle.boards.proofs.Releases.{needed, needed_grows}

-- job k is released at `at k` and needs `need k` ticks
module _ (at need : ℕ → ℕ) where
  -- the jobs from the kth up to the ath, untouched
  abbrev pub Waiting : ℕ → ℕ → List Job → Type 0
  Waiting k a [] = k ≡ a
  Waiting k a (x ∷ q) = (x.release ≡ at k) × (x.needs ≡ need k) × Waiting (suc k) a q

  -- the oldest pending job, of the first a, after x ticks for the task's jobs
  pub record Oldest (a x : ℕ) (j : Job) (q : List Job) : Type 0 where
    pub index : ℕ
    pub released : j.release ≡ at index
    pub begun : needed need index ≤ x
    pub left : x + j.needs ≡ needed need (suc index)
    pub unfinished : 1 ≤ j.needs
    pub waiting : Waiting (suc index) a q

  abbrev pub Backlog : ℕ → ℕ → List Job → Type 0
  Backlog a x [] = x ≡ needed need a
  Backlog a x (j ∷ q) = Oldest a x j q

  -- ---- a release
  waiting_release : (k a : ℕ) (q : List Job) (j : Job) → j.release ≡ at a → j.needs ≡ need a
      → Waiting k a q → Waiting k (suc a) (q ++ (j ∷ []))
  waiting_release k a [] j r n w = let e : k ≡ a = w in rw e (r, n, refl)
  waiting_release k a (x ∷ q) j r n w = (w.0, w.1, waiting_release (suc k) a q j r n w.2)

  waiting_under : (k a : ℕ) (q : List Job) → Waiting k a q → k ≤ a
  waiting_under k a [] w = omega arith
  waiting_under k a (x ∷ q) w = omega (arith, waiting_under (suc k) a q w.2)

  module _ (some : (k : ℕ) → 1 ≤ need k) where
    pub backlog_release : (a x : ℕ) (q : List Job) (j : Job) → j.release ≡ at a → j.needs ≡ need a
        → Backlog a x q → Backlog (suc a) x (q ++ (j ∷ []))
    backlog_release a x [] j r n b = record {
      index = a;
      released = r;
      begun = omega arith;
      left = omega arith;
      unfinished = omega (arith, some a);
      waiting = refl;
    }
    backlog_release a x (y ∷ q) j r n b = record {
      index = b.index;
      released = b.released;
      begun = b.begun;
      left = b.left;
      unfinished = b.unfinished;
      waiting = waiting_release (suc b.index) a q j r n b.waiting;
    }

    -- with a job pending, not all of the work is done
    pub backlog_under : (a x : ℕ) (j : Job) (q : List Job) → Oldest a x j q → x < needed need a
    backlog_under a x j q b =
        let next = waiting_under (suc b.index) a q b.waiting in
        omega (arith, b.left, b.unfinished, needed_grows need (suc b.index) a next)

    -- ---- a tick of work
    next_oldest : (k a x : ℕ) (q : List Job) → x ≡ needed need k → Waiting k a q → Backlog a x q
    next_oldest k a x [] e w = e ∙ ap (needed need) w
    next_oldest k a x (y ∷ q) e w = record {
      index = k;
      released = w.0;
      begun = omega arith;
      left = omega (arith, w.1);
      unfinished = omega (arith, w.1, some k);
      waiting = w.2;
    }

    pub backlog_worked : (a x : ℕ) (j : Job) (q : List Job) → Oldest a x j q → Backlog a (x + 1) (worked (j ∷ q))
    backlog_worked a x j q b = elim (test_of (leb j.needs 1)) [
      | inl e ↦ (let last = leb-true j.needs 1 e in
          rw e (next_oldest (suc b.index) a (x + 1) q (omega (arith, b.left, b.unfinished)) b.waiting))
      | inr e ↦ (let more = leb-false j.needs 1 e in
          rw e (record {
            index = b.index;
            released = b.released;
            begun = omega (arith, b.begun);
            left = omega (arith, b.left);
            unfinished = omega arith;
            waiting = b.waiting;
          }))
    ]
