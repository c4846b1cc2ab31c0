-- A board's queues, rank by rank: a tick adds at most one job to each queue, and works on one. What it finishes is the
-- oldest job of that queue, in the job's last tick.
use mathlib.Core.Path.{◌≡◌, refl, sym, ap, subst, ◌∙◌}
use mathlib.Core.Bool.{Bool, true, false, ◌||◌, ◌&&◌, or_assoc, or-false}
use mathlib.Core.List.{List, [], ◌∷◌, ◌++◌}
use mathlib.Core.Logic.{inl, inr}
use Prim.Native.Nat.{ℕ, zero, suc, ◌+◌, ◌-◌, ◌/◌, ◌≤◌, ◌<◌}
use native.Mathlib.Omega.{arith}
use native.Mathlib.Nat.{add-zero, le_of_suc-le-suc, not-suc-le-zero, suc_inj}
use lib.Dec.{eqb, eqb-suc-suc}
use lib.ListN.{length}
use borrow.Author.Tests.{eqb-true, eq-eqb, leb-true, le-leb}
use Rattle.basics.specs.Basics.{pick}
use Rattle.basics.proofs.Tests.{test_of, true_not_false, and_left, and_right}
use Rattle.rows.specs.Rows.{row_at}
use Rattle.rows.specs.Rows.{Row}
use Rattle.boards.specs.Boards.{Job, Done, no_jobs, releases, with_releases, is_done}
use Rattle.boards.specs.Boards.{highest, queue_at, ends, worked, worked_at, finishing}

-- a queue with a job
abbrev pub HasJob : List Job → Type 0
HasJob q = (x : Job) × (others : List Job) × (q ≡ x ∷ others)

-- a queue with what its task releases at t
abbrev pub new_job : (ℕ → ℕ) → Row → ℕ → ℕ → Job
new_job need r offset t = record { release = t; needs = need ((t - offset) / r.period) }

abbrev pub with_release : (ℕ → ℕ) → Row → ℕ → ℕ → List Job → List Job
with_release need r offset t q = pick (releases r offset t) (q ++ (new_job need r offset t ∷ [])) q

-- a queue with a job is a rank's
pub queue_there : (qs : List (List Job)) (j : ℕ) → HasJob (queue_at qs j) → j < length qs
queue_there [] j h = absurd (let z : ◌≡◌ {A = ℕ} 0 1 = cc h.2 in omega arith)
queue_there (q ∷ qs) zero h = omega arith
queue_there (q ∷ qs) (suc j) h = omega (arith, queue_there qs j h)

-- a queue has one still where its oldest goes on, and where a task releases
pub goes_on : (q : List Job) → ends q ≡ false → HasJob q
goes_on [] e = absurd (true_not_false true refl e)
goes_on (x ∷ q) e = (x, q, refl)

pub worked_has : (q : List Job) → ends q ≡ false → HasJob (worked q)
worked_has [] e = absurd (true_not_false true refl e)
worked_has (x ∷ q) e = rw e (record { release = x.release; needs = x.needs - 1 }, q, refl)

pub released_has : (need : ℕ → ℕ) (r : Row) (offset t : ℕ) (q : List Job) → HasJob q
    → HasJob (with_release need r offset t q)
released_has need r offset t q o = elim (test_of (releases r offset t)) [
  | inl e ↦ rw (e, o.2) (o.0, o.1 ++ (new_job need r offset t ∷ []), refl)
  | inr e ↦ rw e o
]

-- ---- no jobs
pub length_none : (order : List Row) → length (no_jobs order) ≡ length order
length_none [] = refl
length_none (r ∷ rs) = ap suc (length_none rs)

pub none_at : (order : List Row) (j : ℕ) → queue_at (no_jobs order) j ≡ []
none_at [] j = refl
none_at (r ∷ rs) zero = refl
none_at (r ∷ rs) (suc j) = none_at rs j

-- ---- releases
module _ (offset : ℕ → ℕ) (need : ℕ → ℕ → ℕ) where
  pub length_released : (i t : ℕ) (order : List Row) (qs : List (List Job)) → length qs ≡ length order
      → length (with_releases i t order offset need qs) ≡ length order
  length_released i t [] qs e = e
  length_released i t (r ∷ rs) [] e = e
  length_released i t (r ∷ rs) (q ∷ qs) e = ap suc (length_released (suc i) t rs qs (suc_inj e))

  pub released_at : (i t : ℕ) (order : List Row) (qs : List (List Job)) (j : ℕ) → length qs ≡ length order
      → j < length order
      → queue_at (with_releases i t order offset need qs) j
      ≡ with_release (need (i + j)) (row_at order j) (offset (i + j)) t (queue_at qs j)
  released_at i t [] qs j e l = absurd (not-suc-le-zero l)
  released_at i t (r ∷ rs) [] j e l = absurd (omega arith)
  released_at i t (r ∷ rs) (q ∷ qs) zero e l = rw add-zero
  released_at i t (r ∷ rs) (q ∷ qs) (suc j) e l =
      let s : i + suc j ≡ suc i + j = omega arith in
      rw s (released_at (suc i) t rs qs j (suc_inj e) (le_of_suc-le-suc l))

-- ---- the highest rank with a job
pub highest_after : (qs : List (List Job)) (j : ℕ) → j < highest qs → queue_at qs j ≡ []
highest_after [] j l = refl
highest_after ([] ∷ qs) zero l = refl
highest_after ([] ∷ qs) (suc j) l = highest_after qs j (le_of_suc-le-suc l)
highest_after ((x ∷ q) ∷ qs) j l = absurd (not-suc-le-zero l)

pub highest_at : (qs : List (List Job)) (j : ℕ) → highest qs ≡ j → j < length qs → HasJob (queue_at qs j)
highest_at [] j e l = absurd (not-suc-le-zero l)
highest_at ([] ∷ qs) zero e l = absurd (omega arith)
highest_at ([] ∷ qs) (suc j) e l = highest_at qs j (suc_inj e) (le_of_suc-le-suc l)
highest_at ((x ∷ q) ∷ qs) zero e l = (x, q, refl)
highest_at ((x ∷ q) ∷ qs) (suc j) e l = absurd (omega arith)

-- ---- a tick of rank m: work on its queue, and on no other
pub worked_same : (m : ℕ) (qs : List (List Job)) → queue_at (worked_at m qs) m ≡ worked (queue_at qs m)
worked_same m [] = refl
worked_same zero (q ∷ qs) = refl
worked_same (suc m) (q ∷ qs) = worked_same m qs

pub worked_other : (m j : ℕ) (qs : List (List Job)) → eqb m j ≡ false → queue_at (worked_at m qs) j ≡ queue_at qs j
worked_other m j [] e = refl
worked_other zero zero (q ∷ qs) e = absurd (true_not_false true refl e)
worked_other zero (suc j) (q ∷ qs) e = refl
worked_other (suc m) zero (q ∷ qs) e = refl
worked_other (suc m) (suc j) (q ∷ qs) e = worked_other m j qs (rw eqb-suc-suc at e)

pub length_worked : (m : ℕ) (qs : List (List Job)) → length (worked_at m qs) ≡ length qs
length_worked m [] = refl
length_worked zero (q ∷ qs) = refl
length_worked (suc m) (q ∷ qs) = ap suc (length_worked m qs)

-- ---- finishes
pub done_append : (i r f : ℕ) (xs ys : List Done) → is_done i r f (xs ++ ys) ≡ (is_done i r f xs || is_done i r f ys)
done_append i r f [] ys = refl
done_append i r f (x ∷ xs) ys =
    let here = eqb i x.rank && (eqb r x.release && eqb f x.finish) in
    rw (done_append i r f xs ys, or_assoc here (is_done i r f xs) (is_done i r f ys))

-- what a tick of rank m's queue finishes: its oldest job, in its last tick
pub record Ends (i r f m t : ℕ) (q : List Job) : Type 0 where
  pub job : Job
  pub others : List Job
  pub is : q ≡ job ∷ others
  pub rank_is : i ≡ m
  pub release_is : r ≡ job.release
  pub finish_is : f ≡ suc t
  pub last : job.needs ≤ 1

one_done : (i r f : ℕ) (b : Bool) (d : Done) → is_done i r f (pick b (d ∷ []) []) ≡ true
    → (b ≡ true) × (i ≡ d.rank) × (r ≡ d.release) × (f ≡ d.finish)
one_done i r f true d e =
    let at_once = eqb r d.release && eqb f d.finish in
    let all : (eqb i d.rank && at_once) ≡ true = sym (or-false (eqb i d.rank && at_once)) ∙ e in
    let after : at_once ≡ true = and_right (eqb i d.rank) at_once all in (
      refl,
      eqb-true i d.rank (and_left (eqb i d.rank) at_once all),
      eqb-true r d.release (and_left (eqb r d.release) (eqb f d.finish) after),
      eqb-true f d.finish (and_right (eqb r d.release) (eqb f d.finish) after),
    )
one_done i r f false d e = absurd (true_not_false false e refl)

done_ends : (i r f m t : ℕ) (q : List Job) → is_done i r f (finishing m t q) ≡ true → Ends i r f m t q
done_ends i r f m t [] e = absurd (true_not_false false e refl)
done_ends i r f m t (x ∷ q) e =
    let d = one_done i r f (ends (x ∷ q)) (record { rank = m; release = x.release; finish = suc t }) e in
    record {
      job = x;
      others = q;
      is = refl;
      rank_is = d.1;
      release_is = d.2;
      finish_is = d.3;
      last = leb-true x.needs 1 d.0;
    }

-- of a board's queues, in a tick of rank m
pub ends_tick : (qs : List (List Job)) (m i r f t : ℕ) → is_done i r f (finishing m t (queue_at qs m)) ≡ true
    → Ends i r f i t (queue_at qs i) × (m ≡ i)
ends_tick qs m i r f t d =
    let n = done_ends i r f m t (queue_at qs m) d in
    (subst (λ m. Ends i r f m t (queue_at qs m)) (sym n.rank_is) n, sym n.rank_is)

pub tick_ends : (qs : List (List Job)) (m i t : ℕ) (x : Job) (q : List Job) → m ≡ i → queue_at qs i ≡ x ∷ q
    → x.needs ≤ 1 → is_done i x.release (suc t) (finishing m t (queue_at qs m)) ≡ true
tick_ends qs m i t x q e is l =
    let same : (n : ℕ) → eqb n n ≡ true = λ n. eq-eqb n n refl in
    rw (e, is, le-leb x.needs 1 l, same i, same x.release, same (suc t))
