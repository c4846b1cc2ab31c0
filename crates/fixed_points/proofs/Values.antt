-- Why the search of W begins with one job of each task: a window of a tick or more meets a job of each, so no solution
-- is less; and one tick further a solution can be missed.
use mathlib.Core.Path.{◌≡◌, refl, sym, ap, ◌∙◌}
use mathlib.Core.Logic.{inl, inr}
use mathlib.Core.List.{List, [], ◌∷◌}
use Prim.Native.Nat.{ℕ, zero, suc, ◌+◌, ◌-◌, ◌≤◌, ◌<◌}
use native.Mathlib.Numerals.{add-one}
use native.Mathlib.Omega.{arith}
use borrow.Author.Tests.{le-leb, lt-leb}
use Rattle.basics.specs.Basics.{pick}
use Rattle.responses.specs.Extremes.{smallest}
use Rattle.responses.specs.declared.Load.{Load}
use Rattle.responses.specs.Interference.{ceiling, load, interference, least_fixed}
use Rattle.basics.proofs.Tests.{le-or-lt}
use Rattle.responses.proofs.Sums.{Periods, ceiling_one, interference_mono}
use Rattle.responses.proofs.FixedPoints.{demand_mono, least_is, least_none}
use Rattle.std.specs.Prelude.{Option, Some, None}
use Rattle.fixed_points.specs.inside.Values.{one_job_each, first_value, next_value, value_from, value_at}
use Rattle.fixed_points.specs.inside.Values.{Searching, found}

-- ---- the first value
-- a window of a tick meets one job of each task
pub one_tick : (ls : List Load) → Periods ls → interference 0 1 ls ≡ one_job_each ls
one_tick [] ps = refl
one_tick (l ∷ ls) ps =
    let one : ceiling 1 l.period - 0 ≡ 1 = omega (arith, ceiling_one 1 l.period (omega arith) ps.0) in
    rw one (omega (arith, one_tick ls ps.1))

-- a longer one no less
one_job_met : (w : ℕ) (ls : List Load) → Periods ls → 1 ≤ w → one_job_each ls ≤ interference 0 w ls
one_job_met w ls ps h = omega (arith, one_tick ls ps, interference_mono 0 1 w ls h)

-- so every solution from 1 on is at or above the first value, and none is missed
pub first_least : (base w : ℕ) (ls : List Load) → Periods ls → 1 ≤ w → w ≡ base + interference 0 w ls
    → first_value base ls ≤ w
first_least base w ls ps h e = omega (arith, e, one_job_met w ls ps h)

-- one above it, a solution can be missed: a task of one tick below one that takes a tick of every two finishes after 2
-- ticks at the latest, which is the first value; but 3 solves its equation too, and the search would end there
pub one_above_misses : let ls = load 2 1 ∷ [] in
    (first_value 1 ls ≡ 2) × (least_fixed 1 10 ls ≡ 2) × (next_value 1 10 ls 3 ≡ 3)
unfolding smallest
one_above_misses = (refl, refl, refl)

-- ---- the value after w
pub next_within : (base limit w : ℕ) (ls : List Load) → w ≤ limit
    → next_value base limit ls w ≡ base + interference 0 w ls
next_within base limit w ls h = ap (λ b. pick b (base + interference 0 w ls) w) (le-leb w limit h)

pub next_past : (base limit w : ℕ) (ls : List Load) → limit < w → next_value base limit ls w ≡ w
next_past base limit w ls h = ap (λ b. pick b (base + interference 0 w ls) w) (lt-leb w limit h)

-- the request's case: the values for task 13 below tasks 11 and 12 are 27 and 35, which is followed by itself
pub task_13 : let value = value_at 19 200 (load 24 6 ∷ load 18 2 ∷ []) in
    (value 0 ≡ 27) × (value 1 ≡ 35) × (value 2 ≡ 35)
task_13 = (refl, refl, refl)

-- ---- where the search stands
module _ (base limit : ℕ) (ls : List Load) where
  pub begins : 1 ≤ base → Periods ls → Searching base limit ls (first_value base ls)
  begins h ps = record {
    some = omega arith;
    rises = omega (arith, one_job_met (first_value base ls) ls ps (omega arith));
    none_below = λ v k e l. first_least base v ls ps k e;
  }

  steps_on : (w : ℕ) → Searching base limit ls w → Searching base limit ls (next_value base limit ls w)
  steps_on w s = elim (le-or-lt w limit) [
    | inl l ↦ (
        let up = demand_mono 0 base ls in
        rw (next_within base limit w ls l) (record {
          some = omega (arith, s.some, s.rises);
          rises = up w (base + interference 0 w ls) s.rises;
          none_below = λ v h e k. omega (arith, up w v (s.none_below v h e k), e);
        }))
    | inr l ↦ rw (next_past base limit w ls l) s
  ]

  pub searching : (first : ℕ) → Searching base limit ls first → (k : ℕ)
      → Searching base limit ls (value_from first base limit ls k)
  searching first s zero = s
  searching first s (suc k) = steps_on (value_from first base limit ls k) (searching first s k)

  module _ (w : ℕ) (s : Searching base limit ls w) where
    -- a value that is not followed by itself is within the limit, and followed by a greater one
    pub moves : (next_value base limit ls w ≡ w → ⊥) → (w ≤ limit) × (w < next_value base limit ls w)
    moves h = elim (le-or-lt w limit) [
      | inl l ↦ (l, omega (arith, next_within base limit w ls l, s.rises, h))
      | inr l ↦ absurd (h (next_past base limit w ls l))
    ]

    -- one that is, is W or shows the task late
    pub ends_at : next_value base limit ls w ≡ w → w ≤ limit → w ≡ least_fixed base limit ls
    ends_at e l =
        least_is base limit ls w s.some (sym e ∙ next_within base limit w ls l) l s.none_below

    pub ends_late : limit < w → 0 ≡ least_fixed base limit ls
    ends_late l = least_none base limit ls (λ v h e k. omega (arith, s.none_below v h e k))

-- ---- a search that has come to a value by some steps, each to a greater one
pub record Reached (first base limit : ℕ) (ls : List Load) (w k : ℕ) : Type 0 where
  pub value-is : w ≡ value_from first base limit ls k
  pub few : k < w
  pub moved : (j : ℕ) → j < k → value_from first base limit ls j < value_from first base limit ls (suc j)

module _ (first base limit : ℕ) (ls : List Load) (s : Searching base limit ls first) where
  pub reached_first : Reached first base limit ls first 0
  reached_first = record { value-is = refl; few = omega (arith, s.some); moved = λ j l. absurd (omega arith) }

  module _ (w k : ℕ) (r : Reached first base limit ls w k) where
    pub stands : Searching base limit ls w
    stands = rw r.value-is (searching base limit ls first s k)

    pub reached_next : (next : ℕ) → next ≡ next_value base limit ls w → w < next
        → Reached first base limit ls next (k + 1)
    reached_next next e h =
        let e' : next ≡ value_from first base limit ls (suc k) = e ∙ ap (next_value base limit ls) r.value-is in
        rw (add-one k) (record {
          value-is = e';
          few = omega (arith, r.few, h);
          moved = λ j l. elim (le-or-lt k j) [
            | inl m ↦ (let j_is : j ≡ k = omega arith in rw j_is (omega (arith, r.value-is, e', h)))
            | inr m ↦ r.moved j m
          ];
        })

-- ---- a solution that is found, or none
some_not_none : (w : ℕ) → Some w ≡ None → ⊥
some_not_none w e = let z : ◌≡◌ {A = ℕ} 0 1 = cc in omega arith

pub found_some : (x w : ℕ) → Some w ≡ found x → (w ≡ x) × (1 ≤ w)
found_some zero w e = absurd (some_not_none w e)
found_some (suc x) w e = let is : w ≡ suc x = cc in (is, omega arith)

pub some_found : (w : ℕ) → 1 ≤ w → Some w ≡ found w
some_found zero h = absurd (omega arith)
some_found (suc w) h = refl

pub none_found : (x : ℕ) → None ≡ found x → x ≡ 0
none_found zero e = refl
none_found (suc x) e = absurd (some_not_none (suc x) (sym e))

pub found_none : (x : ℕ) (o : Option ℕ) → o ≡ found x → ((w : ℕ) → o ≡ Some w → ⊥) → x ≡ 0
found_none zero o e h = refl
found_none (suc x) o e h = absurd (h (suc x) e)
