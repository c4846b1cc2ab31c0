-- A promise between functions: the values that the search of W tries, one after another.
use Rattle.std.specs.Prelude.{◌≡◌, List, [], ◌∷◌, ℕ, zero, suc, ◌+◌, ◌≤◌, ◌<◌, leb, Option, Some, None}
use Rattle.basics.specs.Basics.{pick}
use Rattle.responses.specs.declared.Load.{Load}
use Rattle.responses.specs.Interference.{interference}
use Rattle.fixed_points.specs.declared.Tried.{Tried}

-- one job of each task
abbrev pub one_job_each : List Load → ℕ
one_job_each [] = 0
one_job_each (l ∷ ls) = l.cost + one_job_each ls

-- the first value, where nothing else is known of the solutions
abbrev pub first_value : ℕ → List Load → ℕ
first_value base ls = base + one_job_each ls

-- the value after w: what `base` ticks and the interference of w ticks take; past the limit, w itself
abbrev pub next_value : ℕ → ℕ → List Load → ℕ → ℕ
next_value base limit ls w = pick (leb w limit) (base + interference 0 w ls) w

-- the value after k steps, from any first one and from that
abbrev pub value_from : ℕ → ℕ → ℕ → List Load → ℕ → ℕ
value_from first base limit ls zero = first
value_from first base limit ls (suc k) = next_value base limit ls (value_from first base limit ls k)

abbrev pub value_at : ℕ → ℕ → List Load → ℕ → ℕ
value_at base limit ls k = value_from (first_value base ls) base limit ls k

-- a value at which the search may stand: it takes no less than itself, and no solution lies below it
pub record Searching (base limit : ℕ) (ls : List Load) (w : ℕ) : Type 0 where
  pub some : 1 ≤ w
  pub rises : w ≤ base + interference 0 w ls
  pub none_below : (v : ℕ) → 1 ≤ v → v ≡ base + interference 0 v ls → v ≤ limit → w ≤ v

-- the search ends at the first value that is followed by itself
pub record TriesFrom (first base limit : ℕ) (ls : List Load) (t : Tried) : Type 0 where
  pub last_is : t.last ≡ value_from first base limit ls t.steps
  pub ends : next_value base limit ls t.last ≡ t.last
  pub goes_on :
      (k : ℕ) → k < t.steps → value_from first base limit ls k < value_from first base limit ls (suc k)

abbrev pub Tries : ℕ → ℕ → List Load → Tried → Type 0
Tries base limit ls t = TriesFrom (first_value base ls) base limit ls t

-- a solution, if there is one: 0 is none
abbrev pub found : ℕ → Option ℕ
found zero = None
found (suc w) = Some (suc w)
