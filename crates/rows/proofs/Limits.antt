-- A row in range keeps each limit: the tests taken apart and put together.
use mathlib.Core.Path.{◌≡◌, refl}
use mathlib.Core.Bool.{Bool, true, ◌&&◌}
use mathlib.Core.List.{List, [], ◌∷◌, ◌++◌}
use Prim.Native.Nat.{ℕ, zero, suc, ◌≤◌, ◌<◌}
use native.Mathlib.Omega.{arith}
use lib.Dec.{leb}
use lib.ListN.{length, get_or, take, drop}
use borrow.Author.Tests.{leb-true, le-leb}
use Rattle.basics.specs.Basics.{within}
use Rattle.basics.proofs.Tests.{and_left, and_right, and_both, Within, within_true}
use Rattle.rows.specs.Rows.{Row}
use Rattle.rows.specs.Rows.{min_task, max_task, min_ticks, max_ticks, min_alpha, max_alpha, min_beta, max_beta}
use Rattle.rows.specs.Rows.{min_hold, max_hold, min_switch, max_switch}
use Rattle.rows.specs.Rows.{cost, numbers_in_range, in_range, times_in_range, all_rows, no_row}
use Rattle.curves.specs.Curves.{well_formed}

-- ---- every limit
pub record Limits (r : Row) : Type 0 where
  pub task : Within min_task max_task r.task
  pub period : Within min_ticks max_ticks r.period
  pub deadline : Within min_ticks max_ticks r.deadline
  pub worst : Within min_ticks max_ticks r.worst
  pub best : Within min_ticks max_ticks r.best
  pub alpha : Within min_alpha max_alpha r.alpha
  pub beta : Within min_beta max_beta r.beta
  pub hold : Within min_hold max_hold r.hold
  pub switch : Within min_switch max_switch r.switch
  pub cost_period : cost r ≤ r.period
  pub best_worst : r.best ≤ r.worst
  pub hold_worst : r.hold ≤ r.worst
  pub curve : well_formed r.curve ≡ true

pub limits : (r : Row) → in_range r ≡ true → Limits r
limits r h =
    let h₁₂ = and_left (numbers_in_range r) (well_formed r.curve) h in
    let t₁ = within min_task max_task r.task in
    let t₂ = within min_ticks max_ticks r.period in
    let t₃ = within min_ticks max_ticks r.deadline in
    let t₄ = within min_ticks max_ticks r.worst in
    let t₅ = within min_ticks max_ticks r.best in
    let t₆ = within min_alpha max_alpha r.alpha in
    let t₇ = within min_beta max_beta r.beta in
    let t₈ = within min_hold max_hold r.hold in
    let t₉ = within min_switch max_switch r.switch in
    let t₁₀ = leb (cost r) r.period in
    let t₁₁ = leb r.best r.worst in
    let t₁₂ = leb r.hold r.worst in
    let h₁₁ = and_left (t₁ && t₂ && t₃ && t₄ && t₅ && t₆ && t₇ && t₈ && t₉ && t₁₀ && t₁₁) t₁₂ h₁₂ in
    let h₁₀ = and_left (t₁ && t₂ && t₃ && t₄ && t₅ && t₆ && t₇ && t₈ && t₉ && t₁₀) t₁₁ h₁₁ in
    let h₉ = and_left (t₁ && t₂ && t₃ && t₄ && t₅ && t₆ && t₇ && t₈ && t₉) t₁₀ h₁₀ in
    let h₈ = and_left (t₁ && t₂ && t₃ && t₄ && t₅ && t₆ && t₇ && t₈) t₉ h₉ in
    let h₇ = and_left (t₁ && t₂ && t₃ && t₄ && t₅ && t₆ && t₇) t₈ h₈ in
    let h₆ = and_left (t₁ && t₂ && t₃ && t₄ && t₅ && t₆) t₇ h₇ in
    let h₅ = and_left (t₁ && t₂ && t₃ && t₄ && t₅) t₆ h₆ in
    let h₄ = and_left (t₁ && t₂ && t₃ && t₄) t₅ h₅ in
    let h₃ = and_left (t₁ && t₂ && t₃) t₄ h₄ in
    let h₂ = and_left (t₁ && t₂) t₃ h₃ in
    record {
      task = within_true min_task max_task r.task (and_left t₁ t₂ h₂);
      period = within_true min_ticks max_ticks r.period (and_right t₁ t₂ h₂);
      deadline = within_true min_ticks max_ticks r.deadline (and_right (t₁ && t₂) t₃ h₃);
      worst = within_true min_ticks max_ticks r.worst (and_right (t₁ && t₂ && t₃) t₄ h₄);
      best = within_true min_ticks max_ticks r.best (and_right (t₁ && t₂ && t₃ && t₄) t₅ h₅);
      alpha = within_true min_alpha max_alpha r.alpha (and_right (t₁ && t₂ && t₃ && t₄ && t₅) t₆ h₆);
      beta = within_true min_beta max_beta r.beta (and_right (t₁ && t₂ && t₃ && t₄ && t₅ && t₆) t₇ h₇);
      hold = within_true min_hold max_hold r.hold (and_right (t₁ && t₂ && t₃ && t₄ && t₅ && t₆ && t₇) t₈ h₈);
      switch =
          within_true min_switch max_switch r.switch (and_right (t₁ && t₂ && t₃ && t₄ && t₅ && t₆ && t₇ && t₈) t₉ h₉);
      cost_period =
          leb-true (cost r) r.period (and_right (t₁ && t₂ && t₃ && t₄ && t₅ && t₆ && t₇ && t₈ && t₉) t₁₀ h₁₀);
      best_worst =
          leb-true r.best r.worst (and_right (t₁ && t₂ && t₃ && t₄ && t₅ && t₆ && t₇ && t₈ && t₉ && t₁₀) t₁₁ h₁₁);
      hold_worst =
          leb-true r.hold r.worst
          (and_right (t₁ && t₂ && t₃ && t₄ && t₅ && t₆ && t₇ && t₈ && t₉ && t₁₀ && t₁₁) t₁₂ h₁₂);
      curve = and_right (numbers_in_range r) (well_formed r.curve) h;
    }

pub is_in_range : (r : Row) → Limits r → in_range r ≡ true
is_in_range r h =
    simp (
      le-leb _ _ h.task.low_le,
      le-leb _ _ h.task.le_high,
      le-leb _ _ h.period.low_le,
      le-leb _ _ h.period.le_high,
      le-leb _ _ h.deadline.low_le,
      le-leb _ _ h.deadline.le_high,
      le-leb _ _ h.worst.low_le,
      le-leb _ _ h.worst.le_high,
      le-leb _ _ h.best.low_le,
      le-leb _ _ h.best.le_high,
      le-leb _ _ h.alpha.low_le,
      le-leb _ _ h.alpha.le_high,
      le-leb _ _ h.beta.low_le,
      le-leb _ _ h.beta.le_high,
      le-leb _ _ h.hold.low_le,
      le-leb _ _ h.hold.le_high,
      le-leb _ _ h.switch.low_le,
      le-leb _ _ h.switch.le_high,
      le-leb _ _ h.cost_period,
      le-leb _ _ h.best_worst,
      le-leb _ _ h.hold_worst,
      h.curve,
    )

-- ---- the times: a job takes from the best to the cost, and fits its period
pub record Times (r : Row) : Type 0 where
  pub best_some : 1 ≤ r.best
  pub best_cost : r.best ≤ cost r
  pub cost_period : cost r ≤ r.period
  pub period_max : r.period ≤ max_ticks

pub times : (r : Row) → times_in_range r ≡ true → Times r
times r h₄ =
    let t₁ = leb min_ticks r.best in
    let t₂ = leb r.best (cost r) in
    let t₃ = leb (cost r) r.period in
    let t₄ = leb r.period max_ticks in
    let h₃ = and_left (t₁ && t₂ && t₃) t₄ h₄ in
    let h₂ = and_left (t₁ && t₂) t₃ h₃ in
    record {
      best_some = leb-true min_ticks r.best (and_left t₁ t₂ h₂);
      best_cost = leb-true r.best (cost r) (and_right t₁ t₂ h₂);
      cost_period = leb-true (cost r) r.period (and_right (t₁ && t₂) t₃ h₃);
      period_max = leb-true r.period max_ticks (and_right (t₁ && t₂ && t₃) t₄ h₄);
    }

-- the worst time is part of the cost
pub worst_cost : (r : Row) → r.worst ≤ cost r
unfolding cost
worst_cost r = omega arith

pub in_range_times : (r : Row) → in_range r ≡ true → times_in_range r ≡ true
in_range_times r e =
    let h = limits r e in
    simp (
      le-leb _ _ h.best.low_le,
      le-leb r.best (cost r) (omega (arith, h.best_worst, worst_cost r)),
      le-leb _ _ h.cost_period,
      le-leb _ _ h.period.le_high,
    )

-- ---- every row
pub head_passes : (f : Row → Bool) (r : Row) (rs : List Row) → all_rows f (r ∷ rs) ≡ true → f r ≡ true
head_passes f r rs h = and_left (f r) (all_rows f rs) h

pub tail_passes : (f : Row → Bool) (r : Row) (rs : List Row) → all_rows f (r ∷ rs) ≡ true → all_rows f rs ≡ true
tail_passes f r rs h = and_right (f r) (all_rows f rs) h

-- rows in range have their times in range
pub all_times : (rs : List Row) → all_rows in_range rs ≡ true → all_rows times_in_range rs ≡ true
all_times [] h = refl
all_times (r ∷ rs) h =
    and_both (times_in_range r) (all_rows times_in_range rs) (in_range_times r (head_passes in_range r rs h))
    (all_times rs (tail_passes in_range r rs h))

pub append_passes : (f : Row → Bool) (rs qs : List Row) → all_rows f rs ≡ true → all_rows f qs ≡ true
    → all_rows f (rs ++ qs) ≡ true
append_passes f [] qs h k = k
append_passes f (r ∷ rs) qs h k =
    and_both (f r) (all_rows f (rs ++ qs)) (head_passes f r rs h) (append_passes f rs qs (tail_passes f r rs h) k)

pub at_passes : (f : Row → Bool) (rs : List Row) (i : ℕ) → all_rows f rs ≡ true → i < length rs
    → f (get_or rs i no_row) ≡ true
at_passes f [] i h l = absurd (omega arith)
at_passes f (r ∷ rs) zero h l = head_passes f r rs h
at_passes f (r ∷ rs) (suc i) h l = at_passes f rs i (tail_passes f r rs h) (omega arith)

pub front_passes : (f : Row → Bool) (n : ℕ) (rs : List Row) → all_rows f rs ≡ true → all_rows f (take n rs) ≡ true
front_passes f zero rs h = refl
front_passes f (suc n) [] h = refl
front_passes f (suc n) (r ∷ rs) h =
    and_both (f r) (all_rows f (take n rs)) (head_passes f r rs h) (front_passes f n rs (tail_passes f r rs h))

pub rest_passes : (f : Row → Bool) (n : ℕ) (rs : List Row) → all_rows f rs ≡ true → all_rows f (drop n rs) ≡ true
rest_passes f zero rs h = h
rest_passes f (suc n) [] h = refl
rest_passes f (suc n) (r ∷ rs) h = rest_passes f n rs (tail_passes f r rs h)
