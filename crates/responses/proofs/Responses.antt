-- The responses of a task between the rows above and below it. W is at or past w(0), where the best jobs take at most
-- what the worst take, so E exists and is at most W, by its formula as much as the best time. Demand 2 follows.
use mathlib.Core.Path.{◌≡◌, ap, ap₂, sym, ◌∙◌}
use mathlib.Core.Bool.{Bool, true, false, ◌&&◌}
use mathlib.Core.List.{List, map}
use Prim.Native.Nat.{ℕ, ◌+◌, ◌≤◌}
use native.Mathlib.Omega.{arith}
use borrow.Author.Tests.{eq-eqb, ne_eqb, le-leb, lt-leb}
use mathlib.Core.Logic.{inl, inr}
use lib.Dec.{leb}
use lib.IntN.{ℤ}
use lib.ListN.{length}
use Rattle.rows.specs.Rows.{max_ticks, cost, times_in_range, in_range, all_rows}
use Rattle.rows.specs.Rows.{Row}
use Rattle.basics.specs.Basics.{pick}
use Rattle.basics.proofs.Tests.{test_of, and_left, and_right, le-or-lt}
use Rattle.rows.proofs.Limits.{times, in_range_times, all_times}
use Rattle.responses.specs.Interference.{least_fixed, largest_fixed}
use Rattle.std.specs.Prelude.{Ok, Err}
use Rattle.responses.specs.Figures.{best_load, best_in, blocking, finish_of, latest, is_late, earliest}
use Rattle.responses.specs.Figures.{Answered, is_stable, margin_at, margin, late_figures, figures_at, figures_under}
use Rattle.responses.specs.Figures.{least_hold, may_hold, max_others, in_limits}
use Rattle.responses.specs.Claims.{Figured, plain_load, WithoutEither, Demand-2}
use Rattle.responses.proofs.Sums.{rounds_up}
use Rattle.responses.proofs.Conditions.{by_condition, own_curve}
use Rattle.responses.proofs.Blocking.{blocks, no_blocking}
use Rattle.responses.proofs.Switches.{by_numbers, without_switch, switch_grows}
use Rattle.responses.proofs.FixedPoints.{largest_fixed_lem, largest_above}
use Rattle.responses.proofs.Windows.{best_fits}
use Rattle.responses.proofs.Finishes.{finish_fixed, finish_least, first_is, first_latest, latest_is, latest_max}
use Rattle.responses.proofs.Finishes.{latest_if, late_is, late_past, late_not_found, not_late, is_timely}
use Rattle.responses.proofs.Finishes.{ends, within_period}
use Rattle.responses.proofs.Deadlines.{own_deadline}

-- what is known of the responses of a task that is not late
pub record Responses (t : Row) (above below : List Row) : Type 0 where
  pub latest_deadline : latest t above below ≤ t.deadline
  pub latest_max : latest t above below ≤ max_ticks
  pub best_fits : t.best + best_in (latest t above below) above ≤ latest t above below
  pub earliest_is : t.hold ≤ 1 → earliest t above below ≡ t.best + best_in (earliest t above below) above
  pub earliest_some : 1 ≤ earliest t above below
  pub earliest_latest : earliest t above below ≤ latest t above below

-- E by the formula, or the best time
pub runs_by_rank : (t : Row) → t.hold ≤ 1 → may_hold t ≡ false
runs_by_rank t s = lt-leb least_hold t.hold (omega arith)

module _ (t : Row) (above below : List Row) where
  abbrev formula : ℕ
  formula = largest_fixed t.best (latest t above below) (map best_load above)

  pub earliest_formula : t.hold ≤ 1 → earliest t above below ≡ formula
  earliest_formula s = ap (λ (b : Bool). pick b t.best formula) (runs_by_rank t s)

  earliest_best : 2 ≤ t.hold → earliest t above below ≡ t.best
  earliest_best s = ap (λ (b : Bool). pick b t.best formula) (le-leb least_hold t.hold (omega arith))

pub responses : (t : Row) (above below : List Row) → times_in_range t ≡ true → all_rows times_in_range above ≡ true
    → 1 ≤ latest t above below → Responses t above below
responses t above below ht h k =
    let l = times t ht in
    let f : t.best + best_in (latest t above below) above ≤ latest t above below =
    best_fits t.best (cost t + blocking below) (finish_of t above below 0) above h l.best_some
    (omega (arith, l.best_cost)) (first_is t above below ht k) (latest t above below)
    (first_latest t above below ht k) in
    let e = largest_fixed_lem t.best (latest t above below) (map best_load above) l.best_some f in
    let by_rank : t.hold ≤ 1 → earliest t above below ≡ formula t above below = earliest_formula t above below in
    let own = earliest_best t above below in
    let within : (1 ≤ earliest t above below) × (earliest t above below ≤ latest t above below) =
    elim (le-or-lt t.hold 1) [
      | inl s ↦ (omega (arith, by_rank s, e.1), omega (arith, by_rank s, e.2))
      | inr s ↦ (omega (arith, own s, l.best_some), omega (arith, own s))
    ] in
    record {
      latest_deadline = (latest_is t above below ht (is_timely t above below ht k)).2;
      latest_max = latest_max t above below ht;
      best_fits = f;
      earliest_is = λ s. rw (by_rank s) e.0;
      earliest_some = within.0;
      earliest_latest = within.1;
    }

-- rows that a call takes
pub limits_times : (t : Row) (above below : List Row) → in_limits t above below ≡ true
    → (times_in_range t ≡ true) × (all_rows times_in_range above ≡ true)
limits_times t above below h =
    let r = all_rows in_range above in
    let few = all_rows in_range below && leb (length above + length below) max_others in
    let rest = and_right (in_range t) (r && few) h in
    (in_range_times t (and_left (in_range t) (r && few) h), all_times above (and_left r few rest))

pub figured : (t : Row) (above below : List Row) → times_in_range t ≡ true → all_rows times_in_range above ≡ true
    → Figured t above below
figured t above below ht ha = record {
  blocked = blocks below;
  finish_fixed = finish_fixed t above below;
  finish_least = finish_least t above below;
  latest_is = latest_is t above below ht;
  latest_if = latest_if t above below ht;
  late_is = late_is t above below ht;
  late_past = late_past t above below ht;
  late_not_found = late_not_found t above below ht;
  earliest_fixed = λ s h. let r = known (in_time h) in (r.earliest_is s, r.earliest_some, r.earliest_latest);
  earliest_largest = λ e s h k l f.
      rw (earliest_formula t above below s) (largest_above t.best (latest t above below) (map best_load above) e f l);
  earliest_held = earliest_best t above below;
  jitter_is = λ h. omega (arith, (known (in_time h)).earliest_latest);
}
  where
    in_time : is_late t above below ≡ false → 1 ≤ latest t above below
    in_time = not_late t above below ht

    known : 1 ≤ latest t above below → Responses t above below
    known = responses t above below ht ha

-- ---- where neither a hold nor a switch counts
pub without_either : WithoutEither
without_either t above below ht same unswitched others own none = record {
  latest_then =
      let base : t.worst + blocking below ≡ t.worst = omega (arith, no_blocking below none) in
      (without_switch t above below ht same unswitched others).latest_then
      ∙ ap (λ (b : ℕ). least_fixed b t.period (map plain_load above)) base;
  earliest_then = earliest_formula t above below own;
}

pub demand_2 : Demand-2
demand_2 = record {
  rounds_up = rounds_up;
  figured = figured;
  ends = λ t above below ht. ends t above below ht;
  by_numbers = by_numbers;
  own_deadline = own_deadline;
  within_period = within_period;
  without_switch = without_switch;
  without_either = without_either;
  switch_grows = switch_grows;
  by_condition = by_condition;
  own_curve = own_curve;
}

-- ---- a row's figures as one answer
abbrev pub stable_in : Answered → Bool
stable_in (Ok figures) = figures.stable
stable_in (Err none) = false

module _ (t : Row) (above below : List Row) where
  pub stable_is : stable_in (figures_under t above below) ≡ is_stable t above below
  stable_is = elim (test_of (is_late t above below)) [
    | inl e ↦ rw e
    | inr e ↦ rw e
  ]

  pub late_answer : latest t above below ≡ 0 → late_figures ≡ figures_under t above below
  late_answer z =
      let f = figures_at (latest t above below) (earliest t above below) (margin t above below) in
      sym (ap (λ (b : Bool). pick b late_figures f) (eq-eqb (latest t above below) 0 z))

  pub timely_answer : (w e : ℕ) (m : ℤ) → 1 ≤ w → w ≡ latest t above below → e ≡ earliest t above below
      → m ≡ margin_at t w e → figures_at w e m ≡ figures_under t above below
  timely_answer w e m k ew ee em =
      let f = figures_at (latest t above below) (earliest t above below) (margin t above below) in
      let timely = ne_eqb (latest t above below) 0 (λ z. omega arith) in
      ap (figures_at w e) em
      ∙ (ap₂ (λ (x y : ℕ). figures_at x y (margin_at t x y)) ew ee
      ∙ sym (ap (λ (b : Bool). pick b late_figures f) timely))
