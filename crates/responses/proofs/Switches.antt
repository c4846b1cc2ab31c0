-- What a switch does to the figures: it stands beside each worst time and nowhere else, so without it they are those
-- before it; and W never falls when it grows, since what W's equation demands of a window does not, so that no w(q)
-- falls and the busy interval is no shorter.
use mathlib.Core.Path.{◌≡◌, refl, sym, ap, ap₂, ◌∙◌}
use mathlib.Core.Bool.{Bool, true, not}
use mathlib.Core.Logic.{inl, inr}
use mathlib.Core.List.{List, [], ◌∷◌, map}
use Prim.Native.Nat.{ℕ, suc, ◌+◌, ◌-◌, ◌*◌, ◌≤◌}
use native.Mathlib.Nat.{mul-le-mul, mul-le-mul_left, add-le-add}
use native.Mathlib.Omega.{arith}
use borrow.Author.Tests.{eqb-true, eqb-false, ne_eqb, not-true}
use lib.IntN.{pos}
use lib.Signed.{le_z}
use Rattle.basics.specs.Basics.{pick, larger}
use Rattle.basics.proofs.Tests.{test_of, le-or-lt, and_left, and_right, and_both}
use Rattle.rows.specs.Rows as R
use Rattle.rows.specs.Rows.{max_ticks, cost, with_switch, in_range, times_in_range, all_rows}
use Rattle.rows.specs.Rows.{Row}
use Rattle.rows.proofs.Limits.{limits, Times, times, in_range_times}
use Rattle.responses.specs.declared.Load.{Load}
use Rattle.responses.specs.Interference.{least_fixed, largest_fixed}
use Rattle.responses.specs.BusyIntervals.{latest_within}
use Rattle.responses.specs.Figures.{worst_load, best_load, worst_in, largest_hold, blocking, finish_of, latest, is_late}
use Rattle.responses.specs.Figures.{may_hold, earliest, margin_at, margin, is_stable}
use Rattle.responses.specs.Claims.{switched_load, ByNumbers, plain_load, NoSwitch, WithoutSwitch}
use Rattle.responses.specs.Claims.{switched, Grows, SwitchUpTo, SwitchGrows}
use Rattle.responses.proofs.Blocking.{blocking_is}
use Rattle.responses.proofs.Conditions.{eased}
use Rattle.responses.proofs.BusyIntervals.{Counts, in_deadline, timely, response_mono}
use Rattle.responses.proofs.Windows.{settled}
use Rattle.responses.proofs.Finishes.{finish_fixed, finish_within, counts, first_is, first_latest, within_period}

-- ---- by the numbers of the rows
pub cost_is : (r : Row) → cost r ≡ r.worst + r.switch
unfolding R.cost
cost_is r = refl

loads_by : (rs : List Row) → map worst_load rs ≡ map switched_load rs
unfolding R.cost
loads_by rs = refl

pub by_numbers : (t : Row) (above below : List Row) → ByNumbers t above below
by_numbers t above below = record {
  latest_by =
      ap₂ (λ c ls. latest_within (λ q. least_fixed (suc q * c + blocking below) max_ticks ls) t.period t.deadline)
      (cost_is t) (loads_by above);
  earliest_by = refl;
}

-- ---- without a switch
pub loads_plain : (rs : List Row) → NoSwitch rs → map switched_load rs ≡ map plain_load rs
loads_plain [] none = refl
loads_plain (r ∷ rs) none =
    let own : r.worst + r.switch ≡ r.worst = omega (arith, none 0 (omega arith)) in
    rw (own, loads_plain rs (λ i l. none (suc i) (omega arith)))

pub without_switch : WithoutSwitch
without_switch t above below ht same own none = record {
  latest_then =
      let base : cost t + blocking below ≡ t.worst + blocking below = omega (arith, cost_is t, own) in
      (within_period t above below ht same).latest_then
      ∙ ap₂ (λ b ls. least_fixed b t.period ls) base (loads_by above ∙ loads_plain above none);
  earliest_then = refl;
}

-- ---- under a greater switch
cost_grows : (s : ℕ) (r : Row) → r.switch ≤ s → cost r ≤ cost (with_switch s r)
cost_grows s r h = omega (arith, cost_is r, cost_is (with_switch s r))

worst_grows : (s x : ℕ) (rs : List Row) → SwitchUpTo s rs → worst_in x rs ≤ worst_in x (switched s rs)
worst_grows s x [] h = omega arith
worst_grows s x (r ∷ rs) h =
    add-le-add (mul-le-mul (omega arith) (cost_grows s r (h 0 (omega arith))))
    (worst_grows s x rs (λ i l. h (suc i) (omega arith)))

holds_stay : (s : ℕ) (rs : List Row) → largest_hold (switched s rs) ≡ largest_hold rs
holds_stay s [] = refl
holds_stay s (r ∷ rs) = ap (larger r.hold) (holds_stay s rs)

-- E's equation has no switch
best_stays : (s : ℕ) (rs : List Row) → map best_load (switched s rs) ≡ map best_load rs
best_stays s [] = refl
best_stays s (r ∷ rs) = ap (λ ls. best_load r ∷ ls) (best_stays s rs)

module _ (t : Row) (above below : List Row) (s : ℕ) (is_in_range : in_range t ≡ true)
    (ha : all_rows times_in_range above ≡ true) (own : t.switch ≤ s) (others : SwitchUpTo s above) where
  ht : times_in_range t ≡ true
  ht = in_range_times t is_in_range

  abbrev own_times : Times t
  own_times = times t ht

  period_some : 1 ≤ t.period
  period_some = omega (arith, own_times.best_some, own_times.best_cost, own_times.cost_period)

  -- w(q) without the greater switch and with it
  abbrev w : ℕ → ℕ
  w q = finish_of t above below q

  abbrev v : ℕ → ℕ
  v q = finish_of (with_switch s t) (switched s above) (switched s below) q

  abbrev after : ℕ
  after = latest (with_switch s t) (switched s above) (switched s below)

  abbrev before : ℕ
  before = latest t above below

  -- a w(q) under the greater switch leaves room for it without
  no_fewer : (q : ℕ) → 1 ≤ v q → (1 ≤ w q) × (w q ≤ v q)
  no_fewer q h =
      let f = finish_fixed (with_switch s t) (switched s above) (switched s below) q h in
      let blocked : blocking (switched s below) ≡ blocking below =
      blocking_is (switched s below) ∙ ap (λ x. x - 1) (holds_stay s below) ∙ sym (blocking_is below) in
      let jobs : suc q * cost t ≤ suc q * cost (with_switch s t) = mul-le-mul_left (suc q) (cost_grows s t own) in
      finish_within t above below ht q (v q) f.1
      (omega (arith, f.0, blocked, jobs, worst_grows s (v q) above others))

  counts_after : Counts v
  counts_after = record {
    most = λ q. elim (le-or-lt 1 (v q)) [
      | inl h ↦ (finish_fixed (with_switch s t) (switched s above) (switched s below) q h).1
      | inr h ↦ omega arith
    ];
    each = λ q h. let l = no_fewer q h in omega (arith, l.1, (counts t above below ht).each q l.0);
  }

  no_less : 1 ≤ after → (1 ≤ before) × (before ≤ after)
  no_less h =
      let l = timely v t.period period_some counts_after t.deadline h in
      let c = counts t above below ht in
      let m = response_mono w v t.period period_some c counts_after no_fewer (omega (arith, l.0, h)) in
      let b = in_deadline w t.period period_some c t.deadline (omega (arith, m.1, l.1)) in
      (omega (arith, b, m.0), omega (arith, b, m.1, l.0))

  -- E, where the greater switch leaves the task in time: W is at or past w(0) either way
  module _ (h : 1 ≤ after) where
    abbrev bests : List Load
    bests = map best_load above

    formula_stays : largest_fixed t.best before bests ≡ largest_fixed t.best after bests
    formula_stays =
        let l = no_less h in
        let first = first_latest t above below ht l.0 in
        settled t.best (cost t + blocking below) (w 0) above ha own_times.best_some
        (omega (arith, own_times.best_cost)) (first_is t above below ht l.0) before after first
        (omega (arith, first, l.1))

    same_earliest : earliest t above below ≡ earliest (with_switch s t) (switched s above) (switched s below)
    same_earliest =
        ap (pick (may_hold t) t.best) (formula_stays ∙ ap (largest_fixed t.best after) (sym (best_stays s above)))

  pub grows : Grows t above below s
  grows = record {
    late_stays = λ late. elim (test_of (is_late (with_switch s t) (switched s above) (switched s below))) [
      | inl e ↦ e
      | inr e ↦
          let in_time = no_less (omega (arith, eqb-false after 0 e)) in
          absurd (omega (arith, in_time.0, eqb-true (latest t above below) 0 late))
    ];
    latest_grows = λ timely. (no_less (omega (arith, eqb-false after 0 timely))).1;
    earliest_stays = λ timely. same_earliest (omega (arith, eqb-false after 0 timely));
    stable_before = stable_then;
  }
    where
      late : Bool
      late = is_late (with_switch s t) (switched s above) (switched s below)

      -- at the same E no greater W is no less inside the condition
      stable_then : is_stable (with_switch s t) (switched s above) (switched s below) ≡ true
          → is_stable t above below ≡ true
      stable_then h =
          let w = latest t above below in
          let e = earliest t above below in
          let e' = earliest (with_switch s t) (switched s above) (switched s below) in
          let inside = le_z (pos 0) (margin (with_switch s t) (switched s above) (switched s below)) in
          let timely = eqb-false after 0 (not-true late (and_left (not late) inside h)) in
          let l = no_less (omega (arith, timely)) in
          let same : e ≡ e' = same_earliest (omega (arith, timely)) in
          let least : w ≤ after = l.1 in
          let here : le_z (pos 0) (margin_at t after e) ≡ true =
          ap (λ (x : ℕ). le_z (pos 0) (margin_at t after x)) same ∙ and_right (not late) inside h in
          and_both (not (is_late t above below)) (le_z (pos 0) (margin t above below))
          (ap not (ne_eqb w 0 (λ z. omega (arith, z, l.0))))
          (eased t.curve t.alpha t.beta w after e (limits t is_in_range).curve least here)

pub switch_grows : SwitchGrows
switch_grows t above below s ok ha own others = grows t above below s ok ha own others
