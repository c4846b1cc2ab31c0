-- The responses that the code finds by the loads of rows are those of the rows.
use mathlib.Core.Path.{◌≡◌, refl, sym, ap, ap₂, ◌∙◌}
use mathlib.Core.Bool.{true, false, ◌&&◌, not}
use mathlib.Core.List.{List, [], ◌∷◌, map}
use Prim.Native.Nat.{ℕ, zero, suc, ◌+◌, ◌≤◌, ◌<◌}
use native.Mathlib.Omega.{arith}
use lib.Dec.{eqb}
use lib.IntN.{pos}
use lib.Signed.{le_z}
use lib.ListN.{length, get_or}
use Rattle.std.specs.Prelude.{Some}
use Rattle.basics.specs.Basics.{pick}
use Rattle.rows.specs.Rows.{Row, max_ticks, cost, times_in_range, all_rows}
use Rattle.rows.proofs.Limits.{limits, Times, times, in_range_times, head_passes, tail_passes}
use Rattle.responses.specs.declared.Load.{Load}
use Rattle.responses.specs.Interference.{interference, least_fixed, largest_fixed}
use Rattle.responses.specs.BusyIntervals.{latest_within}
use Rattle.responses.specs.Figures.{worst_load, best_load, blocking, finish_of, may_hold, latest, earliest, margin_at}
use Rattle.responses.specs.Figures.{is_stable}
use Rattle.responses.proofs.Finishes.{finish_fixed}
use Rattle.responses.proofs.FirstJobs.{stable_by_margin, first_fits, here_within, earliest_here, unstable_here}
use Rattle.responses.proofs.Responses.{responses}
use Rattle.fixed_points.specs.inside.Loads.{loads_max, no_load, Loads}
use Rattle.fixed_points.specs.inside.Values as V
use Rattle.fixed_points.proofs.Values.{found_some}
use Rattle.busy_intervals.proofs.Jobs.{first_job}
use Rattle.busy_intervals.specs.declared.Times.{Times as Taken}
use Rattle.busy_intervals.specs.inside.Finishes.{finishes}
use Rattle.analysis.specs.inside.Above.{Filled, TimesAre, Under}

pub map_long : {A B : Type 0} (f : A → B) (xs : List A) → length (map f xs) ≡ length xs
map_long f [] = refl
map_long f (x ∷ xs) = ap suc (map_long f xs)

-- the loads of rows with times in range fit
record Fits (l : Load) : Type 0 where
  pub period_some : 1 ≤ l.period
  pub period_max : l.period ≤ max_ticks
  pub cost_period : l.cost ≤ l.period

each_fits : (f : Row → Load) → ((r : Row) → Times r → Fits (f r)) → (rows : List Row)
    → all_rows times_in_range rows ≡ true → (i : ℕ) → i < length (map f rows) → Fits (get_or (map f rows) i no_load)
each_fits f fit [] all i h = absurd (omega arith)
each_fits f fit (r ∷ rows) all zero h = fit r (times r (head_passes times_in_range r rows all))
each_fits f fit (r ∷ rows) all (suc i) h =
    each_fits f fit rows (tail_passes times_in_range r rows all) i (omega arith)

loads_fit : (f : Row → Load) → ((r : Row) → Times r → Fits (f r)) → (rows : List Row) → length rows ≤ loads_max
    → all_rows times_in_range rows ≡ true → Loads (map f rows)
loads_fit f fit rows few all =
    let each = each_fits f fit rows all in
    record {
      few = omega (arith, map_long f rows, few);
      period_some = λ i h. (each i h).period_some;
      period_max = λ i h. (each i h).period_max;
      cost_period = λ i h. (each i h).cost_period;
    }

worst_fits : (r : Row) → Times r → Fits (worst_load r)
worst_fits r t = record {
  period_some = omega (arith, t.cost_period, t.best_cost, t.best_some);
  period_max = t.period_max;
  cost_period = t.cost_period;
}

best_fits_lem : (r : Row) → Times r → Fits (best_load r)
best_fits_lem r t = record {
  period_some = omega (arith, t.cost_period, t.best_cost, t.best_some);
  period_max = t.period_max;
  cost_period = omega (arith, t.best_cost, t.cost_period);
}

module _ {t : Row} {b : ℕ} {worst best : List Load} (p : Under t b worst best) where
  pub worst_loads : Loads worst
  worst_loads = rw p.filled.worst_is (loads_fit worst_load worst_fits p.rows p.few p.times_are_in_range)

  pub best_loads : Loads best
  best_loads = rw p.filled.best_is (loads_fit best_load best_fits_lem p.rows p.few p.times_are_in_range)

-- ---- what the search takes of a row gives what the row does
module _ {t : Row} {b : ℕ} {x : Taken} (a : TimesAre t b x) (worst : List Load) where
  pub latest_taken : latest_within (finishes x.cost x.blocked worst) x.period x.deadline
      ≡ latest_within (finishes (cost t) b worst) t.period t.deadline
  latest_taken = rw (a.cost_is, a.blocked_is, a.period_is, a.deadline_is) refl

  pub first_taken : least_fixed (x.cost + x.blocked) x.deadline worst ≡ least_fixed (cost t + b) t.deadline worst
  first_taken = rw (a.cost_is, a.blocked_is, a.deadline_is) refl

-- ---- the responses found by loads are those of the rows
module _ (t : Row) {b : ℕ} {worst best : List Load} {rows : List Row} (below : List Row) (f : Filled rows worst best)
    (blocked : b ≡ blocking below) where
  pub latest_found : latest_within (finishes (cost t) b worst) t.period t.deadline ≡ latest t rows below
  latest_found =
      ap₂ (λ (c : ℕ) (ls : List Load). latest_within (finishes (cost t) c ls) t.period t.deadline) blocked f.worst_is

  pub earliest_found : (w e : ℕ) → w ≡ latest t rows below
      → e ≡ pick (may_hold t) t.best (largest_fixed t.best w best) → e ≡ earliest t rows below
  earliest_found w e i h =
      h ∙ ap₂ (λ (v : ℕ) (ls : List Load). pick (may_hold t) t.best (largest_fixed t.best v ls)) i f.best_is

-- of a task that is not late
pub record Found (t : Row) (best : List Load) (w : ℕ) : Type 0 where
  pub latest_max : w ≤ max_ticks
  pub best_fits : t.best + interference 1 w best ≤ w
  pub earliest_latest : (e : ℕ) → e ≡ pick (may_hold t) t.best (largest_fixed t.best w best) → e ≤ w

pub found : {t : Row} {b : ℕ} {worst best : List Load} (w : ℕ) → Under t b worst best
    → w ≡ latest_within (finishes (cost t) b worst) t.period t.deadline → 1 ≤ w → Found t best w
found {t} {b} {worst} {best} w p e h =
    let i = e ∙ latest_found t p.below p.filled p.blocked_is in
    let ht = in_range_times t p.is_in_range in
    let r = responses t p.rows p.below ht p.times_are_in_range (omega arith) in
    record {
      latest_max = omega (arith, i, r.latest_max);
      best_fits = rw (i, p.filled.best_is) r.best_fits;
      earliest_latest = λ x g.
          omega (arith, earliest_found t p.below p.filled p.blocked_is w x i g, i, r.earliest_latest);
    }

-- ---- whether a row is stable is that of any rows with these loads
module _ {t : Row} {b : ℕ} {worst best : List Load} (p : Under t b worst best) where
  pub stable_same : (rows below : List Row) → Filled rows worst best → b ≡ blocking below
      → is_stable t p.rows p.below ≡ is_stable t rows below
  stable_same rows below f blocked =
      ap₂ (λ (w : ℕ) (ls : List Load).
      not (eqb w 0) && le_z (pos 0) (margin_at t w (pick (may_hold t) t.best (largest_fixed t.best w ls))))
      (sym (latest_found t p.below p.filled p.blocked_is) ∙ latest_found t below f blocked)
      (sym p.filled.best_is ∙ f.best_is)

-- ---- the busy interval's first job, where it is in time
module _ {t : Row} {b first : ℕ} {worst best : List Load} {x : Taken} (p : Under t b worst best) (a : TimesAre t b x)
    (is : Some first ≡ V.found (least_fixed (x.cost + x.blocked) x.deadline worst)) where
  ht : times_in_range t ≡ true
  ht = in_range_times t p.is_in_range

  pub first_some : 1 ≤ first
  first_some = (found_some _ first is).1

  -- it is w(0)
  first_found : first ≡ finish_of t p.rows p.below 0
  first_found =
      let job = first_job x.cost x.blocked x.period x.deadline worst x.in_limits first (found_some _ first is).0 first_some in
      job.finish_is
      ∙ ap₂ (λ (c k : ℕ). finishes c k worst 0) a.cost_is (a.blocked_is ∙ p.blocked_is)
      ∙ ap (λ (ls : List Load). finishes (cost t) (blocking p.below) ls 0) p.filled.worst_is

  pub first_max : first ≤ max_ticks
  first_max =
      omega (arith, first_found, (finish_fixed t p.rows p.below 0 (omega (arith, first_found, first_some))).1)

  pub first_has_room : t.best + interference 1 first best ≤ first
  first_has_room =
      rw p.filled.best_is (first_fits t p.rows p.below ht p.times_are_in_range first first_some first_found)

  -- E as the code finds it there
  module _ (e : ℕ) (at : e ≡ pick (may_hold t) t.best (largest_fixed t.best first best)) where
    here_is : e ≡ pick (may_hold t) t.best (largest_fixed t.best first (map best_load p.rows))
    here_is = at ∙ ap (λ (ls : List Load). pick (may_hold t) t.best (largest_fixed t.best first ls)) p.filled.best_is

    pub here_first : e ≤ first
    here_first =
        omega (arith, here_is, here_within t p.rows p.below ht p.times_are_in_range first first_some first_found)

    pub outside_first : le_z (pos 0) (margin_at t first e) ≡ false → false ≡ is_stable t p.rows p.below
    outside_first outside =
        unstable_here t p.rows p.below ht p.times_are_in_range first first_some first_found
        (limits t p.is_in_range).curve
        (ap (λ (y : ℕ). le_z (pos 0) (margin_at t first y)) (sym here_is) ∙ outside)

    -- where W is found too
    module _ (w : ℕ) (now : Some w ≡ V.found (latest_within (finishes x.cost x.blocked worst) x.period x.deadline)) where
      latest_is : w ≡ latest t p.rows p.below
      latest_is =
          (found_some _ w now).0 ∙ latest_taken a worst ∙ latest_found t p.below p.filled p.blocked_is

      timely : 1 ≤ latest t p.rows p.below
      timely = omega (arith, latest_is, (found_some _ w now).1)

      earliest_is : e ≡ earliest t p.rows p.below
      earliest_is =
          here_is
          ∙ earliest_here t p.rows p.below ht p.times_are_in_range first first_some first_found timely

      pub latest_limits : (w ≤ max_ticks) × (e ≤ w)
      latest_limits =
          let r = responses t p.rows p.below ht p.times_are_in_range timely in
          (omega (arith, latest_is, r.latest_max), omega (arith, latest_is, earliest_is, r.earliest_latest))

      pub by_margin : le_z (pos 0) (margin_at t w e) ≡ is_stable t p.rows p.below
      by_margin = stable_by_margin t p.rows p.below w e (found_some _ w now).1 latest_is earliest_is
