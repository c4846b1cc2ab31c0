-- What each search answers is the response of the rows whose loads are lent (`found`); the rest is reading.
use Rattle.std.proofs.Common.{◌≡◌, ℕ, List, ap₂, sym, ◌∙◌}
use Rattle.std.specs.Prelude.{Some, Ok, ℤ, pos}
use Rattle.std.specs.Int.Signed.{le_z}
use mir.Syntax.{w64}
use mir.Facts.{to_z-of_z}
use Rattle.rows.specs.Rows.{Row, cost}
use Rattle.rows.specs.inside.Numbers.{row_from}
use Rattle.responses.specs.declared.Load.{Load}
use Rattle.responses.specs.BusyIntervals.{latest_within}
use Rattle.responses.specs.Figures.{Answered}
use Rattle.responses.proofs.Responses.{late_answer, timely_answer}
use Rattle.fixed_points.specs.inside.Values as V
use Rattle.fixed_points.proofs.Values.{found_some, found_none}
use Rattle.busy_intervals.specs.declared.Times.{Times}
use Rattle.busy_intervals.specs.inside.Finishes.{finishes}
use Rattle.analysis.specs.inside.Above.{TimesAre, Under}
use Rattle.analysis.proofs.Found.{worst_loads, best_loads, latest_taken, latest_found, earliest_found, Found, found}
use Rattle.analysis.proofs.figures_under.Goals as goal

-- where the search has found W
module _ (t : Row) (blocked w : ℕ) (x : Times) (worst best : List Load) (p : Under t blocked worst best)
    (a : TimesAre t blocked x)
    (is : Some w ≡ V.found (latest_within (finishes x.cost x.blocked worst) x.period x.deadline)) where
  answered : w ≡ latest_within (finishes (cost t) blocked worst) t.period t.deadline
  answered = (found_some _ w is).0 ∙ latest_taken a worst

  timely : Found t best w
  timely = found w p answered (found_some _ w is).1

pub invariant_of-worst : goal.invariant_of-worst
invariant_of-worst c = record { in_limits = worst_loads c.requires }

pub invariant_of-best : goal.invariant_of-best
invariant_of-best c = record { in_limits = best_loads c.requires }

pub returns-in_default : goal.returns-in_default
returns-in_default c rows below f blocked =
    let a = c.args in
    let t = row_from a.row.now in
    let none = found_none _ _ c.latest_response.ensures c.in_default.not-Some in
    let w = sym (latest_found t below f blocked) ∙ sym (latest_taken c.times_of-task.ensures a.above.worst.now) ∙ none in
    late_answer t rows below w

pub earliest-earliest-requires : goal.earliest-earliest-requires
earliest-earliest-requires c =
    let a = c.args in
    let f = timely (row_from a.row.now) a.blocked c.in-Some.latest c.times_of-task.result a.above.worst.now a.above.best.now
    c.requires c.times_of-task.ensures c.in-Some.ensures in
    (c.requires.is_in_range, f.latest_max, f.best_fits)

pub invariant_of-responses : goal.invariant_of-responses
invariant_of-responses c =
    let a = c.args in
    let f = timely (row_from a.row.now) a.blocked c.in-Some.latest c.times_of-task.result a.above.worst.now a.above.best.now
    c.requires c.times_of-task.ensures c.in-Some.ensures in
    record { in_limits = f.latest_max; ordered = f.earliest_latest _ c.earliest-earliest.ensures }

pub returns : goal.returns
returns c rows below f blocked =
    let a = c.args in
    let t = row_from a.row.now in
    let w = c.in-Some.latest in
    let e = c.earliest-earliest.result in
    let answer = answered t a.blocked w c.times_of-task.result a.above.worst.now a.above.best.now c.requires
    c.times_of-task.ensures c.in-Some.ensures in
    let latest = answer ∙ latest_found t below f blocked in
    let earliest = earliest_found t below f blocked w e latest c.earliest-earliest.ensures in
    let m = to_z-of_z {w = w64} {z = c.margin-margin.result} (record { sfits = c.margin-margin.type_inv }) in
    let with_jitter : ℕ → ℤ → Answered = λ j z. Ok record {
      worst = w;
      best = e;
      jitter = j;
      margin = z;
      stable = le_z (pos 0) z;
    } in
    ap₂ with_jitter c.jitter.ensures m
    ∙ timely_answer t rows below w e c.margin-margin.result (found_some _ w c.in-Some.ensures).1 latest earliest
    c.margin-margin.ensures
