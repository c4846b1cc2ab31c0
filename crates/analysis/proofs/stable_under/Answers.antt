-- A row that is late, or outside its stability condition by its busy interval's first job, is not stable; else its margin
-- by W decides, with E as it was found by that job.
use Rattle.std.proofs.Common.{sym, ap, ◌∙◌, ℕ, arith}
use Rattle.std.specs.Prelude.{pos}
use Rattle.std.specs.Int.Signed.{le_z}
use Rattle.rows.specs.inside.Numbers.{row_from}
use Rattle.responses.specs.Figures.{margin_at}
use Rattle.responses.proofs.FirstJobs.{late_unstable}
use Rattle.fixed_points.proofs.Values.{found_none}
use Rattle.busy_intervals.proofs.Jobs.{first_late}
use Rattle.analysis.proofs.Found.{worst_loads, best_loads, latest_taken, latest_found, stable_same}
use Rattle.analysis.proofs.Found.{first_max, first_has_room, here_first, outside_first, latest_limits, by_margin}
use Rattle.analysis.proofs.stable_under.Goals as goal

pub invariant_of-worst : goal.invariant_of-worst
invariant_of-worst c = record { in_limits = worst_loads c.requires }

pub invariant_of-best : goal.invariant_of-best
invariant_of-best c = record { in_limits = best_loads c.requires }

pub returns-in_default-clause-says : goal.returns-in_default-clause-says
returns-in_default-clause-says c rows below f blocked =
    let worst = c.args.above.worst.now in
    let t = row_from c.args.row.now in
    let x = c.times_of-task.result in
    let none = found_none _ _ c.first_response.ensures c.in_default.not-Some in
    let late = first_late x.cost x.blocked x.period x.deadline worst x.in_limits none in
    late_unstable t rows below
    (sym (late ∙ latest_taken c.times_of-task.ensures worst ∙ latest_found t below f blocked))

pub earliest-earliest-requires : goal.earliest-earliest-requires
earliest-earliest-requires c =
    let a = c.times_of-task.ensures in (
      c.requires.is_in_range,
      first_max c.requires a c.in-Some.ensures,
      first_has_room c.requires a c.in-Some.ensures,
    )

pub invariant_of-responses : goal.invariant_of-responses
invariant_of-responses c =
    let a = c.times_of-task.ensures in
    let within = here_first c.requires a c.in-Some.ensures c.earliest-earliest.result c.earliest-earliest.ensures in
    record { in_limits = omega (arith, within, first_max c.requires a c.in-Some.ensures); ordered = omega (arith, within) }

pub returns-then-latest-first-clause-says : goal.returns-then-latest-first-clause-says
returns-then-latest-first-clause-says c rows below f blocked =
    let t = row_from c.args.row.now in
    let e = c.earliest-earliest.result in
    let inside = sym c.if-not-is_inside.false ∙ c.is_inside.ensures in
    inside
    ∙ ap (λ (w : ℕ). le_z (pos 0) (margin_at t w e)) (sym c.if-latest-first.true)
    ∙ by_margin c.requires c.times_of-task.ensures c.in-Some.ensures e c.earliest-earliest.ensures _
    c.in-Some-latest_from.ensures
    ∙ stable_same c.requires rows below f blocked

pub returns-then-not-is_inside-clause-says : goal.returns-then-not-is_inside-clause-says
returns-then-not-is_inside-clause-says c rows below f blocked =
    outside_first c.requires c.times_of-task.ensures c.in-Some.ensures c.earliest-earliest.result
    c.earliest-earliest.ensures (sym c.is_inside.ensures ∙ c.if-not-is_inside.true)
    ∙ stable_same c.requires rows below f blocked

pub returns-in_default-latest_from-clause-says : goal.returns-in_default-latest_from-clause-says
returns-in_default-latest_from-clause-says c rows below f blocked =
    let worst = c.args.above.worst.now in
    let t = row_from c.args.row.now in
    let none = found_none _ _ c.latest_from.ensures c.in_default-latest_from.not-Some in
    late_unstable t rows below
    (sym (latest_found t below f blocked) ∙ sym (latest_taken c.times_of-task.ensures worst) ∙ none)

pub invariant_of-is_inside : goal.invariant_of-is_inside
invariant_of-is_inside c =
    let l = latest_limits c.requires c.times_of-task.ensures c.in-Some.ensures c.earliest-earliest.result
    c.earliest-earliest.ensures _ c.in-Some-latest_from.ensures in
    record { in_limits = l.0; ordered = l.1 }

pub returns-clause-says : goal.returns-clause-says
returns-clause-says c rows below f blocked =
    c.is_inside-2.ensures
    ∙ by_margin c.requires c.times_of-task.ensures c.in-Some.ensures c.earliest-earliest.result
    c.earliest-earliest.ensures _ c.in-Some-latest_from.ensures
    ∙ stable_same c.requires rows below f blocked
