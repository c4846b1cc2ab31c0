-- Each turn finds the next job or shows the task late; the loop ends behind the last.
use Rattle.std.proofs.Common.{◌≡◌, ℕ, zero, suc, ◌*◌, ◌+◌, ◌-◌, ◌≤◌, ◌<◌, List, ap, ◌∙◌, arith}
use Rattle.std.specs.Prelude.{Some}
use Rattle.basics.specs.Basics.{larger}
use Rattle.rows.specs.Rows.{max_ticks}
use Rattle.responses.specs.declared.Load.{Load}
use Rattle.responses.specs.Interference.{least_fixed}
use Rattle.fixed_points.specs.inside.Values.{found}
use Rattle.fixed_points.proofs.Values.{some_found, found_some, none_found}
use Rattle.busy_intervals.specs.inside.Finishes.{limit_for, InLimits, Stretch}
use Rattle.busy_intervals.proofs.Jobs.{Behind, first_job, small, from_last, next_late}
use Rattle.busy_intervals.proofs.Jobs.{next_job, later, stretch, last_job}
use Rattle.busy_intervals.proofs.latest_from.Goals as goal

pub loop-next-init : goal.loop-next-init
loop-next-init c =
    let t = c.args.task in
    let is = found_some _ c.args.first c.requires in
    (0, first_job t.cost t.blocked t.period t.deadline c.args.above.loads.now t.in_limits c.args.first is.0 is.1)

-- ---- a turn, behind job q of the busy interval
module _ (cost blocked period deadline : ℕ) (ls : List Load) (t : InLimits cost blocked period deadline)
    (base finish most next : ℕ)
    (i : (q : ℕ) × Behind cost blocked period deadline ls q base finish most next) where
  turn_small : (finish ≤ max_ticks) × (base ≤ max_ticks) × (1 ≤ finish)
  turn_small = small cost blocked period deadline ls t i.0 base finish most next i.1

  -- where it finds a job more
  module _ (on : next < finish) (limit : ℕ) (limit_is : limit ≡ limit_for (next + deadline)) (later_finish : ℕ)
      (is : Some later_finish ≡ found (least_fixed (base + cost) limit ls)) where
    answered : later_finish ≡ least_fixed (base + cost) (limit_for (next + deadline)) ls
    answered = (found_some _ later_finish is).0 ∙ ap (λ (x : ℕ). least_fixed (base + cost) x ls) limit_is

    some : 1 ≤ later_finish
    some = (found_some _ later_finish is).1

    further : (finish < later_finish) × (next ≤ later_finish)
    further = later cost blocked period deadline ls t i.0 base finish most next i.1 on later_finish answered some

    behind : Behind cost blocked period deadline ls (suc i.0) (base + cost) later_finish
        (larger most (later_finish - next)) (next + period)
    behind = next_job cost blocked period deadline ls t i.0 base finish most next i.1 on later_finish answered some

pub overflow_add-base-in-loop-next : goal.overflow_add-base-in-loop-next
overflow_add-base-in-loop-next c =
    let t = c.args.task in
    let x = c.loop-next in
    let s = turn_small t.cost t.blocked t.period t.deadline c.args.above.loads.now t.in_limits x.base x.finish x.longest x.next
    x.invariant in
    record { fits = omega (arith, s, t.in_limits.cost_period, t.in_limits.period_max) }

pub overflow_add-next : goal.overflow_add-next
overflow_add-next c =
    let t = c.args.task in
    let x = c.loop-next in
    let s = turn_small t.cost t.blocked t.period t.deadline c.args.above.loads.now t.in_limits x.base x.finish x.longest x.next
    x.invariant in
    record { fits = omega (arith, s, c.loop-next-test.true, t.in_limits.deadline_max) }

pub overflow_add-begun : goal.overflow_add-begun
overflow_add-begun c =
    let t = c.args.task in
    let x = c.loop-next in
    let s = turn_small t.cost t.blocked t.period t.deadline c.args.above.loads.now t.in_limits x.base x.finish x.longest x.next
    x.invariant in
    record { fits = omega (arith, s, t.in_limits.cost_period, t.in_limits.period_max) }

pub least_from-requires-clause-base_bound : goal.least_from-requires-clause-base_bound
least_from-requires-clause-base_bound c =
    let t = c.args.task in
    let x = c.loop-next in
    let s = turn_small t.cost t.blocked t.period t.deadline c.args.above.loads.now t.in_limits x.base x.finish x.longest x.next
    x.invariant in
    omega (arith, s, t.in_limits.cost_period, t.in_limits.period_max)

pub least_from-requires-clause-searching : goal.least_from-requires-clause-searching
least_from-requires-clause-searching c =
    let t = c.args.task in
    let x = c.loop-next in
    from_last t.cost t.blocked t.period t.deadline c.args.above.loads.now t.in_limits x.invariant.0 x.base x.finish x.longest
    x.next x.invariant.1 c.limit_for-limit.result c.limit_for-limit.ensures.within

pub returns-in_err-finish : goal.returns-in_err-finish
returns-in_err-finish c =
    let t = c.args.task in
    let x = c.loop-next in
    let ls = c.args.above.loads.now in
    let none = none_found _ c.in_err-finish.ensures in
    c.from_residual.ensures
    ∙ ap found (next_late t.cost t.blocked t.period t.deadline ls t.in_limits x.invariant.0 x.base x.finish x.longest x.next
    x.invariant.1 (omega (arith, c.loop-next-test.true)) _
    (ap (λ (l : ℕ). least_fixed (x.base + t.cost) l ls) c.limit_for-limit.ensures.limit) none)

pub overflow_sub-finish : goal.overflow_sub-finish
overflow_sub-finish c =
    let t = c.args.task in
    let x = c.loop-next in
    (further t.cost t.blocked t.period t.deadline c.args.above.loads.now t.in_limits x.base x.finish x.longest x.next
    x.invariant (omega (arith, c.loop-next-test.true)) c.limit_for-limit.result c.limit_for-limit.ensures.limit c.in_ok-finish.finish
    c.in_ok-finish.ensures).1

pub overflow_add-next-in-loop-next : goal.overflow_add-next-in-loop-next
overflow_add-next-in-loop-next c =
    let t = c.args.task in
    let x = c.loop-next in
    let s = turn_small t.cost t.blocked t.period t.deadline c.args.above.loads.now t.in_limits x.base x.finish x.longest x.next
    x.invariant in
    record { fits = omega (arith, s, c.loop-next-test.true, t.in_limits.period_max) }

pub jobs_behind-jobs-requires : goal.jobs_behind-jobs-requires
jobs_behind-jobs-requires c =
    let t = c.args.task in
    let x = c.loop-next in
    let b = behind t.cost t.blocked t.period t.deadline c.args.above.loads.now t.in_limits x.base x.finish x.longest x.next
    x.invariant (omega (arith, c.loop-next-test.true)) c.limit_for-limit.result c.limit_for-limit.ensures.limit
    c.in_ok-finish.finish c.in_ok-finish.ensures in
    let s = small t.cost t.blocked t.period t.deadline c.args.above.loads.now t.in_limits (suc x.invariant.0) _ _ _ _ b in
    (s.2, s.0)

pub overflow_add-base-in-loop-next-2 : goal.overflow_add-base-in-loop-next-2
overflow_add-base-in-loop-next-2 c =
    let t = c.args.task in
    let x = c.loop-next in
    let s = turn_small t.cost t.blocked t.period t.deadline c.args.above.loads.now t.in_limits x.base x.finish x.longest x.next
    x.invariant in
    record {
      fits = omega (arith, s, t.in_limits.cost_period, t.in_limits.period_max, c.jobs_behind-jobs.ensures.fits);
    }

-- the last of them is released before the most ticks have passed
released : (cost period : ℕ) (ls : List Load) (finish next jobs : ℕ) → Stretch cost period ls finish next jobs
    → next ≤ max_ticks + period → next + jobs * period ≤ max_ticks + period
released cost period ls finish next zero s h = omega arith
released cost period ls finish next (suc k) s h = omega (arith, s.goes_on k (omega arith), s.fits)

pub overflow_add-next-in-loop-next-2 : goal.overflow_add-next-in-loop-next-2
overflow_add-next-in-loop-next-2 c =
    let t = c.args.task in
    let x = c.loop-next in
    let s = turn_small t.cost t.blocked t.period t.deadline c.args.above.loads.now t.in_limits x.base x.finish x.longest x.next
    x.invariant in
    let early : x.next + t.period ≤ max_ticks + t.period = omega (arith, s, c.loop-next-test.true) in
    record {
      fits = omega (
        arith,
        released t.cost t.period c.args.above.loads.now c.in_ok-finish.finish (x.next + t.period) c.jobs_behind-jobs.result
            c.jobs_behind-jobs.ensures early,
        t.in_limits.period_max,
      );
    }

pub loop-next-smaller : goal.loop-next-smaller
loop-next-smaller c =
    let t = c.args.task in
    let x = c.loop-next in
    let ls = c.args.above.loads.now in
    let f = further t.cost t.blocked t.period t.deadline ls t.in_limits x.base x.finish x.longest x.next
    x.invariant (omega (arith, c.loop-next-test.true)) c.limit_for-limit.result c.limit_for-limit.ensures.limit
    c.in_ok-finish.finish c.in_ok-finish.ensures in
    omega (arith, f.0, c.jobs_behind-jobs.ensures.fits)

pub loop-next-preserved : goal.loop-next-preserved
loop-next-preserved c =
    let t = c.args.task in
    let x = c.loop-next in
    let ls = c.args.above.loads.now in
    let b = behind t.cost t.blocked t.period t.deadline ls t.in_limits x.base x.finish x.longest x.next
    x.invariant (omega (arith, c.loop-next-test.true)) c.limit_for-limit.result c.limit_for-limit.ensures.limit
    c.in_ok-finish.finish c.in_ok-finish.ensures in (
      suc x.invariant.0 + c.jobs_behind-jobs.result,
      rw c.larger-longest.ensures
          (stretch t.cost t.blocked t.period t.deadline ls t.in_limits (suc x.invariant.0) _ _ _ _ b c.jobs_behind-jobs.result
          c.jobs_behind-jobs.ensures),
    )

pub returns : goal.returns
returns c =
    let t = c.args.task in
    let x = c.loop-next in
    let b = x.invariant.1 in
    some_found x.longest b.most_some
    ∙ ap found (last_job t.cost t.blocked t.period t.deadline c.args.above.loads.now t.in_limits x.invariant.0 x.base x.finish
    x.longest x.next b (omega (arith, c.loop-next-test.false)))
