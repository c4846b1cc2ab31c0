-- The invariant: the search stands behind some job of the busy interval (`Behind`).
use Rattle.std.proofs.Common.{ℕ, ◌-◌}
use Rattle.rows.specs.Rows.{max_ticks}
use Rattle.busy_intervals.proofs.Jobs.{Behind}
use Rattle.busy_intervals.proofs.latest_from.Given as goal

abbrev pub invariant-loop-next : goal.invariant-loop-next
invariant-loop-next l =
    let t = l.task in
    (q : ℕ) × Behind t.cost t.blocked t.period t.deadline l.above.loads.now q l.base l.finish l.longest l.next

abbrev pub decreases-loop-next : goal.decreases-loop-next
decreases-loop-next l = max_ticks - l.finish
