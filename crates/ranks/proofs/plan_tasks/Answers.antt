-- The rows at the positions of the order's tasks are planned.
use Rattle.std.proofs.Common.{List, ℕ, ◌≤◌, length, take, ap, subst, arith}
use lib.ListN.{length-take}
use Rattle.plans.specs.Outcomes.{Outcome, if_in_time, Written}
use Rattle.ranks.proofs.Orders.{held, few_planned, planned_in_range, planned_rows}
use Rattle.ranks.proofs.plan_tasks.Goals as goal

-- as many places as tasks
as_many : (n : ℕ) (ps ts : List ℕ) → n ≤ length ts → length (take n ps) ≤ length (take n ts)
as_many n ps ts h = omega (arith, h, length-take n ps, length-take n ts)

pub invariant_of-lent : goal.invariant_of-lent
invariant_of-lent c =
    let a = c.args in
    let room = as_many a.order.count _ a.order.tasks (omega (arith, c.requires.few, c.requires.as_many)) in
    record { held = held a.rows.now c.requires _ room c.positions_for.ensures }

pub invariant_of-plan_order : goal.invariant_of-plan_order
invariant_of-plan_order c =
    let a = c.args in
    let room = as_many a.order.count _ a.order.tasks (omega (arith, c.requires.few, c.requires.as_many)) in
    let placed = c.positions_for.ensures in
    record {
      few = omega (arith, few_planned a.rows.now c.requires _ room placed);
      is_in_range = planned_in_range a.rows.now c.requires _ room placed;
    }

pub returns : goal.returns
returns c =
    let a = c.args in
    let o = c.plan_order in
    let room = as_many a.order.count _ a.order.tasks (omega (arith, c.requires.few, c.requires.as_many)) in
    let is = ap (if_in_time (length a.out.now) a.board) (planned_rows a.rows.now c.requires _ room c.positions_for.ensures) in
    subst (λ (x : Outcome). Written x a.out.now o.new.out o.result) is o.ensures
