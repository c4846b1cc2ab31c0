-- The rows of an accepted table are lent to the search; where it finds no order every order fails, and else the rows of
-- its order are planned, none of them late. The demands hold of every text.
use Rattle.std.proofs.Common.{List, ℕ, Result, length, subst}
use Rattle.std.proofs.lemmas.Result.{err_from_is_err_and}
use Rattle.plans.specs.declared.Refusal.{Refusal}
use Rattle.plans.specs.Outcomes.{Outcome, Written}
use Rattle.demands.specs.Calls.{planned}
use Rattle.demands.specs.Demands.{PlanSays}
use Rattle.demands.proofs.Planner.{plan_demands, decided}
use Rattle.ranks.proofs.Readings.{turned_down}
use Rattle.ranks.proofs.Found.{unordered, found_tasked, ordered_plan}
use Rattle.ranks.proofs.plan_text.Goals as goal

says : (text : List ℕ) {o o' : List ℕ} {r : Result ℕ Refusal} → Written (planned text (length o)) o o' r
    → PlanSays text o o' r
says text {o} w = record { answer = w; demands = plan_demands text (length o); no_other = decided text (length o) }

pub returns-in_err-count : goal.returns-in_err-count
returns-in_err-count c =
    let p = err_from_is_err_and c.from_residual.result c.from_residual.ensures.1 in
    rw (p.1, p.2) (says c.args.text.now (turned_down c.in_err-count.ensures.answer _))

pub returns-in_err-order : goal.returns-in_err-order
returns-in_err-order c =
    let r = c.from_residual-in_err-order in
    let p = err_from_is_err_and r.result r.ensures.1 in
    rw (p.1, p.2) (says c.args.text.now
    (unordered c.in_ok-count.ensures.answer c.rows-rows.result.now c.rows-rows.ensures.table c.choose.ensures c.in_err-order.ensures.value _))

pub plan_tasks-requires : goal.plan_tasks-requires
plan_tasks-requires c =
    found_tasked c.in_ok-count.ensures.answer c.rows-rows.result.now c.rows-rows.ensures.table c.choose.ensures c.in_ok-order.ensures.value

pub returns : goal.returns
returns c =
    let p = c.plan_tasks in
    let is = ordered_plan c.in_ok-count.ensures.answer c.rows-rows.result.now c.rows-rows.ensures.table c.choose.ensures
    c.in_ok-order.ensures.value (length c.args.out.now) in
    says c.args.text.now (subst (λ (x : Outcome). Written x c.args.out.now p.new.out p.result) is (rw c.board.ensures at p.ensures))
