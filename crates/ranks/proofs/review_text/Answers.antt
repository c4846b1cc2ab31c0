-- The rows of an accepted text's rank lines are planned, or the first late one of them is refused. The demands hold of
-- every text.
use Rattle.std.proofs.Common.{List, ℕ, Result, length, subst}
use Rattle.std.proofs.lemmas.Result.{err_from_is_err_and}
use Rattle.plans.specs.declared.Refusal.{Refusal}
use Rattle.plans.specs.Outcomes.{Outcome, Written}
use Rattle.demands.specs.Calls.{reviewed}
use Rattle.demands.specs.Demands.{ReviewSays}
use Rattle.demands.proofs.Reviewer.{review_demands, decided}
use Rattle.ranks.proofs.Readings.{turned_down}
use Rattle.ranks.proofs.Given.{ranks_small, given_plan}
use Rattle.ranks.proofs.review_text.Goals as goal

says : (text : List ℕ) {o o' : List ℕ} {r : Result ℕ Refusal} → Written (reviewed text (length o)) o o' r
    → ReviewSays text o o' r
says text {o} w = record { answer = w; demands = review_demands text (length o); no_other = decided text (length o) }

pub returns-in_err-count : goal.returns-in_err-count
returns-in_err-count c =
    let p = err_from_is_err_and c.from_residual.result c.from_residual.ensures.1 in
    rw (p.1, p.2) (says c.args.text.now (turned_down c.in_err-count.ensures.answer _))

pub order-requires-clause-task_numbers : goal.order-requires-clause-task_numbers
order-requires-clause-task_numbers c = ranks_small c.in_ok-count.ensures.answer

pub returns : goal.returns
returns c =
    let p = c.plan_tasks in
    let is = given_plan c.in_ok-count.ensures.answer c.rows.result.now c.rows.ensures.table c.order.ensures
    (length c.args.out.now) in
    says c.args.text.now (subst (λ (x : Outcome). Written x c.args.out.now p.new.out p.result) is (rw c.board.ensures at p.ensures))
