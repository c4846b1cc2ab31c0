-- More than 32 pieces are refused before any is planned; else all answers stand in the call's own buffer, and are copied
-- where they fit the caller's.
use Rattle.std.proofs.Common.{List, ℕ, Result, length, refl, ap, subst, ◌∙◌}
use Rattle.text.proofs.Puts.{wrote_front}
use Rattle.plans.specs.declared.Refusal.{Refusal}
use Rattle.plans.specs.Outcomes.{Outcome, fitted, Written}
use Rattle.plans.proofs.Outcomes.{refused}
use Rattle.crane_demands.specs.Calls.{craned}
use Rattle.crane_demands.specs.Demands.{CraneSays}
use Rattle.crane_demands.proofs.Demands.{ten_is, crane_demands, decided}
use Rattle.cranes.proofs.Answers.{fitted_is}
use Rattle.cranes.proofs.write_crane.Goals as goal

-- what is promised beside the answer holds of every text
says : (text : List ℕ) {o o' : List ℕ} {r : Result ℕ Refusal} → Written (craned text (length o)) o o' r
    → CraneSays text o o' r
says text {o} w = record { answer = w; demands = crane_demands text (length o); no_other = decided text (length o) }

pub returns-in_default : goal.returns-in_default
returns-in_default c =
    says c.args.text.now (refused (ten_is c.args.text.now (length c.args.out.now) c.in_default.ensures) (refl, refl))

pub returns : goal.returns
returns c =
    let text = c.args.text.now in
    let room = length c.args.out.now in
    let p = c.put_whole in
    let is = ap (fitted room) (wrote_front c.put_answers-long.ensures) ∙ fitted_is text room c.in-Some.ensures.2.few in
    says text (subst (λ (x : Outcome). Written x c.args.out.now p.new.out p.result) is p.ensures)
