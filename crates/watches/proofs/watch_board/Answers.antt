-- A text that is refused in its table is the call's refusal; what follows the table comes to the outcome.
use mathlib.Core.List.{List}
use Prim.Native.Nat.{ℕ}
use lib.ListN.{length}
use Rattle.std.specs.Prelude.{Result}
use Rattle.std.proofs.lemmas.Result.{err_from_is_err_and}
use Rattle.plans.specs.declared.Refusal.{Refusal}
use Rattle.plans.specs.Outcomes.{Written}
use Rattle.watch_demands.specs.Calls.{watched}
use Rattle.watch_demands.specs.Demands.{WatchSays}
use Rattle.watch_demands.proofs.Demands.{watch_demands, decided_by}
use Rattle.watches.proofs.Stages.{refused_text}
use Rattle.watches.proofs.watch_board.Goals as goal

-- with the demands, which hold of every text
says : (text o o' : List ℕ) (r : Result ℕ Refusal) → Written (watched text (length o)) o o' r → WatchSays text o o' r
says text o o' r w =
    record { answer = w; demands = watch_demands text (length o); no_other = decided_by text (length o) }

pub returns-in_err-front : goal.returns-in_err-front
returns-in_err-front c =
    let p = err_from_is_err_and c.from_residual.result c.from_residual.ensures.1 in
    rw (p.1, p.2)
    (says c.args.text.now c.args.out.now _ _ (refused_text c.args.text.now c.args.out.now _ c.in_err-front.ensures))

pub returns : goal.returns
returns c = says c.args.text.now c.args.out.now _ _ c.watch_table.ensures
