use Rattle.std.proofs.Common.{arith}
use Rattle.search.proofs.LentRows.{sets_held}
use Rattle.search.proofs.choose.Goals as goal

pub order_within-requires-clause-sets_held : goal.order_within-requires-clause-sets_held
order_within-requires-clause-sets_held c = sets_held c.if-n-le-FEW_TASKS.true (omega arith)

pub order_within-requires-then-n-le-SOME_TASKS-clause-sets_held :
    goal.order_within-requires-then-n-le-SOME_TASKS-clause-sets_held
order_within-requires-then-n-le-SOME_TASKS-clause-sets_held c = sets_held c.if-n-le-SOME_TASKS.true (omega arith)
