use Rattle.std.proofs.Common.{arith}
use Rattle.search.proofs.LentRows.{few_rows, sets_held}
use Rattle.search.proofs.choose_long.Goals as goal

pub order_within-requires-clause-sets_held : goal.order_within-requires-clause-sets_held
order_within-requires-clause-sets_held c = sets_held c.if-n-le-MORE_TASKS.true (omega arith)

pub order_within-requires-then-n-le-MANY_TASKS-clause-sets_held :
    goal.order_within-requires-then-n-le-MANY_TASKS-clause-sets_held
order_within-requires-then-n-le-MANY_TASKS-clause-sets_held c = sets_held c.if-n-le-MANY_TASKS.true (omega arith)

pub order_within-requires-2-clause-sets_held : goal.order_within-requires-2-clause-sets_held
order_within-requires-2-clause-sets_held c = sets_held (few_rows c.requires) (omega arith)
