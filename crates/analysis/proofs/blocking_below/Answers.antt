-- Where nothing blocks from the first row on, nothing does behind it.
use Rattle.std.proofs.Common.{sym, ap, ◌∙◌}
use Rattle.rows.specs.inside.LentOrders.{rows_in_order}
use Rattle.responses.specs.Figures.{blocking}
use Rattle.analysis.proofs.Holds.{none_behind}
use Rattle.analysis.proofs.blocking_below.Goals as goal

pub returns-then-blocked-eq0 : goal.returns-then-blocked-eq0
returns-then-blocked-eq0 c =
    sym (none_behind (rows_in_order c.args.order) c.requires.some_row
    (sym c.requires.blocked_value ∙ c.if-blocked-eq0.true))

pub returns : goal.returns
returns c = c.blocking_from.ensures ∙ ap blocking c.behind.ensures
