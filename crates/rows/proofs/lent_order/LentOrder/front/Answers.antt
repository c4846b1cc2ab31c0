use Rattle.std.proofs.Common.{sym}
use Rattle.std.proofs.lemmas.List.{take-map}
use Rattle.rows.specs.inside.Lent.{lent_row}
use Rattle.rows.proofs.lent_order.LentOrder.front.Goals as goal

pub returns : goal.returns
returns c =
    let order = c.args.self in
    sym (take-map (lent_row order.rows.now) c.args.n order.positions.now)
