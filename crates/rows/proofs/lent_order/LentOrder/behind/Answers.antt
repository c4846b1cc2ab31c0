use Rattle.std.proofs.Common.{sym, ap, ◌∙◌}
use Rattle.std.proofs.lemmas.List.{drop-map}
use Rattle.rows.specs.inside.Lent.{lent_row, lent_rows}
use Rattle.rows.proofs.RowNumbers.{lent_from}
use Rattle.rows.proofs.lent_order.LentOrder.behind.Goals as goal

pub returns : goal.returns
returns c =
    let order = c.args.self in
    ap (lent_rows order.rows.now) (lent_from c.args.n order.positions.now)
    ∙ sym (drop-map (lent_row order.rows.now) c.args.n order.positions.now)
