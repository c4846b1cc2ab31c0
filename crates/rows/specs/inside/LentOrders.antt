-- A promise between functions: the rows of an order that is lent.
use Rattle.std.specs.Prelude.{List}
use Rattle.rows.specs.Rows.{Row}
use Rattle.rows.specs.inside.Lent.{lent_rows}
use Rattle.rows.specs.declared.lent_order.LentOrder.{LentOrder}

-- its rows, the highest rank first
abbrev pub rows_in_order : LentOrder → List Row
rows_in_order order = lent_rows order.rows.now order.positions.now
