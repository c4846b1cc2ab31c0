-- More points than the most are no curve.
use Rattle.std.proofs.Common.{sym, arith}
use lib.ListN.{get_or, drop}
use Rattle.curves.proofs.PointNumbers.{points_length}
use Rattle.rows.specs.Rows.{points_at, first_point_at}
use Rattle.rows.specs.inside.Numbers.{row_from, lines_from}
use Rattle.rows.proofs.RowNumbers.{line_from, too_many}
use Rattle.rows.proofs.lent.curve_keeps.Goals as goal

pub returns-then-row-gt-POINTS_MAX : goal.returns-then-row-gt-POINTS_MAX
returns-then-row-gt-POINTS_MAX c =
    let ws = c.args.row.now in
    let lines = lines_from ws in
    sym (too_many (row_from ws).curve (omega (
      arith,
      c.if-row-gt-POINTS_MAX.true,
      line_from ws points_at (omega arith),
      points_length (get_or lines points_at 0) (drop first_point_at lines),
    )))
