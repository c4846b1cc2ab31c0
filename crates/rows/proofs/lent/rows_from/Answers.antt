-- The first numbers, cut by the length of a row.
use Rattle.std.proofs.Common.{◌*◌, arith, ap, ◌∙◌, length-take-le}
use Rattle.rows.specs.inside.Numbers.{field_count}
use Rattle.rows.specs.inside.Lent.{table_of}
use Rattle.rows.proofs.LentRows.{chunks_are}
use Rattle.rows.proofs.lent.rows_from.Goals as goal

pub returns-clause-table : goal.returns-clause-table
returns-clause-table c =
    let a = c.args in
    let long = length-take-le (field_count * a.n) a.numbers.now c.requires in
    ap table_of c.as_chunks.ensures.front ∙ chunks_are a.n _ a.numbers.now (omega (arith, long)) c.requires
