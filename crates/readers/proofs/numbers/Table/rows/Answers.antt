-- The numbers behind the head's are those of the rows.
use mathlib.Core.Path.{ap, ◌∙◌}
use Rattle.text.proofs.Behind.{from_is}
use Rattle.rows.specs.inside.Numbers.{rows_of}
use Rattle.readers.specs.inside.Numbers.{head_count}
use Rattle.readers.proofs.numbers.Table.rows.Goals as goal

pub returns-clause-table : goal.returns-clause-table
returns-clause-table c =
    let t = c.args.self in
    c.rows_from.ensures.table ∙ ap (rows_of t.count) (from_is t.numbers.now head_count)
