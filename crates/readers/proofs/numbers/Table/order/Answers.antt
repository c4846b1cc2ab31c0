-- The numbers behind those of the rows.
use mathlib.Core.Path.{sym, ap, subst, ◌∙◌}
use Prim.Native.Nat.{◌+◌}
use Rattle.std.proofs.lemmas.Slice.{between_is}
use Rattle.rows.specs.inside.Arrays.{ranking}
use Rattle.rows.specs.inside.Numbers.{TaskNumbers}
use Rattle.readers.specs.inside.Numbers.{row_start}
use Rattle.readers.proofs.numbers.Table.order.Goals as goal

pub order_from-requires-clause-task_numbers : goal.order_from-requires-clause-task_numbers
order_from-requires-clause-task_numbers c =
    let a = c.args in
    let start = row_start a.self.count in
    subst TaskNumbers (sym (between_is a.self.numbers.now start (start + a.self.count))) c.requires.task_numbers

pub returns : goal.returns
returns c =
    let a = c.args in
    let start = row_start a.self.count in
    c.order_from.ensures ∙ ap ranking (between_is a.self.numbers.now start (start + a.self.count))
