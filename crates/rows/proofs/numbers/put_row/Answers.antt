-- `rows::numbers::put_row` meets its contract: the numbers of a row are written, or nothing.
use native.Mathlib.Omega.{arith}
use mathlib.Core.Path.{◌∙◌}
use borrow.Author.Rules.{rules}
use Rattle.std.proofs.lemmas.List.{places}
use Rattle.rows.proofs.Putting.{row_put}
use Rattle.rows.proofs.numbers.put_row.Goals as goal

pub returns-then-i-lt-MAX_TASKS : goal.returns-then-i-lt-MAX_TASKS
returns-then-i-lt-MAX_TASKS c =
    let a = c.args in
    let is = c.copy_from_slice.ensures.after ∙ c.record_numbers.ensures in
    row_put a.numbers.now a.i _ _ (omega (arith, c.if-i-lt-MAX_TASKS.true, c.fits-numbers)) (omega arith)
    (c.copy_from_slice.ensures.len ∙ search (rules, places)) a.row.now is
