-- `rows::numbers::put_rows` meets its contract. Invariant: the rows passed that have room are among the numbers.
use Rattle.rows.specs.inside.Records.{as_rows}
use Rattle.rows.proofs.Putting.{Passed}
use Rattle.rows.proofs.numbers.put_rows.Given as goal

abbrev pub invariant-loop-i : goal.invariant-loop-i
invariant-loop-i l = Passed (as_rows l.rows) l.initial.numbers l.i l.numbers
