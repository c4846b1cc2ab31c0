-- `read_table`. Invariant: the text reads as from the line at which the code stands (`Standing`). Measure: the bytes that
-- are left.
use Rattle.readers.proofs.Turns.{left_of, Standing}
use Rattle.readers.proofs.read_table.Given as goal

abbrev pub invariant-loop-at : goal.invariant-loop-at
invariant-loop-at l = Standing l.ranked l.text l.at l.numbers

abbrev pub decreases-loop-at : goal.decreases-loop-at
decreases-loop-at l = left_of l.ranked l.text l.at l.numbers
