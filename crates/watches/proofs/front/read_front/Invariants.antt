-- `read_front`. Invariant: the text reads as from the line at which the code stands (`Standing`). Measure: the bytes that
-- are left.
use Rattle.watches.proofs.Fronts.{Standing, left_of}
use Rattle.watches.proofs.front.read_front.Given as goal

abbrev pub invariant-loop-p : goal.invariant-loop-p
invariant-loop-p l = Standing l.text l.p l.numbers

abbrev pub decreases-loop-p : goal.decreases-loop-p
decreases-loop-p l = left_of l.text l.p l.numbers
