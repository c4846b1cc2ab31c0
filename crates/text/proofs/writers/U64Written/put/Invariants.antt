-- `put` puts a number's digits at the front, from the last to the first. The loop's invariant: once the rest's digits
-- are put too, all are, and the last of them belongs before i.
use Rattle.text.proofs.Spelling.{Putting}
use Rattle.text.proofs.writers.U64Written.put.Given as goal

abbrev pub invariant-loop-i : goal.invariant-loop-i
invariant-loop-i l = Putting l.self l.rest l.i l.initial.out l.out
