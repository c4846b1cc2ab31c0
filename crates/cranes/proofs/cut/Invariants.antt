-- Invariant: `Cutting`, the ends of the pieces passed.
use Rattle.cranes.proofs.Ends.{Cutting}
use Rattle.cranes.proofs.cut.Given as goal

abbrev pub invariant-loop-i : goal.invariant-loop-i
invariant-loop-i l = Cutting l.text l.ends l.i l.at
