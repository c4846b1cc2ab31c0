-- Invariant: `Printing`, the pieces left and the answers put so far.
use Rattle.cranes.proofs.Answers.{Printing}
use Rattle.cranes.proofs.put_answers.Given as goal

abbrev pub invariant-loop-to : goal.invariant-loop-to
invariant-loop-to l = Printing l.text l.ends l.initial.out l.out l.at l.from l.to-index
