-- Invariant: the bytes passed are digits, and the value is their number where it has room.
use Rattle.text.specs.inside.Fronts.{Passed}
use Rattle.text.proofs.digits_at.Given as goal

abbrev pub invariant-loop-i : goal.invariant-loop-i
invariant-loop-i l = Passed l.s l.i l.value
