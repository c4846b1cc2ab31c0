use Rattle.std.proofs.Common.{add-one, arith}
use Rattle.cranes.proofs.Ends.{cut_many, cut_next, cut_ends}
use Rattle.cranes.proofs.cut.Goals as goal

pub returns-then-text-at : goal.returns-then-text-at
returns-then-text-at c =
    rw (add-one c.loop-i.i)
    (cut_ends c.loop-i.invariant (omega arith) c.piece_end-at.ensures c.if-text-at.true)

pub loop-i-preserved : goal.loop-i-preserved
loop-i-preserved c =
    rw (add-one c.loop-i.i) (cut_next c.loop-i.invariant (omega arith) c.piece_end-at.ensures c.if-text-at.false)

pub returns : goal.returns
returns c = cut_many c.loop-i.invariant (omega arith)
