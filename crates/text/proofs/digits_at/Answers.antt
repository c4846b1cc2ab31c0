use Rattle.std.proofs.Common.{◌-◌, get_or, add-one, arith}
use Rattle.text.proofs.Fronts.{passed_next}
use Rattle.text.proofs.digits_at.Goals as goal

pub loop-i-preserved : goal.loop-i-preserved
loop-i-preserved c =
    rw (add-one c.loop-i.i)
    (passed_next c.loop-i.invariant (get_or c.args.s.now c.loop-i.i 0 - 48) _ (omega arith) (omega arith)
    (omega arith) (λ h. omega arith))
