-- By whether the text fits.
use Rattle.std.proofs.Common.{refl, length}
use Rattle.plans.proofs.Outcomes.{fits, fits_not, refused}
use Rattle.plan_orders.proofs.put_whole.Goals as goal

pub returns-then-out-text : goal.returns-then-out-text
returns-then-out-text c = refused (fits_not (length c.args.out.now) c.args.text.now c.if-out-text.true) (refl, refl)

pub returns : goal.returns
returns c =
    rw (fits (length c.args.out.now) c.args.text.now c.if-out-text.false)
    record { returns = c.put_bytes.ensures.long_is; holds = c.put_bytes.ensures.holds }
