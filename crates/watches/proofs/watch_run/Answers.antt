-- An order with a late rank is refused with it; any other is run.
use mathlib.Core.Path.{refl, sym, ap, subst}
use native.Mathlib.Omega.{arith}
use lib.ListN.{length}
use Rattle.plans.specs.Outcomes.{Outcome, Written}
use Rattle.plans.proofs.Outcomes.{refused}
use Rattle.watches.proofs.Laid.{startable, describes, late_outcome, timely_outcome}
use Rattle.watches.proofs.watch_run.Goals as goal

pub late_rank-requires : goal.late_rank-requires
late_rank-requires c = let l = c.requires.laid.laid in omega (arith, l.few, ap length l.order_is)

pub returns-in-Some : goal.returns-in-Some
returns-in-Some c front releases l owned many =
    refused
    (late_outcome l (length c.args.out.now) c.args.board.now.lengths.now c.args.ticks c.in-Some.rank c.in-Some.ensures)
    (refl, refl)

pub run_order-requires : goal.run_order-requires
run_order-requires c = startable c.requires.laid.laid _ c.requires.ranks c.args.ticks c.requires.few_ticks

pub returns : goal.returns
returns c front releases l owned many =
    let r = c.run_order in
    let is = timely_outcome l (length c.args.out.now) c.args.board.now.lengths.now c.args.ticks c.in_default.ensures in
    subst (λ (w : Outcome). Written w c.args.out.now r.new.out r.result) (sym is)
    (r.ensures _ _ (describes l _ c.requires.ranks owned many))
