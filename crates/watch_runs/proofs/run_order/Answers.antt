-- `run_order`: the first run measures the text, the second writes it where it fits.
use mathlib.Core.Path.{refl}
use native.Mathlib.Omega.{arith}
use lib.ListN.{length}
use Rattle.plans.proofs.Outcomes.{fits, fits_not, refused}
use Rattle.watch_demands.specs.Runs.{jobs_text}
use Rattle.watch_runs.proofs.run_order.Goals as goal

pub returns-then-out-long : goal.returns-then-out-long
returns-then-out-long c order offset d =
    let long = (c.run-long.ensures.wrote order offset d).long_is in
    let text = jobs_text order offset c.args.board.now.lengths.now c.args.ticks in
    refused (fits_not (length c.args.out.now) text (omega (arith, long, c.if-out-long.true))) (refl, refl)

pub returns : goal.returns
returns c order offset d =
    let long = (c.run-long.ensures.wrote order offset d).long_is in
    let second = c.run.ensures.wrote order offset d in
    let left = c.if-out-long.false in
    let text = jobs_text order offset c.args.board.now.lengths.now c.args.ticks in
    let w = second.fits (omega (arith, long, second.long_is, left)) in
    rw (fits (length c.args.out.now) text (omega (arith, long, left))) record { returns = long; holds = w.holds }
