use mathlib.Core.Path.{◌≡◌}
use native.Mathlib.Omega.{arith}
use lib.ListN.{length}
use borrow.Author.Rules.{rules}
use Rattle.watch_runs.proofs.Merging.{merging_starts, merging_on, merging_ends}
use Rattle.watch_runs.proofs.owners.fill_owners.Goals as goal

pub loop-owner-init : goal.loop-owner-init
loop-owner-init c =
    let many : length c.loop-j.nexts ≡ length c.args.ranks.now = search rules in
    merging_starts _ c.requires many (λ j l. c.loop-j.invariant j (omega (arith, many)))

pub loop-owner-preserved : goal.loop-owner-preserved
loop-owner-preserved c = merging_on _ c.requires c.loop-owner.invariant (omega arith) c.earliest-r.ensures

pub returns : goal.returns
returns c = merging_ends _ c.loop-owner.invariant (omega arith)
