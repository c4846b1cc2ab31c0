use Rattle.std.proofs.Common.{[], ◌-◌, sym, ap, ◌∙◌, arith}
use native.Mathlib.Numerals.{add-one}
use lib.ListN.{get_or}
use Rattle.rows.specs.Rows.{hold_at}
use Rattle.rows.proofs.RowNumbers.{line_from}
use Rattle.responses.proofs.Blocking.{blocking_is}
use Rattle.analysis.proofs.Holds.{largest_next, all_passed}
use Rattle.analysis.proofs.blocking_from.Goals as goal

pub loop-position-preserved : goal.loop-position-preserved
loop-position-preserved c =
    let order = c.args.order in
    let x = c.loop-position in
    let row = get_or order.rows.now (get_or order.positions.now x.position-index 0) [] in
    rw (add-one x.position-index, c.larger-largest.ensures)
    (largest_next order.rows.now order.positions.now x.position-index x.largest (get_or row hold_at 0)
    c.loop-position-test.true (sym (line_from row hold_at (omega arith))) x.invariant)

pub returns : goal.returns
returns c =
    let order = c.args.order in
    let x = c.loop-position in
    let all = all_passed order.rows.now order.positions.now x.position-index x.largest
    (omega (arith, c.loop-position-test.false)) x.invariant in
    c.blocking_time.ensures ∙ ap (λ h. h - 1) all ∙ sym (blocking_is _)
