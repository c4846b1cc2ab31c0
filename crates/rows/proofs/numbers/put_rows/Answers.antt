use native.Mathlib.Omega.{arith}
use lib.ListN.{length-map}
use Rattle.rows.specs.inside.Records.{as_row, as_rows}
use Rattle.rows.proofs.Putting.{next_passed, all_passed}
use Rattle.rows.proofs.numbers.put_rows.Goals as goal

pub loop-i-preserved : goal.loop-i-preserved
loop-i-preserved c =
    next_passed c.args.rows.now c.args.numbers.now c.loop-i.i c.loop-i.numbers c.put_row.new.numbers _
    c.loop-i-test.true c.loop-i.invariant c.put_row.ensures

pub returns : goal.returns
returns c =
    let rows = as_rows c.args.rows.now in
    all_passed rows c.args.numbers.now c.loop-i.i c.loop-i.numbers
    (omega (arith, c.loop-i-test.false, length-map c.args.rows.now as_row)) c.loop-i.invariant
