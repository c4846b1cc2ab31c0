-- `read_table` meets its contract: a line that is refused refuses the text, and behind the last nothing is expected.
use Rattle.std.proofs.Common.{rules}
use Rattle.std.proofs.lemmas.Result.{err_from_is_err_and}
use Rattle.readers.proofs.Turns.{turn, stop}
use Rattle.readers.proofs.Tables.{as_refused, whole, more_behind}
use Rattle.readers.proofs.read_table.Goals as goal

pub returns-in-Err : goal.returns-in-Err
returns-in-Err c =
    let a = c.args in
    as_refused a.ranked a.text.now _
    (stop a.ranked a.text.now c.loop-at.invariant _ c.next_line.new.numbers c.in-Err.ensures) _

pub loop-at-smaller : goal.loop-at-smaller
loop-at-smaller c =
    (turn c.args.ranked c.args.text.now c.loop-at.invariant _ c.next_line.new.numbers c.in-Ok.ensures).1

pub loop-at-preserved : goal.loop-at-preserved
loop-at-preserved c =
    (turn c.args.ranked c.args.text.now c.loop-at.invariant _ c.next_line.new.numbers c.in-Ok.ensures).0

pub returns-in_err-end_at : goal.returns-in_err-end_at
returns-in_err-end_at c =
    let a = c.args in
    let e = c.cursor.ensures in
    let p = err_from_is_err_and c.from_residual.result c.from_residual.ensures.1 in
    rw (p.1, p.2)
    (more_behind a.ranked a.text.now c.loop-at.invariant (search rules) _
    (rw (e.text, e.offset, e.line) at c.in_err-end_at.ensures))

pub returns : goal.returns
returns c =
    let e = c.cursor.ensures in
    whole c.args.ranked c.args.text.now c.loop-at.invariant (search rules)
    (rw (e.text, e.offset, e.line) at c.in_ok-end_at.ensures)
