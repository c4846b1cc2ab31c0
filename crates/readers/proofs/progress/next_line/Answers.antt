-- `readers::progress::next_line` meets its contract: the line's answer is the step of the text's reading.
use mathlib.Core.Path.{ap, ◌∙◌}
use native.Mathlib.Omega.{arith}
use Rattle.readers.specs.inside.Stands.{stand_after}
use Rattle.readers.proofs.Steps.{takes_none, number_room, takes_number, line_small}
use Rattle.readers.proofs.progress.next_line.Goals as goal

pub returns-in-Err : goal.returns-in-Err
returns-in-Err c =
    let e = c.cursor.ensures in
    takes_none c.args.before c.args.text.now _ c.requires.stands _ (rw (e.text, e.offset, e.line) at c.in-Err.ensures)

pub put-requires-clause-room : goal.put-requires-clause-room
put-requires-clause-room c =
    let e = c.cursor.ensures in
    rw c.ends_row-last.ensures
    (number_room c.args.before c.args.text.now _ c.requires.stands _ (rw (e.text, e.offset, e.line) at c.in-Ok.ensures))

pub overflow_add-result : goal.overflow_add-result
overflow_add-result c =
    let a = c.args in
    let small = line_small a.text.now a.before.offset a.before.stand a.before.line a.numbers.now c.requires.stands in
    record { fits = omega (arith, small) }

pub returns : goal.returns
returns c =
    let s = c.args.before.stand in
    let e = c.cursor.ensures in
    let last = c.ends_row-last.ensures in
    takes_number c.args.before c.args.text.now _ c.requires.stands _ (rw (e.text, e.offset, e.line) at c.in-Ok.ensures)
    c.after.result (c.after.ensures ∙ ap (λ b. stand_after s.part b s c.in-Ok.number.value) last)
    c.put.new.numbers (rw last at c.put.ensures)
