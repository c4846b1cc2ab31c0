-- A hold is tried before the table's reader takes its line.
use mathlib.Core.Path.{sym, ◌∙◌}
use Rattle.std.proofs.lemmas.Result.{err_from_is_err_and}
use Rattle.watches.proofs.Fronts.{takes_own, takes_no_hold, refuses_hold}
use Rattle.watches.proofs.front.take_unheld.Goals as goal
use Rattle.watches.proofs.front.take_unheld.Goals.{then-at_hold+in_ok-line_at, else-at_hold}

pub returns-in_err-line_at : goal.returns-in_err-line_at
returns-in_err-line_at c =
    let p = err_from_is_err_and c.from_residual.result c.from_residual.ensures.1 in
    let e = c.cursor.ensures in
    rw (p.1, p.2)
    (refuses_hold c.args.text.now c.args.before c.args.numbers.now c.requires.on_front c.requires.before_end
    (sym c.at_hold.ensures ∙ c.if-at_hold.true) c.in_err-line_at.field-0.0
    (rw (e.text, e.offset, e.line) at c.in_err-line_at.ensures))

pub returns : goal.returns
returns c =
    let a = c.args in
    let t = c.next_line in
    let is = sym c.at_hold.ensures in
    elim c.if-at_hold.branch [
      | then-at_hold+in_ok-line_at w ↦ takes_no_hold a.text.now a.before a.numbers.now c.requires.on_front
          c.requires.before_end t.result t.new.numbers t.ensures (is ∙ w.if-at_hold.true) w.in_ok-line_at.field-0
          (rw (w.cursor.ensures.text, w.cursor.ensures.offset, w.cursor.ensures.line) at w.in_ok-line_at.ensures)
      | else-at_hold w ↦ takes_own a.text.now a.before a.numbers.now c.requires.on_front
          c.requires.before_end t.result t.new.numbers t.ensures (is ∙ w.if-at_hold.false)
    ]
