use borrow.Author.Rules.{rules}
use Rattle.std.proofs.lemmas.Result.{err_from_is_err_and}
use Rattle.watches.proofs.Fronts.{front_begins, front_turn, front_stop, front_read}
use Rattle.watches.proofs.front.read_front.Goals as goal

pub loop-p-init : goal.loop-p-init
loop-p-init c = rw c.start-p.ensures (front_begins _ _ c.requires)

pub returns-in_err-p : goal.returns-in_err-p
returns-in_err-p c =
    let p = err_from_is_err_and c.from_residual.result c.from_residual.ensures.1 in
    rw (p.1, p.2) (front_stop c.args.text.now c.loop-p.invariant _ c.take_unheld.new.numbers c.in_err-p.ensures)

pub loop-p-smaller : goal.loop-p-smaller
loop-p-smaller c =
    (front_turn c.args.text.now c.loop-p.invariant c.in_ok-p.p c.take_unheld.new.numbers c.in_ok-p.ensures).1

pub loop-p-preserved : goal.loop-p-preserved
loop-p-preserved c =
    (front_turn c.args.text.now c.loop-p.invariant c.in_ok-p.p c.take_unheld.new.numbers c.in_ok-p.ensures).0

pub returns : goal.returns
returns c = front_read c.args.text.now c.loop-p.invariant (search rules)
