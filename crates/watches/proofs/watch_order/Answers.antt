-- The ticks and the number of lengths are read, and the lengths follow.
use Rattle.std.proofs.lemmas.Result.{err_from_is_err_and}
use Rattle.watches.proofs.Stages.{refused_text, ticks_refused, count_refused, at_lengths_then}
use Rattle.watches.proofs.watch_order.Goals as goal

pub returns-in_err-ticks : goal.returns-in_err-ticks
returns-in_err-ticks c =
    let p = err_from_is_err_and c.from_residual.result c.from_residual.ensures.1 in
    rw (p.1, p.2)
    (refused_text c.args.from.text.now c.args.out.now _ (ticks_refused c.requires _ c.in_err-ticks.ensures))

pub returns-in_err-count : goal.returns-in_err-count
returns-in_err-count c =
    let p = err_from_is_err_and c.from_residual-in_err-count.result c.from_residual-in_err-count.ensures.1 in
    rw (p.1, p.2)
    (refused_text c.args.from.text.now c.args.out.now _
    (count_refused c.requires _ c.in_ok-ticks.ensures _ c.in_err-count.ensures))

pub watch_lengths-requires : goal.watch_lengths-requires
watch_lengths-requires c = at_lengths_then c.requires _ c.in_ok-ticks.ensures _ c.in_ok-count.ensures
