use Rattle.std.proofs.Common.{add-one, arith}
use Rattle.text.proofs.Puts.{wrote_front}
use Rattle.cranes.proofs.Answers.{print_first, to_is, to_in, part_is, answer_fits, print_next, print_ends}
use Rattle.cranes.proofs.put_answers.Goals as goal

pub loop-to-init : goal.loop-to-init
loop-to-init c = print_first _ _ _ c.requires.ends_given c.requires.room_in_bounds

pub slice_bounds-print_plan-count : goal.slice_bounds-print_plan-count
slice_bounds-print_plan-count c =
    omega (arith, to_is c.loop-to.invariant c.requires.ends_given c.loop-to-test.true)

pub slice_bounds-print_plan-start : goal.slice_bounds-print_plan-start
slice_bounds-print_plan-start c =
    omega (arith, to_is c.loop-to.invariant c.requires.ends_given c.loop-to-test.true)

pub slice_bounds-print_plan-end : goal.slice_bounds-print_plan-end
slice_bounds-print_plan-end c = to_in c.loop-to.invariant c.requires.ends_given c.loop-to-test.true

pub put_bytes-at-requires : goal.put_bytes-at-requires
put_bytes-at-requires c =
    let more = c.loop-to-test.true in
    let printed = rw (part_is c.loop-to.invariant c.requires.ends_given more) at c.print_plan-long.ensures.wrote in
    rw (wrote_front printed) (answer_fits c.loop-to.invariant c.requires.ends_given more)

pub loop-to-preserved : goal.loop-to-preserved
loop-to-preserved c =
    let more = c.loop-to-test.true in
    let printed = rw (part_is c.loop-to.invariant c.requires.ends_given more) at c.print_plan-long.ensures.wrote in
    rw (add-one c.loop-to.to-index)
    (print_next c.loop-to.invariant c.requires.ends_given more (rw (wrote_front printed) at c.put_bytes-at.ensures))

pub returns : goal.returns
returns c = print_ends c.loop-to.invariant c.requires.ends_given (omega arith)
