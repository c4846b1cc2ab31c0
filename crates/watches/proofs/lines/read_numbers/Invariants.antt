-- `read_numbers`. Invariant: the numbers so far are those of the lines before the one that is tried (`Reading`).
use Rattle.watches.specs.inside.Lines.{low_of, high_of}
use Rattle.watches.proofs.Numbers.{Reading}
use Rattle.watches.proofs.lines.read_numbers.Given as goal

abbrev pub invariant-loop-m : goal.invariant-loop-m
invariant-loop-m l =
    let x = l.lines in
    Reading l.from.text.now x.key.now (low_of x.ranges.now x.owners.now) (high_of x.ranges.now x.owners.now)
    l.from.offset l.from.line l.numbers l.at l.m
