use Rattle.std.proofs.Common.{arith, refl}
use Rattle.text.proofs.Decimals.{decimal_some}
use Rattle.text.proofs.Spelling.{putting_next, one_left, putting_ends}
use Rattle.text.proofs.writers.U64Written.put.Goals as goal

pub loop-i-init : goal.loop-i-init
loop-i-init c = record { same = refl; ends = c.places-long.ensures }

pub loop-i-preserved : goal.loop-i-preserved
loop-i-preserved c = putting_next c.loop-i.invariant c.loop-i-test.true (omega arith) c.digit.ensures

pub digit-requires-2 : goal.digit-requires-2
digit-requires-2 c = one_left c.loop-i.invariant c.loop-i-test.false

pub bounds-out-0 : goal.bounds-out-0
bounds-out-0 c = omega (arith, decimal_some c.args.self)

pub returns : goal.returns
returns c = record {
  long_is = c.places-long.ensures;
  holds =
      putting_ends c.loop-i.invariant c.loop-i-test.false (omega (arith, decimal_some c.args.self)) c.digit-2.ensures;
}
