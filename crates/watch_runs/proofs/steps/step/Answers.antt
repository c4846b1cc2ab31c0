-- `step` is a tick of the board: nobody is due, or the first rank that is due works on, or ends its job.
use native.Mathlib.Omega.{arith}
use Rattle.watch_runs.proofs.Ticks.{idles, works, ends, slots_with, next_in}
use Rattle.watch_runs.proofs.steps.step.Goals as goal

pub returns-in_err-rank : goal.returns-in_err-rank
returns-in_err-rank c = rw c.from_residual.ensures record {
  follows = λ order offset qs s shown. idles s shown c.requires.as_many c.in_err-rank.ensures;
  rank_in = tt;
  slots_in = c.requires.slots_in;
}

pub returns-then-job-gt1 : goal.returns-then-job-gt1
returns-then-job-gt1 c =
    let k = c.requires in
    let due = c.in_ok-rank.ensures in
    record {
      follows = λ order offset qs s shown. works s shown k.as_many due c.if-job-gt1.true;
      rank_in = tt;
      slots_in = slots_with _ _ _ _ due.within k.slots_in (k.slots_in _ due.within);
    }

pub returns : goal.returns
returns c =
    let k = c.requires in
    let due = c.in_ok-rank.ensures in
    let next = c.next_slot-slot.ensures in
    record {
      follows = λ order offset qs s shown.
          ends s shown k.as_many due c.if-job-gt1.false c.next_slot-slot.result next c.length_at-job.ensures;
      rank_in = omega (arith, due.within, k.as_many);
      slots_in = slots_with _ _ _ _ due.within k.slots_in (next_in _ _ _ _ next);
    }
