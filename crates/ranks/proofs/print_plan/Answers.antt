-- The text that is printed is the answer's, which stands in the buffer as `printed` leaves it.
use Rattle.std.proofs.Common.{◌≡◌, length, rules}
use Rattle.text.proofs.Puts.{wrote_counts}
use Rattle.plans.specs.Plans.{plan_room}
use Rattle.plans.proofs.Outcomes.{prints}
use Rattle.demands.specs.Calls.{planned}
use Rattle.ranks.proofs.print_plan.Goals as goal

pub returns : goal.returns
returns c =
    let room : length c.args.out.now ≡ plan_room = search rules in
    record {
      wrote = prints (planned c.args.text.now plan_room) (rw room at c.write_plan-planned.ensures.answer) c.printed.ensures;
      prefix_len = wrote_counts c.printed.ensures;
    }
