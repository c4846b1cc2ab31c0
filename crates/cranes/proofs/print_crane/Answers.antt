-- The text that is printed is the answer's, which stands in the buffer as `printed` leaves it.
use Rattle.std.proofs.Common.{◌≡◌, length, rules}
use Rattle.text.proofs.Puts.{wrote_counts}
use Rattle.plans.proofs.Outcomes.{prints}
use Rattle.crane_demands.specs.Calls.{craned, crane_room}
use Rattle.cranes.proofs.print_crane.Goals as goal

pub returns : goal.returns
returns c =
    let room : length c.args.out.now ≡ crane_room = search rules in
    record {
      wrote = prints (craned c.args.text.now crane_room) (rw room at c.write_crane-crane.ensures.answer) c.printed.ensures;
      prefix_len = wrote_counts c.printed.ensures;
    }
