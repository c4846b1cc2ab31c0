-- `rows::numbers::row_numbers` meets its contract: the switch is left behind what is put before it.
use Rattle.std.proofs.Common.{ℕ, List, ◌++◌, ◌-◌, ◌*◌, length, ap, ap₂, ◌∙◌, arith}
use lib.ListN.{replicate}
use borrow.Rule.Slice.PartMut.{put_mid}
use Rattle.curves.specs.Curves.{max_points}
use Rattle.rows.specs.Rows.{first_point_at}
use Rattle.rows.specs.inside.Numbers.{field_count}
use Rattle.rows.proofs.Putting.{put_together}
use Rattle.rows.proofs.numbers.row_numbers.Goals as goal

pub returns : goal.returns
returns c =
    let a = c.args in
    ap₂ (λ (ls cs : List ℕ). put_mid first_point_at (2 * max_points) (ls ++ replicate (field_count - first_point_at) a.switch) cs)
    c.copy_from_slice.ensures.after c.copy_from_slice-2.ensures.after
    ∙ put_together a.lines a.curve.now a.switch
    (omega (arith, c.copy_from_slice.ensures.len, ap length c.copy_from_slice.ensures.after))
