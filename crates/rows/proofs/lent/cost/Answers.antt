-- The numbers at a row's worst and its switch are together what its jobs take at most.
use Rattle.std.proofs.Common.{◌≡◌, ℕ, List, ◌+◌, sym, ap, ◌∙◌, arith}
use lib.ListN.{get_or}
use Rattle.rows.specs.Rows as R
use Rattle.rows.specs.Rows.{worst_at, cost}
use Rattle.rows.specs.inside.Numbers.{switch_at, row_from}
use Rattle.rows.proofs.RowNumbers.{line_from}
use Rattle.rows.proofs.lent.cost.Goals as goal

cost_from : (ws : List ℕ) → cost (row_from ws) ≡ get_or ws worst_at 0 + get_or ws switch_at 0
unfolding R.cost
cost_from ws = ap (λ n. n + get_or ws switch_at 0) (line_from ws worst_at (omega arith))

pub full_cost-requires : goal.full_cost-requires
full_cost-requires c = omega (arith, cost_from c.args.row.now, c.requires)

pub returns : goal.returns
returns c = c.full_cost.ensures ∙ sym (cost_from c.args.row.now)
