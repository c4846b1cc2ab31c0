-- The largest hold of the rows outside a set: a row that is taken out of the set is one of them, and outside the whole
-- table there is none.
use mathlib.Core.Path.{◌≡◌, refl, ap, ◌∙◌}
use mathlib.Core.List.{List}
use Prim.Native.Nat.{ℕ, ◌-◌, ◌/◌, ◌%◌, ◌^◌, ◌<◌}
use lib.ListN.{length}
use Rattle.basics.specs.Basics.{larger}
use Rattle.basics.proofs.Numbers.{larger_swap}
use Rattle.rows.specs.Rows.{row_at}
use Rattle.rows.specs.Rows.{Row}
use Rattle.responses.specs.Figures.{largest_hold}
use Rattle.orders.specs.Orders.{Taken, here, later}
use Rattle.search.specs.inside.Sets.{others}
use Rattle.search.proofs.Sets.{less_row, taken_at, no_others}

-- a row counts wherever it stands
taken_hold : {r : Row} {rs rest : List Row} → Taken r rs rest → largest_hold rs ≡ larger r.hold (largest_hold rest)
taken_hold here = refl
taken_hold (later {r = r} {x = x} {rest = rest} t) =
    ap (larger x.hold) (taken_hold t) ∙ larger_swap x.hold r.hold (largest_hold rest)

pub outside_more : (table : List Row) (m i : ℕ) → i < length table → m / 2 ^ i % 2 ≡ 1
    → largest_hold (others (m - 2 ^ i) table) ≡ larger (row_at table i).hold (largest_hold (others m table))
outside_more table m i l h = taken_hold (taken_at 0 table i (m - 2 ^ i) m l (less_row i m h).1)

pub outside_none : (table : List Row) → largest_hold (others (2 ^ length table - 1) table) ≡ 0
outside_none table = ap largest_hold (no_others table)
