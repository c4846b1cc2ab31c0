-- The order chosen by stability, document 01's test of a row between the rows above it and those below it.
use Rattle.std.specs.Prelude.{Bool, List}
use Rattle.std.proofs.Math.Option.{Option}
use Rattle.rows.specs.Rows.{Row}
use Rattle.responses.specs.Figures.{is_stable}
use Rattle.orders.specs.Orders.{passes, order_of}

abbrev pub stable : Row → List Row → List Row → Bool
stable r above below = is_stable r above below

-- every row of an order is stable where it stands
abbrev pub order_stable : List Row → Bool
order_stable = passes stable

-- the order that a plan has
abbrev pub chosen_order : List Row → Option (List Row)
chosen_order = order_of stable
