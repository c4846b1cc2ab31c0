-- A task that is shown by its period and its cost.
use Rattle.std.specs.Prelude.{Bool, ◌&&◌, leb}
use Rattle.rows.specs.Rows.{min_ticks, max_ticks}
use Rattle.responses.specs.declared.Load.{Load}

-- some ticks of cost fit the period, and the period its limit
abbrev pub in_range : Load → Bool
in_range t = leb min_ticks t.cost && leb t.cost t.period && leb t.period max_ticks
