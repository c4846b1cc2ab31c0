use Rattle.std.proofs.Common.{◌∙◌, rules}
use Rattle.std.proofs.lemmas.List.{length-map}
use Rattle.rows.specs.inside.Lent.{lent_row}
use Rattle.rows.specs.Rows.{times_in_range}
use Rattle.responses.specs.Figures.{worst_load, best_load}
use Rattle.analysis.proofs.Holds.{position_passes, loads_next}
use Rattle.analysis.proofs.fill_loads.Goals as goal

pub load_at_worst-requires : goal.load_at_worst-requires
load_at_worst-requires c =
    let order = c.args.order in
    position_passes times_in_range order.rows.now order.positions.now c.loop-k.k c.loop-k-test.true
    c.requires.times_are_in_range

pub loop-k-preserved : goal.loop-k-preserved
loop-k-preserved c =
    let a = c.args in
    let rows = a.order.rows.now in
    let ps = a.order.positions.now in
    let many = length-map ps (lent_row rows) in
    let x = c.loop-k in
    let l = c.loop-k-test.true in
    let i = x.invariant in
    record {
      worst_long = search rules;
      best_long = search rules;
      worst_is = loads_next worst_load rows ps a.worst.now x.worst x.k _ l (c.requires.worst_held ∙ many)
          c.load_at_worst.ensures i.worst_is;
      best_is = loads_next best_load rows ps a.best.now x.best x.k _ l (c.requires.best_held ∙ many)
          c.load_at_best.ensures i.best_is;
    }
