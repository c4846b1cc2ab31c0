use Rattle.std.proofs.Common.{sym, ap, ◌∙◌, add-one, length-set, arith}
use Rattle.rows.proofs.LentRows.{table_at}
use Rattle.responses.specs.Figures.{worst_load, best_load}
use Rattle.search.proofs.LentRows.{a_row, times_ranged}
use Rattle.search.proofs.Gathering.{gathering_next}
use Rattle.search.proofs.Search.gather.Goals as goal

pub load_at_worst-requires : goal.load_at_worst-requires
load_at_worst-requires g c = times_ranged c.args.self.now.lent c.loop-row.row-index c.loop-row-test.true

pub loop-row-preserved : goal.loop-row-preserved
loop-row-preserved g c =
    let a = c.args.self.now in
    let x = c.loop-row in
    let i = x.invariant in
    let so_far = i.so_far in
    let l = c.loop-row-test.true in
    let row = sym (table_at a.rows.now x.row-index l) in
    record {
      rows_kept = i.rows_kept;
      sets_kept = i.sets_kept;
      worst_long = length-set x.self.worst x.count c.load_at_worst.result ∙ i.worst_long;
      best_long = length-set x.self.best x.count c.load_at_best.result ∙ i.best_long;
      so_far =
          rw (add-one x.row-index) (gathering_next so_far _ _ (a_row a.lent x.row-index l)
          (omega (arith, so_far.few, i.worst_long, a.tasks_held))
          (omega (arith, so_far.few, i.best_long, a.tasks_held))
          (c.load_at_worst.ensures ∙ ap worst_load row)
          (c.load_at_best.ensures ∙ ap best_load row));
    }
