-- Invariant: the rows and the record stay, and the loads of the set's rows among those passed stand at the front
-- (`Gathering`).
use Rattle.std.proofs.Common.{◌≡◌, length}
use Rattle.rows.specs.inside.Lent.{table_of}
use Rattle.search.proofs.Gathering.{Gathering}
use Rattle.search.proofs.Search.gather.Given as goal

abbrev pub invariant-loop-row : goal.invariant-loop-row
invariant-loop-row g l =
    record {
      rows_kept : l.self.rows.now ≡ l.fn.self.rows.now;
      sets_kept : l.self.sets ≡ l.fn.self.sets;
      worst_long : length l.self.worst ≡ g.row.TASKS;
      best_long : length l.self.best ≡ g.row.TASKS;
      so_far : Gathering (table_of l.rows) l.m l.self.worst l.self.best l.count l.rest l.row-index;
    }
