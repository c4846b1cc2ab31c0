-- The order of a table that was read, laid out: where its rows stand, and its ranks. What the run of the board asks of
-- them.
use mathlib.Core.Path.{◌≡◌, refl, sym, ap, ap₂, subst, ◌∙◌}
use mathlib.Core.Bool.{true}
use mathlib.Core.List.{List, [], ◌∷◌, map}
use Prim.Native.Nat.{ℕ, zero, suc, ◌≤◌, ◌<◌}
use native.Mathlib.Omega.{arith}
use lib.ListN.{length, get_or, length-map}
use Rattle.std.specs.Prelude.{Some, None}
use Rattle.rows.specs.Rows.{max_tasks, max_ticks, in_range, all_rows, row_at, rows_for, cost}
use Rattle.rows.specs.Rows as Rows
use Rattle.rows.specs.Rows.{Row}
use Rattle.rows.specs.inside.Numbers.{row_from, rows_at, positions_for, Below}
use Rattle.rows.specs.inside.Lent.{table_of, lent_row, lent_rows}
use Rattle.rows.specs.inside.LentOrders.{rows_in_order}
use Rattle.rows.proofs.Limits.{Limits}
use Rattle.rows.proofs.LentRows.{table_at, lent_at}
use Rattle.rows.proofs.Tasks.{positions_below, positions_length, positions_rows}
use Rattle.tables.specs.TableLines.{read_table}
use Rattle.tables.specs.Claims.{Accepted}
use Rattle.readers.specs.inside.Numbers.{head_count, row_start}
use Rattle.readers.specs.inside.Numbers as TableNumbers
use Rattle.readers.specs.inside.Readings.{Held}
use Rattle.tables.proofs.Readings as Tables
use Rattle.readers.proofs.Tables.{ranks_counted, few, ranks_are, all_there}
use Rattle.plan_orders.specs.inside.Ranks.{FirstLate}
use Rattle.watch_demands.specs.WatchLines.{max_release, offset_of}
use Rattle.watch_demands.proofs.Given.{order_long, order_in_range, order_limits, order_unheld}
use Rattle.plans.specs.Entries.{first_late}
use Rattle.plans.specs.Outcomes.{refuses, fitted}
use Rattle.watch_demands.specs.Calls.{run_in_time}
use Rattle.watch_demands.specs.Runs.{jobs_text}
use Rattle.watch_demands.proofs.Demands.{late_run, timely_run}
use Rattle.watch_runs.specs.declared.steps.Board.{Board}
use Rattle.watch_runs.specs.inside.Owners.{rank_at, Released, Owned}
use Rattle.watch_runs.specs.inside.Runs.{Describes, Startable}
use Rattle.watches.specs.declared.ranking.Ranking.{Ranking}
use Rattle.watches.specs.inside.Lines.{range_at}
use Rattle.watches.specs.inside.Rankings.{RankIs}
use Rattle.watches.specs.inside.Stages.{rows_of, tasks_of, order_of, Unheld, LaidBy}

-- ---- the table
module _ {front : List ℕ} (t : Unheld front) where
  pub table_sound : Accepted true (read_table true front)
  table_sound = (Tables.read true front).sound t.ok

-- rows at positions are those of the table
at_positions : (rows : List (List ℕ)) (ps : List ℕ) → Below (length rows) ps
    → lent_rows rows ps ≡ rows_at (table_of rows) ps
at_positions rows [] h = refl
at_positions rows (p ∷ ps) h =
    ap₂ ◌∷◌ (sym (table_at rows p (h 0 (omega arith)))) (at_positions rows ps (λ k l. h (suc k) (omega arith)))

-- ---- the order's rows at their positions
module _ {front ns : List ℕ} {n : ℕ} (t : Unheld front) (h : Held true front ns n) (rows : List (List ℕ))
    (lent : table_of rows ≡ TableNumbers.rows_in n ns) (ps : List ℕ)
    (placed : ps ≡ positions_for (TableNumbers.behind n n ns) (TableNumbers.rows_in n ns)) where
  table_is : table_of rows ≡ rows_of front
  table_is = lent ∙ h.rows_are

  positions_are : ps ≡ positions_for (tasks_of front) (rows_of front)
  positions_are = placed ∙ ap₂ positions_for (ranks_are h) h.rows_are

  many : length ps ≡ length (tasks_of front)
  many = ap length positions_are ∙ positions_length (tasks_of front) (rows_of front)

  pub positions_many : length ps ≡ n
  positions_many = many ∙ ranks_counted true (read_table true front) (table_sound t) ∙ sym h.count_is

  rows_many : length rows ≡ length (rows_of front)
  rows_many = sym (length-map rows row_from) ∙ ap length table_is

  pub below : Below (length rows) ps
  below =
      subst (λ k. Below k ps) (sym rows_many)
      (subst (Below (length (rows_of front))) (sym positions_are)
      (positions_below (tasks_of front) (rows_of front) (all_there h)))

  order_is : lent_rows rows ps ≡ order_of front
  order_is =
      at_positions rows ps below
      ∙ ap₂ rows_at table_is positions_are
      ∙ positions_rows (tasks_of front) (rows_of front)

  pub few_rows : length (lent_rows rows ps) ≤ max_tasks
  few_rows = omega (arith, length-map ps (lent_row rows), positions_many, few h)

  pub rows_in_range : all_rows in_range (lent_rows rows ps) ≡ true
  rows_in_range = ap (all_rows in_range) order_is ∙ order_in_range (read_table true front) (table_sound t)

  counted : length (order_of front) ≡ length ps
  counted = omega (arith, ap length order_is, length-map ps (lent_row rows))

  -- where the task of a rank stands
  position_at : (j : ℕ) → j < length ps
      → get_or ps j 0 ≡ Rows.position_of (get_or (tasks_of front) j 0) (Rows.tasks_of (rows_of front))
  position_at j l =
      ap (λ (xs : List ℕ). get_or xs j 0) positions_are
      ∙ map_at (λ x. Rows.position_of x (Rows.tasks_of (rows_of front))) (tasks_of front) j (omega (arith, many))
    where
      map_at : (f : ℕ → ℕ) (vs : List ℕ) (i : ℕ) → i < length vs → get_or (map f vs) i 0 ≡ f (get_or vs i 0)
      map_at f [] i l = absurd (omega arith)
      map_at f (v ∷ vs) zero l = refl
      map_at f (v ∷ vs) (suc i) l = map_at f vs i (omega arith)

  -- with the first releases of the rows
  pub laid_by : (x : Ranking) → rows_in_order x.order.lent ≡ lent_rows rows ps → (releases : List ℕ)
      → length releases ≡ n → ((i : ℕ) → i < length releases → get_or releases i 0 ≤ max_release)
      → length x.ranks.now ≡ n → length x.ranges.now ≡ n
      → ((j : ℕ) → j < length ps → let p = get_or ps j 0 in
      RankIs (lent_row rows p) (get_or releases p 0) (rank_at x.ranks.now j) (range_at x.ranges.now j))
      → LaidBy front releases x
  laid_by x same releases releases_many small ranks_many ranges_many are = record {
    table = t;
    few = omega (arith, counted, positions_many, few h);
    order_is = same ∙ order_is;
    ranks_many = omega (arith, ranks_many, counted, positions_many);
    ranges_many = omega (arith, ranges_many, counted, positions_many);
    rank_is = λ j k.
        let l : j < length ps = omega (arith, counted) in
        let row = sym (lent_at rows ps j l) ∙ ap (λ rs. row_at rs j) order_is in
        let release = ap (λ (p : ℕ). get_or releases p 0) (position_at j l) in
        rw row at (rw release at (are j l));
    offset_max = λ j k.
        let l : j < length ps = omega (arith, counted) in
        omega (arith, (are j l).offset_is, small (get_or ps j 0) (omega (arith, releases_many, below j l, rows_many, h.count_is)));
  }

-- ---- what the run asks
module _ {front releases : List ℕ} {x : Ranking} (l : LaidBy front releases x) where
  abbrev pub order : List Row
  order = order_of front

  abbrev pub offset : ℕ → ℕ
  offset = offset_of (rows_of front) (tasks_of front) releases

  pub order_many : length order ≡ length x.ranks.now
  order_many = sym l.ranks_many

  limits_at : (j : ℕ) → j < length x.ranks.now → Limits (row_at order j)
  limits_at j h = order_limits (read_table true front) (table_sound l.table) j (omega (arith, order_many))

  pub rank_of : (j : ℕ) → j < length x.ranks.now
      → RankIs (row_at order j) (offset j) (rank_at x.ranks.now j) (range_at x.ranges.now j)
  rank_of j h = l.rank_is j (omega (arith, l.ranks_many))

  pub period_max : (j : ℕ) → j < length x.ranks.now → (rank_at x.ranks.now j).period ≤ max_ticks
  period_max j h = omega (arith, (rank_of j h).period_is, (limits_at j h).period.le_high)

  pub few_ranks : length x.ranks.now ≤ max_tasks
  few_ranks = omega (arith, l.ranks_many, l.few)

  pub some_ranks : 1 ≤ length x.ranks.now
  some_ranks = omega (arith, order_many, order_long (read_table true front) (table_sound l.table), (table_sound l.table).some_rows)

  pub released : Released order offset x.ranks.now
  released = record {
    as_many = order_many;
    offset_is = λ j h. (rank_of j h).offset_is;
    period_is = λ j h. (rank_of j h).period_is;
    period_some = λ j h. omega (arith, (limits_at j h).period.low_le);
  }

  pub startable : (b : Board) → b.ranks.now ≡ x.ranks.now → (ticks : ℕ) → ticks ≤ max_ticks → Startable ticks b
  startable b same ticks h = record {
    soon = h;
    fits = record {
      few = omega (arith, ap length same, few_ranks);
      period_max = λ j k. rw same (period_max j (omega (arith, ap length same)));
    };
  }

  pub describes : (b : Board) → b.ranks.now ≡ x.ranks.now → Owned order offset b.owners.now
      → length b.owners.now ≡ length b.lengths.now → Describes order offset b
  describes b same owned many = record {
    suits = record {
      released = rw same released;
      cost_is = rw same (λ j h. (rank_of j h).cost_is);
      owned = owned;
      as_many = many;
    };
    task_is = rw same (λ j h. (rank_of j h).task_is);
    none_holds = order_unheld (read_table true front) (table_sound l.table) l.table.none_holds;
  }

  -- ---- by its first late rank
  module _ (room : ℕ) (lengths : List ℕ) (ticks : ℕ) where
    pub late_outcome : (late : ℕ) → FirstLate (rows_in_order x.order.lent) (Some late)
        → run_in_time room order offset lengths ticks ≡ refuses 7 late
    late_outcome zero is = absurd (omega (arith, is.1))
    late_outcome (suc k) is = late_run room order offset lengths ticks k (ap first_late (sym l.order_is) ∙ is.0)

    pub timely_outcome : FirstLate (rows_in_order x.order.lent) None
        → run_in_time room order offset lengths ticks ≡ fitted room (jobs_text order offset lengths ticks)
    timely_outcome none = timely_run room order offset lengths ticks (ap first_late (sym l.order_is) ∙ none)
