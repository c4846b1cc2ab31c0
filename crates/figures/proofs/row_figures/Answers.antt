-- In the limits of a table, the order that is lent is that of the rows in their sequence: the loads are those of the rows
-- above, and the figures found by them are those of the row between the rows above it and those below it.
use Rattle.std.proofs.Common.{◌≡◌, true, ℕ, suc, ◌+◌, ◌≤◌, ◌<◌, List, length, get_or, take, drop, refl, sym, ap, subst, ◌∙◌, add-one, arith}
use lib.Seq.{get_or-take, length-take-le, take_all}
use Rattle.rows.specs.Rows.{Row, max_tasks, row_at, in_range, times_in_range, all_rows}
use Rattle.rows.specs.inside.Numbers.{rows_of, row_in}
use Rattle.rows.specs.inside.Lent.{table_of, lent_row, lent_rows}
use Rattle.rows.proofs.Limits.{all_times, front_passes, rest_passes}
use Rattle.rows.proofs.LentRows.{table_at}
use Rattle.rows.proofs.RowNumbers.{rows_length, rows_at_lem, row_passes}
use Rattle.responses.specs.Figures.{rows_above, rows_below, blocking, figures_under}
use Rattle.responses.proofs.Blocking.{blocking_max}
use Rattle.responses.specs.declared.Load.{Load}
use Rattle.analysis.specs.inside.Above.{Fillable, Filled, Under}
use Rattle.figures.proofs.Between.{InLimits, in_limits_lem, refused, answered, in_sequence}
use Rattle.figures.proofs.row_figures.Goals as goal

-- rows in the limits of a table, lent as arrays, and the first of the positions 0, 1, 2, ..
module _ (ns : List ℕ) (n i : ℕ) (known : InLimits ns n i) (rows : List (List ℕ)) (table : table_of rows ≡ rows_of n ns)
    (count : length rows ≡ n) (ps : List ℕ) (long : length ps ≡ max_tasks)
    (placed : (j : ℕ) → j < max_tasks → get_or ps j 0 ≡ j) where
  abbrev upper : List Row
  upper = rows_above (rows_of n ns) i

  abbrev lower : List Row
  lower = rows_below (rows_of n ns) i

  row_is : lent_row rows i ≡ row_in ns i
  row_is =
      sym (table_at rows i (omega (arith, count, known.there)))
      ∙ ap (λ rs. row_at rs i) table
      ∙ rows_at_lem n i ns known.there

  -- the order's rows are those of the numbers
  in_place : lent_rows rows (take n ps) ≡ rows_of n ns
  in_place =
      let many = length-take-le n ps (omega (arith, known.few, long)) in
      in_sequence rows (take n ps) (omega (arith, many, count))
      (λ j l. get_or-take n ps j 0 (omega (arith, l, many)) ∙ placed j (omega (arith, l, many, known.few)))
      ∙ ap (λ k. take k (table_of rows)) many
      ∙ ap (take n) table
      ∙ take_all n (rows_of n ns) (omega (arith, rows_length n ns))

  -- its front is the rows above
  pub front_is : (front : List Row) → front ≡ take i (lent_rows rows (take n ps)) → front ≡ upper
  front_is front e = e ∙ ap (take i) in_place

  times_above : all_rows times_in_range upper ≡ true
  times_above = all_times upper (front_passes in_range i (rows_of n ns) known.is_in_range)

  above_long : length upper ≡ i
  above_long = length-take-le i (rows_of n ns) (omega (arith, known.there, rows_length n ns))

  pub fillable : (front : List Row) → front ≡ upper → (worst best : ℕ) → worst ≡ i → best ≡ i
      → Fillable front worst best
  fillable front e worst best w b = rw e (record {
    worst_held = omega (arith, w, above_long);
    best_held = omega (arith, b, above_long);
    times_are_in_range = times_above;
  })

  pub filled : (front : List Row) → front ≡ upper → (worst best : List Load) → Filled front worst best
      → Filled upper worst best
  filled front e worst best f = subst (λ rs. Filled rs worst best) e f

  -- and what is behind the row, the rows below
  pub blocks : (b : ℕ) (behind : List Row) → behind ≡ drop (i + 1) (lent_rows rows (take n ps))
      → b ≡ blocking behind → b ≡ blocking lower
  blocks b behind e is =
      is ∙ ap blocking (e ∙ ap (drop (i + 1)) in_place ∙ ap (λ k. drop k (rows_of n ns)) (add-one i))

  pub under : (b : ℕ) (worst best : List Load) → b ≡ blocking lower → Filled upper worst best
      → Under (lent_row rows i) b worst best
  under b worst best is f = rw row_is (record {
    is_in_range = row_passes in_range ns n i known.there known.is_in_range;
    rows = upper;
    few = omega (arith, known.few, known.there, above_long);
    filled = f;
    times_are_in_range = times_above;
    below = lower;
    blocked_is = is;
    blocked_max = omega (arith, is, blocking_max lower (rest_passes in_range (suc i) (rows_of n ns) known.is_in_range));
  })

pub returns-then-not-in_limits : goal.returns-then-not-in_limits
returns-then-not-in_limits c =
    let a = c.args in
    refused a.numbers.now a.n a.i _ refl (sym c.in_limits.ensures ∙ c.if-not-in_limits.true)

pub fill_loads-requires : goal.fill_loads-requires
fill_loads-requires c =
    let a = c.args in
    let k = in_limits_lem a.numbers.now a.n a.i (sym c.in_limits.ensures ∙ c.if-not-in_limits.false) in
    let front = front_is a.numbers.now a.n a.i k c.rows_from-rows.result.now c.rows_from-rows.ensures.table
    c.rows_from-rows.ensures.count c.positions-positions.result (omega arith) c.positions-positions.ensures _
    c.front.ensures in
    let there : a.i ≤ max_tasks = omega (arith, k.there, k.few) in
    fillable a.numbers.now a.n a.i k c.rows_from-rows.result.now c.rows_from-rows.ensures.table
    c.rows_from-rows.ensures.count c.positions-positions.result (omega arith) c.positions-positions.ensures _ front _ _
    (length-take-le a.i _ there) (length-take-le a.i _ there)

pub figures_under-requires : goal.figures_under-requires
figures_under-requires c =
    let a = c.args in
    let k = in_limits_lem a.numbers.now a.n a.i (sym c.in_limits.ensures ∙ c.if-not-in_limits.false) in
    let rows = c.rows_from-rows.result.now in
    let table = c.rows_from-rows.ensures.table in
    let count = c.rows_from-rows.ensures.count in
    let ps = c.positions-positions.result in
    let placed = c.positions-positions.ensures in
    let front = front_is a.numbers.now a.n a.i k rows table count ps (omega arith) placed _ c.front.ensures in
    let above = filled a.numbers.now a.n a.i k rows table count ps (omega arith) placed _ front _ _ c.fill_loads.ensures in
    let is = blocks a.numbers.now a.n a.i k rows table count ps (omega arith) placed _ _ c.behind.ensures
    c.blocking_from-blocked.ensures in
    under a.numbers.now a.n a.i k rows table count ps (omega arith) placed _ _ _ is above

pub returns : goal.returns
returns c =
    let a = c.args in
    let test = sym c.in_limits.ensures ∙ c.if-not-in_limits.false in
    let k = in_limits_lem a.numbers.now a.n a.i test in
    let rows = c.rows_from-rows.result.now in
    let table = c.rows_from-rows.ensures.table in
    let count = c.rows_from-rows.ensures.count in
    let ps = c.positions-positions.result in
    let placed = c.positions-positions.ensures in
    let front = front_is a.numbers.now a.n a.i k rows table count ps (omega arith) placed _ c.front.ensures in
    let above = filled a.numbers.now a.n a.i k rows table count ps (omega arith) placed _ front _ _ c.fill_loads.ensures in
    let is = blocks a.numbers.now a.n a.i k rows table count ps (omega arith) placed _ _ c.behind.ensures
    c.blocking_from-blocked.ensures in
    let order = rows_of a.n a.numbers.now in
    let found = c.figures_under.ensures (rows_above order a.i) (rows_below order a.i) above is in
    answered a.numbers.now a.n a.i _
    (found ∙ ap (λ t. figures_under t (rows_above order a.i) (rows_below order a.i))
    (row_is a.numbers.now a.n a.i k rows table count ps (omega arith) placed)) test
