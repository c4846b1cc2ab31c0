-- The whole table is the set of all bits: the record settles it, and the order is read off.
use Rattle.std.proofs.Common.{rules, ◌≡◌, true, false, Some, None, List, ℕ, ◌-◌, ◌^◌, ◌<◌, length, ap, sym, ◌∙◌, arith}
use mathlib.Core.Bool.{Bool}
use mathlib.Core.Option.{some}
use lib.Pow.{pow_pos}
use Rattle.rows.specs.Rows.{Row, tasks_of}
use Rattle.rows.specs.inside.Arrays.{ranking}
use Rattle.rows.specs.inside.Numbers.{row_from}
use Rattle.rows.specs.inside.Lent.{table_of}
use Rattle.analysis.proofs.Found.{map_long}
use Rattle.orders.specs.Orders.{the_order, order_of}
use Rattle.responses.specs.Figures.{largest_hold}
use Rattle.search.specs.inside.Sets.{others, order_at, Settled}
use Rattle.orders.specs.Stability.{stable}
use Rattle.search.specs.inside.Search.{choice_of, Lent, Chained, chain_tasks, Chooses}
use Rattle.search.proofs.Outside.{outside_none}
use Rattle.search.proofs.Chains.{chain}
use Rattle.search.proofs.Scan.{at_whole, some_of, none_of}
use Rattle.orders.proofs.Stability.{chosen}
use Rattle.search.proofs.Search.order.Goals as goal

-- the whole set and its record
module _ (rows : List (List ℕ)) (lent : Lent rows) (all : ℕ) (e : all ≡ 2 ^ length rows - 1) where
  abbrev table : List Row
  table = table_of rows

  -- what is said of the whole set is said of the table
  whole : order_at stable table all ≡ order_of stable table
  whole =
      ap (order_at stable table) (e ∙ ap (λ (k : ℕ). 2 ^ k - 1) (sym (map_long row_from rows)))
      ∙ at_whole the_order stable table

  -- no row is outside it
  none_outside : 0 ≡ largest_hold (others all table)
  none_outside =
      sym (ap (λ (k : ℕ). largest_hold (others k table)) (e ∙ ap (λ (k : ℕ). 2 ^ k - 1) (sym (map_long row_from rows)))
      ∙ outside_none table)

  in_table : all < 2 ^ length rows
  in_table = omega (arith, pow_pos (length rows))

  module _ (sets : List ℕ) (found : Bool) (s : Settled stable table all sets found) where
    module _ (h : found ≡ true) where
      -- the order that the whole set has
      abbrev its_order : (os : List Row) × (order_at stable table all ≡ some os)
      its_order = some_of (order_at stable table all) (sym s.found_is ∙ h)

      -- the tasks along its chain
      chained : Chained rows sets (length rows) all × (chain_tasks rows sets (length rows) all ≡ tasks_of its_order.0)
      chained = chain rows lent sets s.recorded all its_order.0 e s.there its_order.1

      ordered : Chooses table (Some (ranking (chain_tasks rows sets (length rows) all)))
      ordered = record {
        choice_is = ap (λ (ts : List ℕ). Some (ranking ts)) chained.1 ∙ ap choice_of (sym its_order.1 ∙ whole);
        chosen = chosen table lent.table.distinct;
      }

    unordered : found ≡ false → Chooses table None
    unordered h = record {
      choice_is = ap choice_of (sym (none_of (order_at stable table all) (sym s.found_is ∙ h)) ∙ whole);
      chosen = chosen table lent.table.distinct;
    }

pub settled-requires : goal.settled-requires
settled-requires g c =
    let x = c.args.self.now in
    let e = ap (λ (k : ℕ). k - 1) c.power-all.ensures in
    (search rules, (in_table x.rows.now x.lent _ e, none_outside x.rows.now x.lent _ e))

pub read_off-requires : goal.read_off-requires
read_off-requires g c =
    let x = c.args.self.now in
    let e = ap (λ (k : ℕ). k - 1) c.power-all.ensures in
    let w = c.settled in
    rw w.ensures.kept (
      search rules,
      (
        in_table x.rows.now x.lent _ e,
        (chained x.rows.now x.lent _ e w.new.self.sets w.result w.ensures.settled c.if-settled.true).0,
      ),
    )

pub returns-then-settled : goal.returns-then-settled
returns-then-settled g c =
    let x = c.args.self.now in
    let e = ap (λ (k : ℕ). k - 1) c.power-all.ensures in
    let w = c.settled in
    rw (c.read_off.ensures, w.ensures.kept)
    (ordered x.rows.now x.lent _ e w.new.self.sets w.result w.ensures.settled c.if-settled.true)

pub returns : goal.returns
returns g c =
    let x = c.args.self.now in
    let e = ap (λ (k : ℕ). k - 1) c.power-all.ensures in
    let w = c.settled in
    unordered x.rows.now x.lent _ e w.new.self.sets w.result w.ensures.settled c.if-settled.false
