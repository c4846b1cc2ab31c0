-- The rows stand among the numbers of the local array as `put_rows` put them, so they are lent as numbers.
use Rattle.std.proofs.Common.{◌≡◌, List, ℕ, ◌≤◌, length, sym, subst, ◌∙◌, arith}
use Rattle.std.proofs.lemmas.List.{length-map}
use Rattle.curves.proofs.Lines.{few_of}
use Rattle.rows.specs.declared.Row.{Row}
use Rattle.rows.specs.Rows.{row_at, in_range}
use Rattle.rows.specs.inside.Numbers.{rows_of}
use Rattle.rows.specs.inside.Lent.{table_of}
use Rattle.rows.specs.inside.Records.{as_row, as_rows, numbers_room, FewPoints, RowsPut}
use Rattle.rows.proofs.Limits.{limits, at_passes}
use Rattle.search.specs.inside.Search.{TableRows, Chooses}
use Rattle.search.proofs.order_of.Goals as goal

few_points : (ys : List Row) → TableRows (as_rows ys) → FewPoints (as_rows ys)
few_points ys table i l =
    let r = row_at (as_rows ys) i in
    few_of r.curve (limits r (at_passes in_range (as_rows ys) i table.is_in_range l)).curve

-- what is lent of the local array are the rows
rows_are : (ys : List Row) (zeros ns : List ℕ) (rows : List (List ℕ)) → TableRows (as_rows ys)
    → numbers_room ≤ length zeros → RowsPut (as_rows ys) zeros ns → table_of rows ≡ rows_of (length ys) ns
    → table_of rows ≡ as_rows ys
rows_are ys zeros ns rows table room put lent =
    lent
    ∙ subst (λ n. rows_of n ns ≡ as_rows ys) (length-map ys as_row)
    (put.there room table.few (few_points ys table))

pub rows_from-requires : goal.rows_from-requires
rows_from-requires c =
    let ys = c.args.rows.now in
    omega (arith, c.requires.few, c.put_rows.ensures.long, length-map ys as_row)

pub choose-requires : goal.choose-requires
choose-requires c =
    let is = rows_are c.args.rows.now _ _ _ c.requires (omega arith) c.put_rows.ensures c.rows_from.ensures.table in
    record { table = subst TableRows (sym is) c.requires }

pub returns : goal.returns
returns c =
    let is = rows_are c.args.rows.now _ _ _ c.requires (omega arith) c.put_rows.ensures c.rows_from.ensures.table in
    subst (λ rows. Chooses rows c.choose.result) is c.choose.ensures
