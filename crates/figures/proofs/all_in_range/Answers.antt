-- The rows that pass are the rows of the table that are in range.
use Rattle.std.proofs.Common.{rules, tests, ◌≡◌, ℕ, Bool, List, [], ◌∷◌, refl, ap, ◌∙◌}
use mathlib.Core.Bool.{◌&&◌}
use Rattle.std.specs.List.{list_all}
use Rattle.std.proofs.lemmas.Iterator.{YieldsList-from_slice}
use Rattle.std.proofs.lemmas.Iterator.Search.{all_from_yields_List}
use Rattle.rows.specs.Rows.{in_range, all_rows}
use Rattle.rows.specs.inside.Numbers.{row_from}
use Rattle.rows.specs.inside.Lent.{table_of}
use Rattle.figures.proofs.all_in_range.Goals as goal

abbrev passes : List ℕ → Bool
passes row = in_range (row_from row)

all_is : (rows : List (List ℕ)) → list_all passes rows ≡ all_rows in_range (table_of rows)
all_is [] = refl
all_is (row ∷ rows) = ap (λ b. passes row && b) (all_is rows)

pub returns : goal.returns
returns c =
    let rows = c.args.rows.now in
    all_from_yields_List passes _ _ _ c.all.ensures.ran (YieldsList-from_slice rows c.iter.ensures.rest)
    (λ x b q k. search (rules, tests))
    ∙ all_is rows
