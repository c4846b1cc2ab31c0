-- Whether one of the rows passes the test is whether one of their tasks is the task.
use Rattle.std.proofs.Common.{rules, tests, ◌≡◌, ◌==◌, slice_index_or, ℕ, Bool, List, [], ◌∷◌, refl, ap₂, ◌∙◌, arith}
use mathlib.Core.Bool.{◌||◌}
use Rattle.std.proofs.lemmas.Bool.Decides.{nat_tests}
use Rattle.std.specs.List.{list_any}
use Rattle.std.proofs.lemmas.Iterator.{YieldsList-from_slice}
use Rattle.std.proofs.lemmas.Iterator.Search.{any_from_yields_List}
use Rattle.rows.specs.Rows.{task_at, has_task}
use Rattle.rows.specs.inside.Lent.{table_of}
use Rattle.rows.proofs.lent.has_task.Goals as goal

module _ (t : ℕ) where
  abbrev has : List ℕ → Bool
  has row = slice_index_or row task_at 0 == t

  any_is : (rows : List (List ℕ)) → list_any has rows ≡ has_task t (table_of rows)
  any_is [] = refl
  any_is (row ∷ rows) = ap₂ ◌||◌ (grind (arith, nat_tests)) (any_is rows)

pub returns : goal.returns
returns c =
    let a = c.args in
    any_from_yields_List (has a.task) _ _ _ c.any.ensures.ran (YieldsList-from_slice a.rows.now c.iter.ensures.rest)
    (λ x b q k. search (rules, tests))
    ∙ any_is a.task a.rows.now
