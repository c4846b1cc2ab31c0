-- `rows::Row::new` meets its contract: the numbers that are put together are those of the record.
use mathlib.Core.Path.{◌≡◌, ap, ◌∙◌}
use mathlib.Core.Bool.{Bool}
use mathlib.Core.List.{List}
use Prim.Native.Nat.{ℕ}
use lib.ListN.{length}
use borrow.Author.Rules.{rules}
use Rattle.std.proofs.lemmas.List.{places}
use Rattle.std.specs.Prelude.{Some, None}
use Rattle.basics.specs.Basics.{pick}
use Rattle.rows.specs.declared.Row.{Row}
use Rattle.rows.specs.Rows.{in_range}
use Rattle.rows.specs.inside.Numbers.{field_count, row_from}
use Rattle.rows.specs.inside.Records.{record_numbers, recorded, checked}
use Rattle.rows.proofs.Putting.{numbers_make}
use Rattle.rows.proofs.Row.new.Goals as goal

-- what the test of the numbers answers is what that of the record does
tested : (r : Row) (ws : List ℕ) (b : Bool) → ws ≡ record_numbers r → length (record_numbers r) ≡ field_count
    → b ≡ in_range (row_from ws) → pick b (Some r) None ≡ checked r
tested r ws b is long e = ap (λ t. pick t (Some r) None) (e ∙ ap in_range (ap row_from is ∙ numbers_make r long))

pub returns-then-not-in_range : goal.returns-then-not-in_range
returns-then-not-in_range c =
    let a = c.args in
    let r = recorded a.task a.period a.deadline a.worst a.best a.alpha a.beta a.hold a.switch a.points a.curve in
    tested r _ _ c.row_numbers.ensures (search (rules, places)) c.if-not-in_range.ensures

pub returns : goal.returns
returns c =
    let a = c.args in
    let r = recorded a.task a.period a.deadline a.worst a.best a.alpha a.beta a.hold a.switch a.points a.curve in
    tested r _ _ c.row_numbers.ensures (search (rules, places)) c.if-not-in_range.ensures
