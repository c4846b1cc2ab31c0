-- `readers::lines::rank_line` meets its contract: a rank is possible that names one of the rows and none of the ranks
-- before it.
use mathlib.Core.Path.{◌≡◌, refl, ap, ap₂, ◌∙◌}
use mathlib.Core.Bool.{Bool, true, false, not, ◌&&◌}
use Prim.Native.Nat.{◌+◌}
use Rattle.std.proofs.lemmas.Slice.{between_is}
use Rattle.std.specs.Prelude.{Ok}
use Rattle.basics.specs.Basics.{pick, is_in}
use Rattle.text.specs.Lines.{told}
use Rattle.grammars.specs.inside.Answers.{tested, unless}
use Rattle.rows.specs.Rows.{has_task}
use Rattle.tables.specs.TableLines.{impossible, new_rank}
use Rattle.readers.specs.inside.Numbers.{row_start, rows_in, behind}
use Rattle.readers.proofs.lines.rank_line.Goals as goal

other_way : (b : Bool) → pick (not b) impossible 0 ≡ pick b 0 impossible
other_way true = refl
other_way false = refl

pub returns-in-Ok : goal.returns-in-Ok
returns-in-Ok c =
    let a = c.args in
    let ns = a.numbers.now in
    let rank = c.in-Ok.rank in
    let start = row_start a.stand.count in
    let known = c.has_task-known.ensures ∙ ap (has_task rank.value) c.rows.ensures.table in
    let taken = c.is_among-taken.ensures ∙ ap (is_in rank.value) (between_is ns start (start + a.stand.position)) in
    let possible = ap₂ (λ x y. x && not y) known taken in
    c.unless.ensures
    ∙ ap (λ f. unless f (told (Ok rank)) a.at.line)
    (other_way (c.has_task-known.result && not c.is_among-taken.result) ∙ ap (λ b. pick b 0 impossible) possible)
    ∙ ap (λ l. tested (new_rank (rows_in a.stand.count ns) (behind a.stand.count a.stand.position ns)) l a.at.line) c.in-Ok.ensures
