-- `readers::lines::row_line` meets its contract: the deadline's arm has no test beside its range, and the worst time's holds
-- it to the period and the switch.
use mathlib.Core.Path.{sym, ap, ◌∙◌}
use native.Mathlib.Omega.{arith}
use lib.ListN.{get_or}
use Rattle.std.specs.Prelude.{Ok}
use Rattle.text.specs.Lines.{told}
use Rattle.grammars.specs.inside.Answers.{tested, unless}
use Rattle.grammars.proofs.Answers.{no_test}
use Rattle.rows.specs.Rows.{period_at, deadline_at, worst_at, full_cost}
use Rattle.rows.proofs.RowNumbers.{between_at}
use Rattle.tables.specs.TableLines.{at_most}
use Rattle.readers.specs.inside.Numbers.{row_start, switch_in, behind}
use Rattle.readers.specs.inside.Stands.{field_line}
use Rattle.readers.proofs.Tests.{not_flips}
use Rattle.readers.proofs.lines.row_line.Goals as goal

pub returns-in-2 : goal.returns-in-2
returns-in-2 c =
    let at = c.args.at in
    rw c.in-2.is (c.line_at-in-2.ensures ∙ no_test (field_line deadline_at at.text.now at.offset at.line) at.line)

pub returns-in-Ok-line_at : goal.returns-in-Ok-line_at
returns-in-Ok-line_at c =
    let a = c.args in
    let ns = a.numbers.now in
    let worst = c.in-Ok-line_at.worst in
    let cost = full_cost worst.value (switch_in ns) in
    let limit = between_at (row_start a.stand.count) ns worst_at period_at (omega arith) in
    rw (c.in-3.is) (
    (rw (c.fits-fits.ensures, not_flips) at c.unless-in-Ok-line_at.ensures)
    ∙ ap (λ x. unless (at_most x cost) (told (Ok worst)) a.at.line) (sym limit)
    ∙ ap (λ l. tested (λ v. at_most (get_or (behind a.stand.count worst_at ns) period_at 0) (full_cost v (switch_in ns))) l a.at.line)
    c.in-Ok-line_at.ensures)
