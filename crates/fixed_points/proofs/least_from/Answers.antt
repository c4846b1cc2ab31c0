-- The last value of the search is the least solution, or shows that there is none within the limit.
use Rattle.std.proofs.Common.{ap, ◌∙◌, arith}
use Rattle.fixed_points.specs.inside.Values.{Searching, found}
use Rattle.fixed_points.proofs.Values.{searching, ends_at, ends_late, some_found}
use Rattle.fixed_points.proofs.least_from.Goals as goal

pub returns-then-tried-limit : goal.returns-then-tried-limit
returns-then-tried-limit c =
    let a = c.args in
    let ls = a.tasks.loads.now in
    let t = c.try_from-tried in
    let s : Searching a.base a.limit ls t.result.last =
    rw t.ensures.last_is (searching a.base a.limit ls a.first c.requires.searching t.result.steps) in
    some_found t.result.last s.some
    ∙ ap found (ends_at a.base a.limit ls t.result.last s t.ensures.ends c.if-tried-limit.true)

pub returns-else-tried-limit : goal.returns-else-tried-limit
returns-else-tried-limit c =
    let a = c.args in
    let ls = a.tasks.loads.now in
    let t = c.try_from-tried in
    let s : Searching a.base a.limit ls t.result.last =
    rw t.ensures.last_is (searching a.base a.limit ls a.first c.requires.searching t.result.steps) in
    ap found (ends_late a.base a.limit ls t.result.last s (omega (arith, c.if-tried-limit.false)))
