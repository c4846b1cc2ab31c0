-- The set's lowest row is in the set (`row_of`), and its task goes below those of the rest (`chain_lowest`).
use Rattle.std.proofs.Common.{rules, ◌≡◌, ℕ, ◌-◌, ◌^◌, List, [], length, take, get_or}
use Rattle.std.proofs.Common.{refl, sym, subst, arith}
use lib.Seq.{length-take-le}
use Rattle.rows.specs.Rows.{task_at}
use Rattle.rows.specs.inside.Lent.{lent_row}
use Rattle.rows.proofs.RowNumbers.{line_from}
use Rattle.rows.proofs.Limits.{limits}
use Rattle.search.specs.inside.Search.{Chained}
use Rattle.search.proofs.Sets.{bit_le}
use Rattle.search.proofs.Chains.{row_of, chain_lowest}
use Rattle.search.proofs.Search.+rebuild.Goals as goal

-- the number at its position is the row's task
task_is : (rows : List (List ℕ)) (i : ℕ) → get_or (get_or rows i []) task_at 0 ≡ (lent_row rows i).task
task_is rows i = sym (line_from (get_or rows i []) task_at (omega arith))

-- the places above the last
front_long : (tasks : List ℕ) → length (take (length tasks - 1) tasks) ≡ length tasks - 1
front_long tasks = length-take-le (length tasks - 1) tasks (omega arith)

pub overflow_sub-m : goal.overflow_sub-m
overflow_sub-m g t c =
    let a = c.args in
    let x = a.self.now in
    let row = row_of x.rows.now x.sets a.m (length a.tasks.now) c.if-count-gt0.true c.requires.1 in
    omega (arith, c.power.ensures, bit_le a.m (get_or x.sets a.m 0) row.3)

-- answered whole, lifetimes first: the part of it that Rattle makes by itself does not fit a type that holds a reference
pub rebuild-requires-whole : goal.rebuild-requires-whole
rebuild-requires-whole g t c =
    let a = c.args in
    let x = a.self.now in
    let i = get_or x.sets a.m 0 in
    let more = c.if-count-gt0.true in
    let row = row_of x.rows.now x.sets a.m (length a.tasks.now) more c.requires.1 in
    let rest = sym (front_long a.tasks.now) in
    let chained =
    subst (λ (k : ℕ). Chained x.rows.now x.sets k (a.m - 2 ^ i)) rest row.4 in
    let next =
    subst (λ (p : ℕ). Chained x.rows.now x.sets (length (take (length a.tasks.now - 1) a.tasks.now)) (a.m - p))
    (sym c.power.ensures) chained in
    λ κs. (
      omega (arith, rest, more, c.decreases),
      (search rules, (search rules, (search rules, (omega (arith, c.requires.0), next)))),
    )

pub bounds-self-i : goal.bounds-self-i
bounds-self-i g t c =
    let a = c.args in
    let x = a.self.now in
    (row_of x.rows.now x.sets a.m (length a.tasks.now) c.if-count-gt0.true c.requires.1).1

pub overflow_cast-tasks : goal.overflow_cast-tasks
overflow_cast-tasks g t c =
    let a = c.args in
    let x = a.self.now in
    let i = get_or x.sets a.m 0 in
    let row = row_of x.rows.now x.sets a.m (length a.tasks.now) c.if-count-gt0.true c.requires.1 in
    let kept = limits (lent_row x.rows.now i) row.2 in
    record { fits = omega (arith, kept.task.le_high, task_is x.rows.now i) }

pub returns-then-count-gt0 : goal.returns-then-count-gt0
returns-then-count-gt0 g t c =
    let a = c.args in
    let x = a.self.now in
    let i = get_or x.sets a.m 0 in
    let rest = rw (front_long a.tasks.now, c.power.ensures) at c.rebuild.ensures in
    chain_lowest x.rows.now x.sets a.m (length a.tasks.now) c.rebuild.new.tasks a.tasks.now _ c.if-count-gt0.true refl
    (task_is x.rows.now i) rest
