-- The first releases are read, all in one range, and the order is laid out with them.
use mathlib.Core.Path.{◌≡◌, refl, sym, ◌∙◌}
use Prim.Native.Nat.{ℕ}
use native.Mathlib.Omega.{arith}
use mathlib.Core.List.{List, [], ◌∷◌}
use lib.ListN.{length, take, replicate}
use lib.Seq.{length-take-le}
use Rattle.std.proofs.lemmas.Result.{err_from_is_err_and}
use Rattle.rows.specs.Rows.{max_tasks}
use Rattle.watch_demands.specs.WatchLines.{min_release, max_release}
use Rattle.watches.specs.declared.lines.Range.{Range}
use Rattle.watches.specs.inside.Lines.{low_of, high_of}
use Rattle.watches.proofs.Laid.{below, few_rows, rows_in_range, positions_many, laid_by}
use Rattle.watches.proofs.Stages.{zeros, refused_text, releases_refused, releases_small, releases_then}
use Rattle.watches.proofs.watch_table.Goals as goal

-- every number has the range of a first release
abbrev ranges : List Range
ranges = record { low = min_release; high = max_release } ∷ []

abbrev owners : ℕ → List ℕ
owners n = take n (replicate max_tasks 0)

low_is : (n m : ℕ) → low_of ranges (owners n) m ≡ min_release
low_is n m = rw (zeros n max_tasks m, low_of)

high_is : (n m : ℕ) → high_of ranges (owners n) m ≡ max_release
high_is n m = rw (zeros n max_tasks m, high_of)

pub returns-in_err-next : goal.returns-in_err-next
returns-in_err-next c =
    let n = c.args.front.stand.count in
    let e = c.cursor.ensures in
    let p = err_from_is_err_and c.from_residual.result c.from_residual.ensures.1 in
    rw (p.1, p.2)
    (refused_text c.args.text.now c.args.out.now _
    (releases_refused _ _ _ _ _ c.requires ranges (owners n) (low_is n) (high_is n) _
    (c.read_numbers.auto.numbers ∙ length-take-le _ _ c.requires.few)
    (rw (e.text, e.offset, e.line) at c.in_err-next.ensures)))

pub invariant_of-lent : goal.invariant_of-lent
invariant_of-lent c =
    let rows = c.rows in
    let placed = c.place_ranks.ensures in
    record { held = below c.requires.table c.requires.held _ rows.ensures.table _ placed }

pub invariant_of-order : goal.invariant_of-order
invariant_of-order c =
    let rows = c.rows in
    let placed = c.place_ranks.ensures in
    let a = c.requires in
    record {
      few = omega (arith, few_rows a.table a.held _ rows.ensures.table _ placed);
      is_in_range = rows_in_range a.table a.held _ rows.ensures.table _ placed;
    }

pub fill_ranks-requires : goal.fill_ranks-requires
fill_ranks-requires c =
    let rows = c.rows in
    let placed = c.place_ranks.ensures in
    let a = c.requires in
    let many = positions_many a.table a.held _ rows.ensures.table _ placed in
    record {
      releases_many = c.read_numbers.auto.numbers ∙ length-take-le _ _ a.few ∙ sym rows.ensures.count;
      ranks_many = length-take-le _ _ a.few ∙ sym many;
      ranges_many = length-take-le _ _ a.few ∙ sym many;
    }

pub watch_order-requires : goal.watch_order-requires
watch_order-requires c =
    let n = c.args.front.stand.count in
    let rows = c.rows in
    let placed = c.place_ranks.ensures in
    let a = c.requires in
    let f = c.fill_ranks in
    let e = c.cursor.ensures in
    let told = rw (e.text, e.offset, e.line) at c.in_ok-next.ensures in
    let many : length c.read_numbers.new.numbers ≡ n = c.read_numbers.auto.numbers ∙ length-take-le _ _ a.few in
    record {
      front = a.front;
      releases = c.read_numbers.new.numbers;
      laid = laid_by a.table a.held _ rows.ensures.table _ placed _ refl _ many
          (releases_small _ _ _ _ _ a ranges (owners n) (low_is n) (high_is n) _ many _ told)
          (f.auto.ranks ∙ length-take-le _ _ a.few) (f.auto.ranges ∙ length-take-le _ _ a.few) f.ensures;
      resumes =
          releases_then _ _ _ _ _ a ranges (owners n) (low_is n) (high_is n) _ many _ told;
      soon = omega (arith, a.soon, a.few);
    }
