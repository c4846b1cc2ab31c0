-- A row goes lowest if it may and the set without it has an order. The record keeps what it has, and each answer is the
-- law of one step of `scan`.
use Rattle.std.proofs.Common.{rules, ◌≡◌, List, [], ℕ, suc, ◌-◌, ◌^◌, ◌<◌, Option, unwrap_or, false, length, get_or, set}
use Rattle.std.proofs.Common.{refl, sym, ap, ap₂, subst, ◌∙◌, add-one, arith}
use Rattle.std.specs.Prelude as Code
use lib.Pow.{pow_pos}
use Rattle.basics.specs.Basics.{larger}
use Rattle.rows.specs.Rows.{Row}
use Rattle.rows.specs.inside.Lent.{table_of}
use Rattle.rows.specs.Rows.{hold_at}
use Rattle.rows.proofs.RowNumbers.{line_from}
use Rattle.rows.proofs.LentRows.{table_at}
use Rattle.responses.specs.Figures.{largest_hold}
use Rattle.responses.proofs.Blocking.{blocking_is}
use Rattle.orders.specs.Orders.{the_order}
use Rattle.orders.specs.Stability.{stable}
use Rattle.orders.proofs.Stability.{by_sets}
use Rattle.search.specs.inside.Sets.{no_order, others, is_some, order_at, goes, Known, LowestFound, Recorded, Settled}
use Rattle.search.specs.inside.Search.{Lent}
use Rattle.search.proofs.LentRows.{small, a_set, a_row, recorded_of}
use Rattle.search.proofs.Sets.{bit_le}
use Rattle.search.proofs.Outside.{outside_more}
use Rattle.search.proofs.Scan.{scan, scan_start, scan_no, scan_yes, none_of}
use Rattle.search.proofs.Record.{goes_none, goes_then, goes_unfit, settled_new, settled_old, settled_empty}
use Rattle.search.proofs.Search.+lowest_settled.Goals as goal
use Rattle.search.proofs.Search.+lowest_settled.Goals.{lowest-then-unwrap_or+else-settled, lowest-then-unwrap_or+then-settled+else-fits}
use Rattle.search.proofs.Search.+lowest_settled.Goals.{lowest-else-unwrap_or}

pub lowest-loop-i-init : goal.lowest-loop-i-init
lowest-loop-i-init g t c =
    let a = c.args in
    let x = a.self.now in
    record {
      rows_kept = refl;
      so_far =
          scan_start the_order stable by_sets (table_of x.rows.now) a.m (λ e. omega (arith, c.requires.0))
          (a_set x.lent a.m c.requires.1);
    }

pub lowest-may_go-may-requires : goal.lowest-may_go-may-requires
lowest-may_go-may-requires g t c =
    let a = c.args in
    let x = a.self.now in
    rw c.loop-i.invariant.rows_kept (
      search rules,
      (
        c.requires.1,
        c.loop-i-test.true,
        c.blocking_time-blocked.ensures ∙ ap (λ (h : ℕ). h - 1) c.requires.2
            ∙ sym (blocking_is (others a.m (table_of x.rows.now))),
      ),
    )

-- answered whole, lifetimes first: the part of it that Rattle makes by itself does not fit a type that holds a reference
pub lowest-settled-requires-whole : goal.lowest-settled-requires-whole
lowest-settled-requires-whole g t c =
    let a = c.args in
    let x = a.self.now in
    let y = c.loop-i in
    let table = table_of x.rows.now in
    let here = c.loop-i-test.true in
    let may = rw y.invariant.rows_kept at c.may_go-may.ensures.goes in
    let its_bit = may.in_set (sym c.unwrap_or.ensures ∙ c.if-unwrap_or.true) in
    let less = bit_le a.m y.i its_bit in
    let some = pow_pos y.i in
    let bit = c.power.ensures in
    let row = ap (λ (r : Row). r.hold) (sym (table_at x.rows.now y.i here)) in
    let outside = c.larger-outside.ensures
    ∙ ap₂ larger (sym (line_from (get_or x.rows.now y.i []) hold_at (omega arith)) ∙ row) c.requires.2
    ∙ sym (outside_more table a.m y.i (a_row x.lent y.i here) its_bit)
    ∙ ap (λ (k : ℕ). largest_hold (others (a.m - k) table)) (sym bit) in
    let kept = c.may_go-may.ensures.kept.0 ∙ y.invariant.rows_kept in
    λ κs. rw kept (
      omega (arith, bit, less, some, c.decreases),
      (search rules, (search rules, (search rules, (omega (arith, c.requires.1), outside)))),
    )

-- whether it is stable is asked with the record as it is then
pub lowest-fits-requires : goal.lowest-fits-requires
lowest-fits-requires g t c =
    let a = c.args in
    let x = a.self.now in
    let y = c.loop-i in
    let kept = c.settled.ensures.kept ∙ c.may_go-may.ensures.kept.0 ∙ y.invariant.rows_kept in
    let may = rw y.invariant.rows_kept at c.may_go-may.ensures.goes in
    let yes = sym c.unwrap_or.ensures ∙ c.if-unwrap_or.true in (
      search rules,
      (
        rw kept (
          c.loop-i-test.true,
          may.in_set yes,
          c.blocking_time-blocked.ensures ∙ ap (λ (h : ℕ). h - 1) c.requires.2
              ∙ sym (blocking_is (others a.m (table_of x.rows.now))),
        ),
        rw kept (may.passes yes),
      ),
    )

-- the first row that goes
pub lowest-returns-then-fits-clause-found : goal.lowest-returns-then-fits-clause-found
lowest-returns-then-fits-clause-found g t c =
    let a = c.args in
    let x = a.self.now in
    let y = c.loop-i in
    let table = table_of x.rows.now in
    let kept = c.may_go-may.ensures.kept.0 ∙ y.invariant.rows_kept in
    let may = rw y.invariant.rows_kept at c.may_go-may.ensures.goes in
    let u = rw kept at c.settled.ensures.settled in
    let passes = rw (c.settled.ensures.kept ∙ kept) at c.fits.ensures.fits in
    let bit = c.power.ensures in
    let goes = sym (goes_then stable table a.m y.i (may.in_set (sym c.unwrap_or.ensures ∙ c.if-unwrap_or.true))
    (sym passes ∙ c.if-fits.true))
    ∙ ap (λ (k : ℕ). is_some (order_at stable table (a.m - k))) (sym bit)
    ∙ (sym u.found_is ∙ c.if-settled.true) in (
      scan_yes stable by_sets table a.m y.i (a_row x.lent y.i c.loop-i-test.true) y.invariant.so_far goes,
      rw c.fits.ensures.kept.1 (subst (λ (k : ℕ). Known stable table c.settled.new.self.sets (a.m - k)) bit u.there),
    )

pub lowest-loop-i-preserved : goal.lowest-loop-i-preserved
lowest-loop-i-preserved g t c =
    let a = c.args in
    let x = a.self.now in
    let y = c.loop-i in
    let table = table_of x.rows.now in
    let kept = c.may_go-may.ensures.kept.0 ∙ y.invariant.rows_kept in
    let may = rw y.invariant.rows_kept at c.may_go-may.ensures.goes in
    let row = a_row x.lent y.i c.loop-i-test.true in
    let next : goes stable table a.m y.i ≡ false
    → order_at stable table a.m ≡ scan the_order stable by_sets table a.m (suc y.i) =
    λ no_row. y.invariant.so_far ∙ scan_no stable by_sets table a.m y.i row no_row in
    rw (add-one y.i)
    (elim c.if-unwrap_or.branch [
      | lowest-then-unwrap_or+else-settled w ↦ record {
        rows_kept = rw w.self-is (w.settled.ensures.kept ∙ kept);
        so_far =
            let u = rw kept at w.settled.ensures.settled in
            let none = none_of (order_at stable table (a.m - 2 ^ y.i))
            (ap (λ (k : ℕ). is_some (order_at stable table (a.m - k))) (sym w.power.ensures)
            ∙ sym u.found_is ∙ w.if-settled.false) in
            next (sym (goes_none stable table a.m y.i none));
      }
      | lowest-then-unwrap_or+then-settled+else-fits w ↦ record {
        rows_kept = rw w.self-is (w.fits.ensures.kept.0 ∙ w.settled.ensures.kept ∙ kept);
        so_far =
            let passes = rw (w.settled.ensures.kept ∙ kept) at w.fits.ensures.fits in
            next (sym (goes_unfit stable table a.m y.i (sym passes ∙ w.if-fits.false)));
      }
      | lowest-else-unwrap_or w ↦ record {
        rows_kept = rw w.self-is kept;
        so_far = next (may.goes_not (sym c.unwrap_or.ensures ∙ w.if-unwrap_or.false));
      }
    ])

pub settled-returns-then-m-eq0-clause-settled : goal.settled-returns-then-m-eq0-clause-settled
settled-returns-then-m-eq0-clause-settled g t c =
    let x = c.args.self.now in
    rw c.if-m-eq0.true (settled_empty stable (table_of x.rows.now) (small x.lent) x.sets (recorded_of x.lent x.recorded))

pub settled-returns-then-known-clause-settled : goal.settled-returns-then-known-clause-settled
settled-returns-then-known-clause-settled g t c =
    let a = c.args in
    let x = a.self.now in
    settled_old stable (table_of x.rows.now) (small x.lent) x.sets (recorded_of x.lent x.recorded) a.m
    (a_set x.lent a.m c.requires.0) c.if-known.true

-- what was found of a set, written for it
settles : {rows : List (List ℕ)} (lent : Lent rows) (sets : List ℕ) → ∥ Recorded stable (table_of rows) sets ∥₁
    → (m : ℕ) (found : Option ℕ) → m < 2 ^ length rows → LowestFound stable (table_of rows) m sets found
    → Settled stable (table_of rows) m (set sets m (unwrap_or found no_order)) (Code.is_some found)
settles {rows} lent sets r m found l h =
    settled_new stable (table_of rows) (small lent) sets (recorded_of lent r) m found (a_set lent m l) h

pub settled-invariant_of-self : goal.settled-invariant_of-self
settled-invariant_of-self g t c =
    let a = c.args in
    let o = c.lowest-found in
    let new = o.new.self in
    let kept = o.ensures.kept in
    let written =
    settles new.lent new.sets new.recorded a.m o.result (rw kept c.requires.0) (rw kept o.ensures.found) in
    let known : Recorded stable (table_of new.rows.now) (set new.sets a.m c.unwrap_or.result) =
    rw c.unwrap_or.ensures written.recorded in
    record {
      lent = new.lent;
      sets_held = new.sets_held;
      tasks_held = new.tasks_held;
      recorded = ∣ known ∣₁;
    }

pub settled-returns-clause-settled : goal.settled-returns-clause-settled
settled-returns-clause-settled g t c =
    let a = c.args in
    let o = c.lowest-found in
    rw (c.unwrap_or.ensures, c.is_some.ensures)
    (settles a.self.now.lent o.new.self.sets (rw o.ensures.kept at o.new.self.recorded) a.m o.result c.requires.0
    o.ensures.found)
