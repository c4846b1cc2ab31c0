-- `readers::lines::point_line` meets its contract: the lines of points stand by turns, and each but the first two is held
-- against the number two places before it.
use mathlib.Core.Path.{◌≡◌, sym, ap, ◌∙◌}
use mathlib.Core.List.{List}
use Prim.Native.Nat.{ℕ, suc, ◌+◌, ◌-◌, ◌*◌, ◌/◌, ◌%◌, ◌≤◌, ◌<◌}
use native.Mathlib.Decide.{ℕ_discrete}
use native.Mathlib.Omega.{arith}
use lib.Dec.{leb, ltb}
use lib.ListN.{get_or}
use Rattle.std.specs.Prelude.{Ok, Err}
use Rattle.basics.specs.Basics.{pick}
use Rattle.text.specs.Line.{Line}
use Rattle.text.specs.Lines.{line_at, told}
use Rattle.text.specs.Text.{bytes}
use Rattle.text.specs.declared.LineRefusal.{LineRefusal}
use Rattle.text.specs.declared.Number.{Number}
use Rattle.grammars.specs.inside.Answers.{tested, unless}
use Rattle.curves.specs.Curves.{min_delay, max_delay, min_allow, max_allow}
use Rattle.rows.specs.Rows.{first_point_at}
use Rattle.rows.specs.inside.Numbers.{line_count}
use Rattle.rows.proofs.RowNumbers.{between_at}
use Rattle.tables.specs.TableLines.{RowLine, disorderly, next_delay, next_allow, row_line_at}
use Rattle.readers.specs.inside.Numbers.{row_start, switch_in, rows_in, behind}
use Rattle.readers.specs.inside.Stands.{row_line_tested}
use Rattle.tables.proofs.RowLines.{delay_at, allow_at}
use Rattle.readers.proofs.Tests.{flips}
use Rattle.readers.proofs.lines.point_line.Goals as goal

module _ (n i : ℕ) (ns text : List ℕ) (at k : ℕ) where
  -- by the shape of the line at the position
  module _ (line : RowLine) (is : row_line_at i ≡ line) (l : Line)
      (answers : l ≡ line_at line.key line.low line.high text at k) where
    by_shape : tested (line.fault (switch_in ns) (rows_in n ns) (behind n i ns)) l k ≡ row_line_tested n i ns text at k
    by_shape =
        ap (λ x. tested (line.fault (switch_in ns) (rows_in n ns) (behind n i ns)) x k) answers
        ∙ sym (ap (λ (x : RowLine). tested (x.fault (switch_in ns) (rows_in n ns) (behind n i ns))
        (line_at x.key x.low x.high text at k) k) is)

  -- the number two places before it
  before : (p : ℕ) → p + 2 ≡ i → get_or (behind n i ns) p 0 ≡ get_or ns (row_start n + i - 2) 0
  before p e =
      let there : row_start n + p ≡ row_start n + i - 2 = omega (arith, e) in
      between_at (row_start n) ns i p (omega (arith, e)) ∙ ap (λ m. get_or ns m 0) there

  module _ (j : ℕ) (few : j < 7) where
    delay_is : i ≡ first_point_at + 2 + 2 * j → row_line_at i ≡ next_delay (first_point_at + 2 * j)
    delay_is is = delay_at i j is few

    allow_is : i ≡ first_point_at + 3 + 2 * j → row_line_at i ≡ next_allow (first_point_at + 2 * j)
    allow_is is = allow_at i j is few

  -- a line that is refused
  module _ (e : LineRefusal) (low : first_point_at ≤ i) (high : i < line_count) where
    delay_refused : (i - first_point_at) % 2 ≡ 0 → told (Err e) ≡ line_at (bytes "delay=") min_delay max_delay text at k
        → told (Err e) ≡ row_line_tested n i ns text at k
    delay_refused even is = elim (ℕ_discrete i first_point_at) [
      | yes first ↦ by_shape (row_line_at first_point_at) (ap row_line_at first) (told (Err e)) is
      | no later ↦ by_shape _ (delay_is ((i - (first_point_at + 2)) / 2) (omega arith) (omega arith)) (told (Err e)) is
    ]

    allow_refused : (i - first_point_at) % 2 ≡ 1 → told (Err e) ≡ line_at (bytes "allow=") min_allow max_allow text at k
        → told (Err e) ≡ row_line_tested n i ns text at k
    allow_refused odd is = elim (ℕ_discrete i (first_point_at + 1)) [
      | yes first ↦ by_shape (row_line_at (first_point_at + 1)) (ap row_line_at first) (told (Err e)) is
      | no later ↦ by_shape _ (allow_is ((i - (first_point_at + 3)) / 2) (omega arith) (omega arith)) (told (Err e)) is
    ]

  -- a number that is held against another
  module _ (number : Number) (j : ℕ) (few : j < 7) where
    abbrev held : ℕ
    held = get_or ns (row_start n + i - 2) 0

    delay_tested : i ≡ first_point_at + 2 + 2 * j
        → told (Ok number) ≡ line_at (bytes "delay=") min_delay max_delay text at k
        → unless (pick (leb number.value held) disorderly 0) (told (Ok number)) k ≡ row_line_tested n i ns text at k
    delay_tested is answers =
        ap (λ f. unless f (told (Ok number)) k) (flips number.value held disorderly 0)
        ∙ ap (λ x. unless (pick (ltb x number.value) 0 disorderly) (told (Ok number)) k)
        (sym (before (first_point_at + 2 * j) (omega (arith, is))))
        ∙ by_shape _ (delay_is j few is) (told (Ok number)) answers

    allow_tested : i ≡ first_point_at + 3 + 2 * j
        → told (Ok number) ≡ line_at (bytes "allow=") min_allow max_allow text at k
        → unless (pick (ltb held number.value) disorderly 0) (told (Ok number)) k ≡ row_line_tested n i ns text at k
    allow_tested is answers =
        ap (λ f. unless f (told (Ok number)) k) (sym (flips number.value held 0 disorderly))
        ∙ ap (λ x. unless (pick (leb number.value x) 0 disorderly) (told (Ok number)) k)
        (sym (before (suc (first_point_at + 2 * j)) (omega (arith, is))))
        ∙ by_shape _ (allow_is j few is) (told (Ok number)) answers

pub returns-in-Err : goal.returns-in-Err
returns-in-Err c =
    let a = c.args in
    delay_refused a.stand.count a.stand.position a.numbers.now a.at.text.now a.at.offset a.at.line c.in-Err.refusal
    (omega arith) (omega arith) (omega arith) c.in-Err.ensures

pub returns-in-Err-line_at : goal.returns-in-Err-line_at
returns-in-Err-line_at c =
    let a = c.args in
    allow_refused a.stand.count a.stand.position a.numbers.now a.at.text.now a.at.offset a.at.line c.in-Err-line_at.refusal
    (omega arith) (omega arith) (omega arith) c.in-Err-line_at.ensures

pub returns-else-position-eq-FIRST_POINT : goal.returns-else-position-eq-FIRST_POINT
returns-else-position-eq-FIRST_POINT c =
    let a = c.args in
    let j = (a.stand.position - (first_point_at + 2)) / 2 in
    c.unless.ensures
    ∙ delay_tested a.stand.count a.stand.position a.numbers.now a.at.text.now a.at.offset a.at.line c.in-Ok.delay j
    (omega arith) (omega arith) c.in-Ok.ensures

pub returns-else-position : goal.returns-else-position
returns-else-position c =
    let a = c.args in
    let j = (a.stand.position - (first_point_at + 3)) / 2 in
    c.unless-in-Ok-line_at.ensures
    ∙ allow_tested a.stand.count a.stand.position a.numbers.now a.at.text.now a.at.offset a.at.line c.in-Ok-line_at.allow j
    (omega arith) (omega arith) c.in-Ok-line_at.ensures
