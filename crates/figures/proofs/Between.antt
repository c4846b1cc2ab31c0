-- Rows among numbers are figured where they stand: the rows at the positions 0, 1, 2, .. are those of the numbers, a
-- row is in the limits of a table with those above it and below it exactly where the code's test says so, and the
-- answer by that test is all that is promised of it.
use mathlib.Core.Path.{◌≡◌, refl, ap, ap₂, sym, ◌∙◌}
use mathlib.Core.Bool.{Bool, true, false, ◌&&◌}
use mathlib.Core.List.{List, [], ◌∷◌}
use Prim.Native.Nat.{ℕ, zero, suc, ◌+◌, ◌*◌, ◌≤◌, ◌<◌}
use native.Mathlib.Omega.{arith}
use lib.Dec.{leb, ltb}
use lib.ListN.{length, get_or, take, length-take, length-drop}
use borrow.Author.Tests.{leb-true, ltb-true, le-leb, lt-leb, lt-ltb}
use Rattle.basics.specs.Basics.{pick}
use mathlib.Core.Logic.{inl, inr}
use Rattle.basics.proofs.Tests.{le-or-lt, and_left, and_right}
use Rattle.rows.specs.Rows.{Row, max_tasks, row_at, in_range, all_rows}
use Rattle.rows.specs.inside.Numbers.{field_count, row_in, rows_of}
use Rattle.rows.proofs.RowNumbers.{rows_length, rows_at_lem}
use lib.Seq.{ext_get_or, get_or-take, length-take-le}
use Rattle.rows.specs.Rows.{no_row}
use Rattle.rows.specs.inside.Numbers.{row_from}
use Rattle.rows.specs.inside.Lent.{table_of, lent_row, lent_rows}
use Rattle.rows.proofs.LentRows.{table_at, lent_at}
use Rattle.analysis.proofs.Found.{map_long}
use Rattle.responses.specs.Figures.{Answered, rows_above, rows_below, max_others, figures_under, no_figures, figures_of}
use Rattle.responses.specs.Figures as F
use Rattle.responses.specs.Claims.{FiguresSay, RowFigures}
use Rattle.responses.proofs.Finishes.{ends, within_period}
use Rattle.responses.proofs.Deadlines.{own_deadline}
use Rattle.responses.proofs.Conditions.{by_condition}
use Rattle.responses.proofs.Responses.{limits_times, figured}
use Rattle.responses.proofs.Switches.{by_numbers, switch_grows}
use Rattle.responses.proofs.Sequences.{figures_permuted, figures_below}
use Rattle.figures.specs.inside.Limits.{in_limits}

-- ---- rows at the positions 0, 1, 2, .. are those of the table, in their sequence
pub in_sequence : (rows : List (List ℕ)) (ps : List ℕ) → length ps ≤ length rows
    → ((i : ℕ) → i < length ps → get_or ps i 0 ≡ i) → lent_rows rows ps ≡ take (length ps) (table_of rows)
in_sequence rows ps held is =
    ext_get_or no_row (lent_rows rows ps) (take (length ps) (table_of rows)) same each
  where
    many : length (lent_rows rows ps) ≡ length ps
    many = map_long (lent_row rows) ps

    same : length (lent_rows rows ps) ≡ length (take (length ps) (table_of rows))
    same = omega (arith, many, length-take-le (length ps) (table_of rows) (omega (arith, map_long row_from rows, held)))

    each : (i : ℕ) → i < length (lent_rows rows ps)
        → get_or (lent_rows rows ps) i no_row ≡ get_or (take (length ps) (table_of rows)) i no_row
    each i l =
        let h : i < length ps = omega (arith, many, l) in
        lent_at rows ps i h
        ∙ ap (lent_row rows) (is i h)
        ∙ sym (table_at rows i (omega (arith, h, held)))
        ∙ sym (get_or-take (length ps) (table_of rows) i no_row h)

-- ---- every row passes: that at i, those before it and those after it
regrouped : (r x a b : Bool) → (r && (x && (a && b))) ≡ (x && (r && a && b))
regrouped true x a b = refl
regrouped false true a b = refl
regrouped false false a b = refl

all_around : (f : Row → Bool) (rows : List Row) (i : ℕ) → i < length rows
    → all_rows f rows ≡ (f (row_at rows i) && (all_rows f (rows_above rows i) && all_rows f (rows_below rows i)))
all_around f [] i h = absurd (omega arith)
all_around f (r ∷ rows) zero h = refl
all_around f (r ∷ rows) (suc i) h =
    ap (λ b. f r && b) (all_around f rows i (omega arith))
    ∙ regrouped (f r) (f (row_at rows i)) (all_rows f (rows_above rows i)) (all_rows f (rows_below rows i))

none_left : (a b c : Bool) → (a && (b && (c && false))) ≡ false
none_left true true true = refl
none_left true true false = refl
none_left true false c = refl
none_left false b c = refl

with_true : (a b c : Bool) → (a && (b && (c && true))) ≡ (a && (b && c))
with_true true true true = refl
with_true true true false = refl
with_true true false c = refl
with_true false b c = refl

-- ---- the test
module _ (ns : List ℕ) (n i : ℕ) where
  abbrev ranged : Bool
  ranged = all_rows in_range (rows_of n ns)

  pub too_many : max_tasks < n → in_limits ns n i ≡ false
  too_many h =
      ap (λ b. b && (ltb i n && (leb (field_count * n) (length ns) && ranged))) (lt-leb n max_tasks h)

  pub by_room : n ≤ max_tasks → i < n → in_limits ns n i ≡ (leb (field_count * n) (length ns) && ranged)
  by_room few there =
      ap₂ (λ a b. a && (b && (leb (field_count * n) (length ns) && ranged))) (le-leb n max_tasks few) (lt-ltb i n there)

  pub by_rows : n ≤ max_tasks → i < n → field_count * n ≤ length ns → in_limits ns n i ≡ ranged
  by_rows few there h = by_room few there ∙ ap (λ b. b && ranged) (le-leb (field_count * n) (length ns) h)

  -- what a test that is passed says
  pub record InLimits : Type 0 where
    pub few : n ≤ max_tasks
    pub there : i < n
    pub held : field_count * n ≤ length ns
    pub is_in_range : all_rows in_range (rows_of n ns) ≡ true

  pub in_limits_lem : in_limits ns n i ≡ true → InLimits
  in_limits_lem h =
      let room = leb (field_count * n) (length ns) in
      let rest = and_right (leb n max_tasks) (ltb i n && (room && ranged)) h in
      let last = and_right (ltb i n) (room && ranged) rest in
      record {
        few = leb-true n max_tasks (and_left (leb n max_tasks) (ltb i n && (room && ranged)) h);
        there = ltb-true i n (and_left (ltb i n) (room && ranged) rest);
        held = leb-true (field_count * n) (length ns) (and_left room ranged last);
        is_in_range = and_right room ranged last;
      }

  -- ---- and that of a table's limits is the same
  abbrev t : Row
  t = row_in ns i

  abbrev above : List Row
  above = rows_above (rows_of n ns) i

  abbrev below : List Row
  below = rows_below (rows_of n ns) i

  others : i < n → suc (length above + length below) ≡ n
  others there =
      omega (arith, length-take i (rows_of n ns), length-drop (suc i) (rows_of n ns), rows_length n ns)

  -- of so many rows, the one at i and the rest
  around : i < n → ranged ≡ (in_range t && (all_rows in_range above && all_rows in_range below))
  around there =
      all_around in_range (rows_of n ns) i (omega (arith, rows_length n ns))
      ∙ ap (λ r. in_range r && (all_rows in_range above && all_rows in_range below)) (rows_at_lem n i ns there)

  pub same_limits : field_count * n ≤ length ns → i < n → F.in_limits t above below ≡ in_limits ns n i
  same_limits held there = elim (le-or-lt n max_tasks) [
    | inl few ↦
        ap (λ b. in_range t && (all_rows in_range above && (all_rows in_range below && b)))
        (le-leb (length above + length below) max_others (omega (arith, few, others there)))
        ∙ with_true (in_range t) (all_rows in_range above) (all_rows in_range below)
        ∙ sym (by_rows few there held ∙ around there)
    | inr many ↦
        ap (λ b. in_range t && (all_rows in_range above && (all_rows in_range below && b)))
        (lt-leb (length above + length below) max_others (omega (arith, many, others there)))
        ∙ none_left (in_range t) (all_rows in_range above) (all_rows in_range below)
        ∙ sym (too_many many)
  ]

  -- ---- the answer
  say : (x : Answered) → x ≡ figures_of t above below → FiguresSay t above below x
  say x is = record {
    answer = is;
    by_formulas = λ h. let k = limits_times t above below h in figured t above below k.0 k.1;
    ends = λ h. let k = limits_times t above below h in ends t above below k.0 k.1;
    own_deadline = λ h d. own_deadline t above below d (limits_times t above below h).0;
    within_period = λ h same. within_period t above below (limits_times t above below h).0 same;
    by_condition = λ h. by_condition t above below (own h);
    by_numbers = by_numbers t above below;
    switch_grows = λ h s mine others.
        switch_grows t above below s (own h) (limits_times t above below h).1 mine others;
    any_sequence = λ above' below' p q. is ∙ figures_permuted t p q;
    by_blocking = λ below' b h. is ∙ figures_below t above below below' b h;
  }
    where
      own : F.in_limits t above below ≡ true → in_range t ≡ true
      own h =
          and_left (in_range t) (all_rows in_range above
          && (all_rows in_range below && leb (length above + length below) max_others)) h

  pub refused : (x : Answered) → x ≡ no_figures → in_limits ns n i ≡ false → RowFigures ns n i x
  refused x e h = record {
    held = λ room there.
        say x (e ∙ ap (λ b. pick b (figures_under t above below) no_figures) (sym (same_limits room there ∙ h)));
    not_held = λ l. e;
    no_such_row = λ l. e;
  }

  pub answered : (x : Answered) → x ≡ figures_under t above below → in_limits ns n i ≡ true → RowFigures ns n i x
  answered x e h =
      let k = in_limits_lem h in
      record {
        held = λ room there.
            say x (e ∙ ap (λ b. pick b (figures_under t above below) no_figures) (sym (same_limits room there ∙ h)));
        not_held = λ l. absurd (omega (arith, l, k.held));
        no_such_row = λ l. absurd (omega (arith, l, k.there));
      }
