-- Rows as their numbers: a row is found by its first number, more numbers behind the rows change none of them, and the
-- numbers between two places grow one by one.
use mathlib.Core.Path.{◌≡◌, refl, sym, ap, ap₂, ◌∙◌}
use mathlib.Core.Bool.{Bool, true, false, ◌&&◌}
use mathlib.Core.List.{List, [], ◌∷◌, ◌++◌}
use mathlib.Core.Logic.{inl, inr}
use Prim.Native.Nat.{ℕ, zero, suc, ◌+◌, ◌-◌, ◌*◌, ◌≤◌, ◌<◌}
use Rattle.basics.proofs.Tests.{le-or-lt}
use native.Mathlib.Omega.{arith}
use borrow.Author.Tests.{lt-leb}
use lib.ListN.{length, get_or, take, drop, length-take, length-drop}
use lib.ListN.{get_or-append, get_or-eq_default}
use lib.Seq.{take_all, drop-drop, drop-append-le, length-take-le, get_or-take, get_or-drop, ext_get_or}
use Rattle.rows.specs.Rows.{Row}
use Rattle.curves.specs.Curves.{Point, max_points, orderly, well_formed, points_from}
use Rattle.curves.proofs.PointNumbers.{points_same}
use Rattle.rows.specs.Rows.{task_at, period_at, deadline_at, worst_at, best_at, alpha_at, beta_at, hold_at, points_at}
use Rattle.rows.specs.Rows.{first_point_at}
use Rattle.rows.specs.Rows.{lines_for, row_with, row_of, no_row, row_at, all_rows}
use Rattle.rows.specs.inside.Numbers.{line_count, switch_at, field_count, lines_from, row_from, rows_of, row_in}
use Rattle.rows.specs.inside.Numbers.{line_in, switch_in, rows_in}
use Rattle.rows.specs.inside.Numbers.{rows_at, Below, between}
use Rattle.rows.proofs.Limits.{at_passes}

-- ---- a row by its numbers
-- the numbers of its lines that count: those behind its last point do not
pub lines_same : (s : ℕ) (xs ys : List ℕ)
    → ((k : ℕ) → k < lines_for (get_or xs points_at 0) → get_or xs k 0 ≡ get_or ys k 0) → row_of s xs ≡ row_of s ys
lines_same s xs ys h =
    let many = h points_at (omega arith) in
    let curves : points_from (get_or xs points_at 0) (drop first_point_at xs)
    ≡ points_from (get_or ys points_at 0) (drop first_point_at ys) =
    points_same (get_or xs points_at 0) (drop first_point_at xs) (drop first_point_at ys) (λ k l.
    get_or-drop first_point_at xs k 0 ∙ h (first_point_at + k) (omega arith) ∙ sym (get_or-drop first_point_at ys k 0))
    ∙ ap (λ n. points_from n (drop first_point_at ys)) many in
    rw (
      h task_at (omega arith),
      h period_at (omega arith),
      h deadline_at (omega arith),
      h worst_at (omega arith),
      h best_at (omega arith),
      h alpha_at (omega arith),
      h beta_at (omega arith),
      h hold_at (omega arith),
    )
    (ap (λ c. row_with c (get_or ys task_at 0) (get_or ys period_at 0) (get_or ys deadline_at 0) (get_or ys worst_at 0)
    (get_or ys best_at 0) (get_or ys alpha_at 0) (get_or ys beta_at 0) (get_or ys hold_at 0) s) curves)

-- the number of a line, by its index among all numbers; past the last line stands 0
pub line_from : (ws : List ℕ) (k : ℕ) → k < line_count → get_or (lines_from ws) k 0 ≡ get_or ws k 0
line_from ws k h = get_or-take line_count ws k 0 h

pub line_past : (ws : List ℕ) (k : ℕ) → line_count ≤ k → get_or (lines_from ws) k 0 ≡ 0
line_past ws k h = get_or-eq_default (lines_from ws) 0 (omega (arith, length-take line_count ws))

pub line_in_lem : (ns : List ℕ) (i k : ℕ) → k < line_count → line_in ns i k ≡ get_or ns (field_count * i + k) 0
line_in_lem ns i k h = line_from (drop (field_count * i) ns) k h ∙ get_or-drop (field_count * i) ns k 0

pub switch_in_lem : (ns : List ℕ) (i : ℕ) → switch_in ns i ≡ get_or ns (field_count * i + switch_at) 0
switch_in_lem ns i = get_or-drop (field_count * i) ns switch_at 0

-- numbers lent from an index on are what stands there
pub lent_from : (n : ℕ) (ns : List ℕ) → take (length ns - n) (drop n ns) ≡ drop n ns
lent_from n ns = take_all (length ns - n) (drop n ns) (omega (arith, length-drop n ns))

-- more points than the most are no curve
pub too_many : (c : List Point) → max_points < length c → well_formed c ≡ false
unfolding well_formed
too_many c h = ap (λ b. b && orderly c) (lt-leb (length c) max_points h)

-- a row has no more numbers than its own
pub row_same : (xs ys : List ℕ) → ((i : ℕ) → i < field_count → get_or xs i 0 ≡ get_or ys i 0) → row_from xs ≡ row_from ys
row_same xs ys h =
    ap (λ s. row_of s (lines_from xs)) (h switch_at (omega arith))
    ∙ lines_same (get_or ys switch_at 0) (lines_from xs) (lines_from ys) (λ k l. elim (le-or-lt line_count k) [
      | inl past ↦ line_past xs k past ∙ sym (line_past ys k past)
      | inr here ↦ line_from xs k here ∙ h k (omega arith) ∙ sym (line_from ys k here)
    ])

-- ---- rows from their first number on
pub rows_length : (n : ℕ) (ws : List ℕ) → length (rows_of n ws) ≡ n
rows_length zero ws = refl
rows_length (suc n) ws = ap suc (rows_length n (drop field_count ws))

-- one more, behind those before it
pub rows_snoc : (n : ℕ) (ws : List ℕ) → rows_of (suc n) ws ≡ rows_of n ws ++ (row_from (drop (field_count * n) ws) ∷ [])
rows_snoc zero ws = refl
rows_snoc (suc n) ws =
    let next = drop-drop (field_count * n) field_count ws in
    let there : field_count + field_count * n ≡ field_count * suc n = omega arith in
    ap (λ rs. row_from ws ∷ rs) (rows_snoc n (drop field_count ws))
    ∙ ap (λ xs. row_from ws ∷ rows_of n (drop field_count ws) ++ (row_from xs ∷ [])) (next ∙ ap (λ m. drop m ws) there)

-- more numbers behind them change none
pub rows-kept : (n : ℕ) (xs ys : List ℕ) → field_count * n ≤ length xs → rows_of n (xs ++ ys) ≡ rows_of n xs
rows-kept zero xs ys h = refl
rows-kept (suc n) xs ys h =
    let first = row_same (xs ++ ys) xs (λ i l. get_or-append xs ys 0 i (omega arith)) in
    let rest =
    ap (rows_of n) (drop-append-le field_count xs ys (omega arith))
    ∙ rows-kept n (drop field_count xs) ys (omega (arith, length-drop field_count xs)) in
    ap₂ (λ r rs. r ∷ rs) first rest

pub rows_at_lem : (n i : ℕ) (ws : List ℕ) → i < n → row_at (rows_of n ws) i ≡ row_in ws i
rows_at_lem zero i ws h = absurd (omega arith)
rows_at_lem (suc n) zero ws h = refl
rows_at_lem (suc n) (suc i) ws h =
    let there : field_count + field_count * i ≡ field_count * suc i = omega arith in
    rows_at_lem n i (drop field_count ws) (omega arith)
    ∙ ap row_from (drop-drop (field_count * i) field_count ws ∙ ap (λ m. drop m ws) there)

-- the first n of m rows
pub rows_front : (n m : ℕ) (ws : List ℕ) → n ≤ m → take n (rows_of m ws) ≡ rows_of n ws
rows_front zero m ws h = refl
rows_front (suc n) zero ws h = absurd (omega arith)
rows_front (suc n) (suc m) ws h = ap (λ rs. row_from ws ∷ rs) (rows_front n m (drop field_count ws) (omega arith))

-- they are some rows, if each is
pub rows_are : (ws : List ℕ) (rows : List Row) → ((i : ℕ) → i < length rows → row_in ws i ≡ row_at rows i)
    → rows_of (length rows) ws ≡ rows
rows_are ws rows each =
    let n = length rows in
    ext_get_or no_row (rows_of n ws) rows (rows_length n ws)
    (λ i h. let l : i < n = omega (arith, rows_length n ws) in rows_at_lem n i ws l ∙ each i l)

-- each of some rows passes what all of them do
pub row_passes : (f : Row → Bool) (ws : List ℕ) (n i : ℕ) → i < n → all_rows f (rows_of n ws) ≡ true
    → f (row_in ws i) ≡ true
row_passes f ws n i h ok =
    ap f (sym (rows_at_lem n i ws h)) ∙ at_passes f (rows_of n ws) i ok (omega (arith, rows_length n ws))

-- the row at position k of some
pub at_position : (table : List Row) (ps : List ℕ) (k : ℕ) → k < length ps
    → row_at (rows_at table ps) k ≡ row_at table (get_or ps k 0)
at_position table [] k h = absurd (omega arith)
at_position table (p ∷ ps) zero h = refl
at_position table (p ∷ ps) (suc k) h = at_position table ps k (omega arith)

-- ---- some numbers from an index on
module _ (start : ℕ) (ns : List ℕ) where
  pub between_length : (n : ℕ) → start + n ≤ length ns → length (between start n ns) ≡ n
  between_length n h =
      let all = length-take-le (start + n) ns h in omega (arith, length-drop start (take (start + n) ns))

  pub between_at : (n i : ℕ) → i < n → get_or (between start n ns) i 0 ≡ get_or ns (start + i) 0
  between_at n i h =
      get_or-drop start (take (start + n) ns) i 0 ∙ get_or-take (start + n) ns (start + i) 0 (omega arith)

-- the rows at positions below n are those of n rows
pub rows_in_lem : (n : ℕ) (ws ps : List ℕ) → Below n ps → rows_in ws ps ≡ rows_at (rows_of n ws) ps
rows_in_lem n ws [] h = refl
rows_in_lem n ws (p ∷ ps) h =
    ap₂ ◌∷◌ (sym (rows_at_lem n p ws (h 0 (omega arith)))) (rows_in_lem n ws ps (λ k l. h (suc k) (omega arith)))
