-- A promise between functions: rows as records, and records put among numbers.
use Rattle.std.specs.Prelude.{◌≡◌, List, [], ◌∷◌, ◌++◌, map, ℕ, ◌*◌, ◌≤◌, ◌<◌, length, Option, Some, None}
use Rattle.curves.specs.Curves.{max_points, points_from}
use Rattle.basics.specs.Basics.{pick}
use Rattle.rows.specs.declared.Row as Declared
use Rattle.rows.specs.Rows.{Row, max_tasks, row_with, row_at, in_range}
use Rattle.rows.specs.Numbers.{field_count, rows_of, row_in}

-- the row that a record is
abbrev pub as_row : Declared.Row → Row
as_row r =
    row_with (points_from r.points r.curve) r.task r.period r.deadline r.worst r.best r.alpha
    r.beta r.hold r.switch

-- the numbers of a record, as they are lent: those of its lines before its points, those of its points, and its switch
abbrev pub record_numbers : Declared.Row → List ℕ
record_numbers r =
    (r.task ∷ r.period ∷ r.deadline ∷ r.worst ∷ r.best ∷ r.alpha ∷ r.beta ∷ r.hold ∷ r.points ∷ [])
    ++ (r.curve ++ (r.switch ∷ []))

-- a record of some numbers and a curve
abbrev pub recorded : ℕ → ℕ → ℕ → ℕ → ℕ → ℕ → ℕ → ℕ → ℕ → ℕ → List ℕ → Declared.Row
recorded t p d w b a e h s n c = record {
  task = t;
  period = p;
  deadline = d;
  worst = w;
  best = b;
  alpha = a;
  beta = e;
  hold = h;
  switch = s;
  points = n;
  curve = c;
}

-- a record whose row is in range
abbrev pub checked : Declared.Row → Option Declared.Row
checked r = pick (in_range (as_row r)) (Some r) None

abbrev pub as_rows : List Declared.Row → List Row
as_rows rs = map as_row rs

-- room for the numbers of a table's rows
abbrev pub numbers_room : ℕ
numbers_room = field_count * max_tasks

-- row i is r if there is room for it and its points are no more than the most; the others are as they were, and there
-- are as many numbers
pub record RowPut (ns : List ℕ) (i : ℕ) (r : Row) (ns' : List ℕ) : Type 0 where
  pub there : numbers_room ≤ length ns → i < max_tasks → length r.curve ≤ max_points → row_in ns' i ≡ r
  pub others : (k : ℕ) → (k ≡ i → ⊥) → row_in ns' k ≡ row_in ns k
  pub long : length ns' ≡ length ns

-- no row has more points than the most
abbrev pub FewPoints : List Row → Type 0
FewPoints rows = (i : ℕ) → i < length rows → length (row_at rows i).curve ≤ max_points

-- the numbers begin with those of the rows, if there is room for all and none has too many points, and there are as many
pub record RowsPut (rows : List Row) (ns ns' : List ℕ) : Type 0 where
  pub there : numbers_room ≤ length ns → length rows ≤ max_tasks → FewPoints rows → rows_of (length rows) ns' ≡ rows
  pub long : length ns' ≡ length ns
