-- Rows as they are lent are the rows of the numbers that they are lent from, one by one.
use mathlib.Core.Path.{◌≡◌, refl, sym, ap, ap₂, ◌∙◌}
use mathlib.Core.List.{List, [], ◌∷◌}
use Prim.Native.Nat.{ℕ, zero, suc, ◌+◌, ◌*◌, ◌≤◌, ◌<◌}
use native.Mathlib.Omega.{arith}
use lib.ListN.{length, get_or, take, drop, take-append-drop}
use lib.Seq.{get_or-take, length-take-le}
use Rattle.std.specs.Simd.{first_chunks}
use mathlib.Core.Bool.{Bool, cond}
use Rattle.std.specs.Prelude.{◌==◌, position, slice_index_or, Some}
use Rattle.std.specs.List.{position_from}
use Rattle.std.specs.Option.{unwrap_or}
use native.Mathlib.Decide.{ℕ_discrete}
use borrow.Author.Tests.{eq-eqb, ne_eqb}
use Rattle.std.proofs.lemmas.Iterator.Adapters.{position_from-zero}
use Rattle.rows.specs.Rows.{row_at, task_at, tasks_of, position_of}
use Rattle.rows.specs.inside.Numbers.{field_count, row_from, rows_of}
use Rattle.rows.specs.inside.Lent.{table_of, lent_row, lent_rows}
use Rattle.rows.proofs.RowNumbers.{line_from, row_same, rows-kept}

-- the first n rows of some numbers
chunks_from : (n : ℕ) (ws : List ℕ) → table_of (first_chunks field_count n ws) ≡ rows_of n ws
chunks_from zero ws = refl
chunks_from (suc n) ws =
    ap₂ ◌∷◌ (row_same (take field_count ws) ws (λ i l. get_or-take field_count ws i 0 l))
    (chunks_from n (drop field_count ws))

pub chunks_are : (n m : ℕ) (ws : List ℕ) → m ≡ n → field_count * n ≤ length ws
    → table_of (first_chunks field_count m (take (field_count * n) ws)) ≡ rows_of n ws
chunks_are n m ws e room =
    let front = take (field_count * n) ws in
    let back = drop (field_count * n) ws in
    ap (λ k. table_of (first_chunks field_count k front)) e
    ∙ chunks_from n front
    ∙ sym (rows-kept n front back (omega (arith, length-take-le (field_count * n) ws room)))
    ∙ ap (rows_of n) (take-append-drop (field_count * n) ws)

-- a row by its index
pub table_at : (rows : List (List ℕ)) (i : ℕ) → i < length rows → row_at (table_of rows) i ≡ lent_row rows i
table_at [] i h = absurd (omega arith)
table_at (r ∷ rows) zero h = refl
table_at (r ∷ rows) (suc i) h = table_at rows i (omega arith)

-- the row at position k of some
pub lent_at : (rows : List (List ℕ)) (ps : List ℕ) (k : ℕ) → k < length ps
    → row_at (lent_rows rows ps) k ≡ lent_row rows (get_or ps k 0)
lent_at rows [] k h = absurd (omega arith)
lent_at rows (p ∷ ps) zero h = refl
lent_at rows (p ∷ ps) (suc k) h = lent_at rows ps k (omega arith)

-- where a task stands among them; their number where it does not
module _ (t : ℕ) where
  abbrev has : List ℕ → Bool
  has row = slice_index_or row task_at 0 == t

  task_here : (r : List ℕ) (us : List ℕ) → t ≡ get_or r task_at 0 → position_of t ((row_from r).task ∷ us) ≡ 0
  task_here r us e =
      ap (λ x. position_of t (x ∷ us)) (line_from r task_at (omega arith))
      ∙ rw (eq-eqb t (get_or r task_at 0) e, position_of)

  task_later : (r : List ℕ) (us : List ℕ) → (t ≡ get_or r task_at 0 → ⊥)
      → position_of t ((row_from r).task ∷ us) ≡ suc (position_of t us)
  task_later r us ne =
      ap (λ x. position_of t (x ∷ us)) (line_from r task_at (omega arith))
      ∙ rw (ne_eqb t (get_or r task_at 0) ne, position_of)

  found_from : (rows : List (List ℕ)) (i n : ℕ) → n ≡ i + length rows
      → unwrap_or (position_from has i rows) n ≡ i + position_of t (tasks_of (table_of rows))
  found_from [] i n e = omega (arith, e)
  found_from (r ∷ rows) i n e =
      let x = get_or r task_at 0 in
      let us = tasks_of (table_of rows) in
      let test = λ (b : Bool). unwrap_or (cond b (Some i) (position_from has (i + 1) rows)) n in
      elim (ℕ_discrete t x) [
        | yes is ↦ omega (arith, ap test (eq-eqb x t (sym is)), task_here r us is)
        | no ne ↦
            omega (
              arith,
              ap test (ne_eqb x t (λ is. ne (sym is))),
              task_later r us ne,
              found_from rows (i + 1) n (omega (arith, e)),
            )
      ]

  pub found_is : (rows : List (List ℕ))
      → unwrap_or (position has rows) (length rows) ≡ position_of t (tasks_of (table_of rows))
  found_is rows =
      let found = found_from rows 0 (length rows) (omega arith) in
      ap (λ o. unwrap_or o (length rows)) (position_from-zero has rows) ∙ omega (arith, found)
