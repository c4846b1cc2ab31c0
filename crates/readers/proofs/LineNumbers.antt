-- A table's numbers one after another: where the rows before another number stay as they were, and what stands behind
-- them grows by that number.
use mathlib.Core.Path.{◌≡◌, sym, ap, ap₂, ◌∙◌}
use mathlib.Core.List.{List, [], ◌∷◌, ◌++◌}
use Prim.Native.Nat.{ℕ, suc, ◌*◌, ◌≤◌}
use native.Mathlib.Omega.{arith}
use lib.ListN.{length, take, drop, length-drop, take-append-drop, get_or-append}
use lib.Seq.{drop-drop, drop-append-le, length-take-le}
use Rattle.rows.specs.Rows.{Row}
use Rattle.rows.specs.inside.Numbers.{field_count, row_from, rows_of}
use Rattle.rows.proofs.RowNumbers.{rows_snoc, rows-kept}
use Rattle.readers.specs.inside.Numbers.{head_count, row_start, board_in, switch_in, rows_in}

-- the row that begins behind n rows
rows_next : (ws : List ℕ) (n : ℕ) → rows_in (suc n) ws ≡ rows_in n ws ++ (row_from (drop (row_start n) ws) ∷ [])
rows_next ws n =
    rows_snoc n (drop head_count ws)
    ∙ ap (λ xs. rows_in n ws ++ (row_from xs ∷ [])) (drop-drop (field_count * n) head_count ws)

pub board_stays : (ws ys : List ℕ) → 1 ≤ length ws → board_in (ws ++ ys) ≡ board_in ws
board_stays ws ys h = get_or-append ws ys 0 0 h

pub switch_stays : (ws ys : List ℕ) → head_count ≤ length ws → switch_in (ws ++ ys) ≡ switch_in ws
switch_stays ws ys h = get_or-append ws ys 0 2 h

module _ (ws ys : List ℕ) (n : ℕ) (h : row_start n ≤ length ws) where
  pub rows_stay : rows_in n (ws ++ ys) ≡ rows_in n ws
  rows_stay =
      ap (rows_of n) (drop-append-le head_count ws ys (omega arith))
      ∙ rows-kept n (drop head_count ws) ys (omega (arith, length-drop head_count ws))

  pub behind_grows : drop (row_start n) (ws ++ ys) ≡ drop (row_start n) ws ++ ys
  behind_grows = drop-append-le (row_start n) ws ys h

  -- whatever is made of the four
  pub grows : {A : Type 0} (F : ℕ → ℕ → List Row → List ℕ → A)
      → F (board_in (ws ++ ys)) (switch_in (ws ++ ys)) (rows_in n (ws ++ ys)) (drop (row_start n) (ws ++ ys))
      ≡ F (board_in ws) (switch_in ws) (rows_in n ws) (drop (row_start n) ws ++ ys)
  grows F = rw (board_stays ws ys (omega arith), switch_stays ws ys (omega arith), rows_stay, behind_grows)

  -- the last number of a row makes one row more
  pub row_made : rows_in (suc n) (ws ++ ys) ≡ rows_in n ws ++ (row_from (drop (row_start n) ws ++ ys) ∷ [])
  row_made = rows_next (ws ++ ys) n ∙ ap₂ (λ rs xs. rs ++ (row_from xs ∷ [])) rows_stay behind_grows

-- the rows among the first numbers are those of all
pub rows_front : (n m : ℕ) (ns : List ℕ) → row_start n ≤ m → m ≤ length ns → rows_in n (take m ns) ≡ rows_in n ns
rows_front n m ns h l =
    sym (rows_stay (take m ns) (drop m ns) n (omega (arith, length-take-le m ns l)))
    ∙ ap (rows_in n) (take-append-drop m ns)
