-- What is claimed of every text: a table that is accepted is sound and is what the text says,
-- and a refusal has its reason.
use Rattle.std.specs.Prelude.{◌≡◌, Bool, true, false, List, [], ◌∷◌, ◌++◌, ℕ, suc, ◌≤◌, length}
use Prim.Native.String.{String}
use Rattle.text.specs.Text.{bytes, decimal, key_line}
use Rattle.grammars.specs.Claims.{AsWritten, Reason}
use Rattle.curves.specs.Curves.{Point, max_points}
use Rattle.curves.specs.Claims.{FormedSo}
use Rattle.rows.specs.Rows.{Row, min_tasks, max_tasks, lines_for, OneSwitch, in_range, all_rows, distinct_rows, is_possible}
use Rattle.tables.specs.TableLines.{min_board, max_board, row_lines, at_board, at-end, table}
use Rattle.tables.specs.TableLines.{TableRead, table_of, turned_down, read_table}

-- an accepted table
pub record Accepted (ranked : Bool) (a : TableRead) : Type 0 where
  pub board_low : min_board ≤ a.board
  pub board_high : a.board ≤ max_board
  pub some_rows : min_tasks ≤ length a.rows
  pub few_rows : length a.rows ≤ max_tasks
  pub rows_in_range : all_rows in_range a.rows ≡ true
  pub rows_distinct : distinct_rows a.rows ≡ true
  pub ranks_possible : ranked ≡ true → is_possible a.order a.rows ≡ true
  pub no_ranks : ranked ≡ false → a.order ≡ []

-- the text's lines are those of a board, rows and the tasks of the rank lines, and nothing follows
abbrev pub Tells : Bool → List ℕ → ℕ → List Row → List ℕ → Type 0
Tells ranked text board rows tasks = AsWritten (table ranked) at_board text (at-end board rows tasks)

-- the lines before line k are as expected, and the condition of refusal n holds there
abbrev pub Fails : Bool → List ℕ → ℕ → ℕ → Type 0
Fails ranked text n k = Reason (table ranked) at_board text n k

-- the refusals of a table, and of one with rank lines
abbrev pub table_refusals : List ℕ
table_refusals = 1 ∷ 2 ∷ 3 ∷ 4 ∷ 5 ∷ 11 ∷ []

abbrev pub ranked_refusals : List ℕ
ranked_refusals = table_refusals ++ (6 ∷ [])

-- ---- a table's own text
-- a line before what follows it; the lines of some points, of a row, of some rows, of some ranks, and of a table
abbrev pub line_of : String → ℕ → List ℕ → List ℕ
line_of key v rest = key_line (bytes key) (decimal v) ++ rest

abbrev pub points_text : List Point → List ℕ → List ℕ
points_text [] rest = rest
points_text (p ∷ ps) rest = line_of "delay=" p.delay (line_of "allow=" p.allow (points_text ps rest))

abbrev pub row_text : Row → List ℕ → List ℕ
row_text r rest =
    line_of "task=" r.task (line_of "period=" r.period (line_of "deadline=" r.deadline
    (line_of "worst=" r.worst (line_of "best=" r.best (line_of "alpha=" r.alpha (line_of "beta=" r.beta
    (line_of "hold=" r.hold (line_of "points=" (length r.curve) (points_text r.curve rest)))))))))

abbrev pub rows_text : List Row → List ℕ → List ℕ
rows_text [] rest = rest
rows_text (r ∷ rs) rest = row_text r (rows_text rs rest)

abbrev pub ranks_text : List ℕ → List ℕ
ranks_text [] = []
ranks_text (t ∷ ts) = line_of "rank=" t (ranks_text ts)

abbrev pub table_text : ℕ → ℕ → List Row → List ℕ → List ℕ
table_text board switch rows tasks =
    line_of "board=" board (line_of "tasks=" (length rows) (line_of "switch=" switch (rows_text rows (ranks_text tasks))))

-- the text begins with the lines of the table's head, and the rows have the switch of its third line
pub record HeadSays (text : List ℕ) (board : ℕ) (rows : List Row) : Type 0 where
  pub switch : ℕ
  pub rest : List ℕ
  pub head : text ≡ line_of "board=" board (line_of "tasks=" (length rows) (line_of "switch=" switch rest))
  pub in_rows : OneSwitch switch rows

-- a table in its limits whose rows have one switch is read from its own text
abbrev pub ReadsBack : Bool → Type 0
ReadsBack ranked =
    (b s : ℕ) (rs : List Row) (os : List ℕ) → Accepted ranked (table_of b rs os) → OneSwitch s rs
    → read_table ranked (table_text b s rs os) ≡ table_of b rs os

-- every text is accepted as it is written, or refused for its reason
pub record Read (ranked : Bool) (text : List ℕ) : Type 0 where
  -- there are lines for the most points
  pub each_line : length row_lines ≡ lines_for max_points
  pub sound : (read_table ranked text).refused ≡ 0 → Accepted ranked (read_table ranked text)
  pub as_written :
      (read_table ranked text).refused ≡ 0
      → let a = read_table ranked text in Tells ranked text a.board a.rows a.order
  pub reason :
      (n : ℕ) → (read_table ranked text).refused ≡ suc n → Fails ranked text (suc n) (read_table ranked text).line
  -- and the other way round: what the lines say decides the answer
  pub accepts :
      (b : ℕ) (rs : List Row) (os : List ℕ) → Tells ranked text b rs os → read_table ranked text ≡ table_of b rs os
  pub refuses : (n k : ℕ) → Fails ranked text n k → read_table ranked text ≡ turned_down n k
  pub head_says : (b : ℕ) (rs : List Row) (os : List ℕ) → Tells ranked text b rs os → HeadSays text b rs
  -- what is written is read
  pub reads_back : ReadsBack ranked
  -- where the limits of a row ask for a well-formed curve, its points say which are
  pub formed_so : FormedSo
