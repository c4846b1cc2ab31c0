-- Promised between functions: a table that was read, its numbers where the caller lent room for them.
use Rattle.std.specs.Prelude.{◌≡◌, ◌≢◌, Bool, List, ℕ, ◌+◌, ◌≤◌, length, Result, MatchResult}
use Rattle.text.specs.Lines.{fault_number}
use Rattle.text.specs.declared.LineRefusal.{LineRefusal}
use Rattle.tables.specs.TableLines.{read_table}
use Rattle.tables.specs.Claims.{Read}
use Rattle.readers.specs.inside.Numbers.{row_start, board_in, rows_in, behind}

-- a text that is read: the numbers are its table's, its board, its rows one after another, then the tasks of its rank
-- lines
pub record Held (ranked : Bool) (text ns : List ℕ) (count : ℕ) : Type 0 where
  pub ok : (read_table ranked text).refused ≡ 0
  pub count_is : count ≡ length (read_table ranked text).rows
  pub long : row_start count + length (read_table ranked text).order ≤ length ns
  pub board_is : board_in ns ≡ (read_table ranked text).board
  pub rows_are : rows_in count ns ≡ (read_table ranked text).rows
  pub order_is :
      let order = (read_table ranked text).order in
      behind count (length order) ns ≡ order

-- a text that is refused
pub record Refused (ranked : Bool) (text : List ℕ) (e : LineRefusal) : Type 0 where
  pub some : fault_number e.fault ≢ 0
  pub refused_is : fault_number e.fault ≡ (read_table ranked text).refused
  pub line_is : e.line ≡ (read_table ranked text).line

-- the result is the definition's answer, and all that is claimed of that answer holds
pub record ReadAs (ranked : Bool) (text ns : List ℕ) (r : Result ℕ LineRefusal) : Type 0 where
  pub answer : MatchResult r (Held ranked text ns) (Refused ranked text)
  pub read : Read ranked text
