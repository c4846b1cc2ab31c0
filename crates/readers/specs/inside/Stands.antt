-- Promised between functions: where in a table the code stands, and what that says of the text's reading.
use Rattle.std.specs.Prelude.{◌≡◌, Bool, true, false, List, [], ◌∷◌, ◌++◌, ℕ, zero, suc, ◌+◌, ◌*◌, ◌≤◌, ◌<◌, length, take, drop, set, Option, Some, None, Result, Ok, Err, MatchResult}
use Rattle.basics.specs.Basics.{pick}
use Rattle.text.specs.Text.{bytes}
use Rattle.text.specs.Lines.{line_at, end_at}
use Rattle.text.specs.Line.{Line}
use Rattle.text.specs.declared.LineRefusal.{LineRefusal}
use Rattle.grammars.specs.inside.Answers.{tested}
use Rattle.grammars.specs.inside.Readers.{Reader, Takes, Refuses}
use Rattle.grammars.specs.Grammars.{accepted, step, stops}
use Rattle.curves.specs.Curves.{min_points, max_points}
use Rattle.rows.specs.Rows.{min_task, max_task, min_switch, max_switch, min_tasks, max_tasks, lines_for}
use Rattle.rows.specs.inside.Numbers.{line_count}
use Rattle.readers.specs.declared.progress.Part.{Part}
use Rattle.readers.specs.declared.progress.Part.TheVariants as P
use Rattle.readers.specs.declared.progress.Stand.{Stand}
use Rattle.readers.specs.declared.progress.Progress.{Progress}
use Rattle.tables.specs.TableLines.{min_board, max_board, new_rank, row_line_at, is_whole}
use Rattle.tables.specs.inside.Partial.{Partial}
use Rattle.tables.specs.TableLines.{Stage, at_board, at_tasks, at_switch, at_field, at_rank, at-end, table}
use Rattle.readers.specs.inside.Numbers.{head_count, line_bytes, Room, row_start, board_in, head_switch_at, switch_in}
use Rattle.readers.specs.inside.Numbers.{rows_in, behind}

-- ---- the line that is expected
abbrev pub field_line : ℕ → List ℕ → ℕ → ℕ → Line
field_line i text at k = let l = row_line_at i in line_at l.key l.low l.high text at k

-- with the test of its number, by the numbers so far
abbrev pub row_line_tested : ℕ → ℕ → List ℕ → List ℕ → ℕ → ℕ → Line
row_line_tested n i ns text at k =
    tested ((row_line_at i).fault (switch_in ns) (rows_in n ns) (behind n i ns)) (field_line i text at k) k

abbrev pub line_here : Part → ℕ → List ℕ → ℕ → ℕ → Line
line_here P.Board i text at k = line_at (bytes "board=") min_board max_board text at k
line_here P.Tasks i text at k = line_at (bytes "tasks=") min_tasks max_tasks text at k
line_here P.Switch i text at k = line_at (bytes "switch=") min_switch max_switch text at k
line_here P.Row i text at k = field_line i text at k
line_here P.Rank i text at k = line_at (bytes "rank=") min_task max_task text at k
line_here P.End i text at k = end_at text at k

-- the refusal of its number, 0 for none, by the numbers so far
abbrev pub fault_in : Part → Stand → List ℕ → ℕ → ℕ
fault_in P.Board s ns v = 0
fault_in P.Tasks s ns v = 0
fault_in P.Switch s ns v = 0
fault_in P.Row s ns v =
    (row_line_at s.position).fault (switch_in ns) (rows_in s.count ns) (behind s.count s.position ns) v
fault_in P.Rank s ns v = new_rank (rows_in s.count ns) (behind s.count s.position ns) v
fault_in P.End s ns v = 0

-- ---- where the code stands
-- the table is read
abbrev pub is_end : Part → Bool
is_end P.Board = false
is_end P.Tasks = false
is_end P.Switch = false
is_end P.Row = false
is_end P.Rank = false
is_end P.End = true

abbrev pub stand : Part → Bool → ℕ → ℕ → ℕ → Stand
stand part ranked count left position =
    record { part = part; ranked = ranked; count = count; left = left; position = position }

abbrev pub start : Bool → Stand
start ranked = stand P.Board ranked 0 0 0

-- where n rank lines are left, and where n rows are
abbrev pub ranks_next : Bool → ℕ → ℕ → ℕ → Stand
ranks_next ranked count named zero = stand P.End ranked count 0 named
ranks_next ranked count named (suc n) = stand P.Rank ranked count n named

abbrev pub rows_next : Bool → ℕ → ℕ → Stand
rows_next ranked count zero = ranks_next ranked count 0 (pick ranked count 0)
rows_next ranked count (suc n) = stand P.Row ranked count n 0

-- behind one more number of a row, its last or not
abbrev pub after_field : Bool → Stand → Stand
after_field last s =
    pick last
    (rows_next s.ranked (suc s.count) s.left)
    (stand P.Row s.ranked s.count s.left (suc s.position))

abbrev pub stand_after : Part → Bool → Stand → ℕ → Stand
stand_after P.Board last s v = stand P.Tasks s.ranked 0 0 0
stand_after P.Tasks last s v = stand P.Switch s.ranked 0 v 0
stand_after P.Switch last s v = rows_next s.ranked 0 s.left
stand_after P.Row last s v = after_field last s
stand_after P.Rank last s v = ranks_next s.ranked s.count (suc s.position) s.left
stand_after P.End last s v = s

-- whether a number is the last of its row
abbrev pub ends_row : Part → Stand → List ℕ → ℕ → Bool
ends_row P.Board s ns v = false
ends_row P.Tasks s ns v = false
ends_row P.Switch s ns v = false
ends_row P.Row s ns v = is_whole (behind s.count s.position ns ++ (v ∷ []))
ends_row P.Rank s ns v = false
ends_row P.End s ns v = false

-- how many lines have been read at least, and at most; how many numbers there are; and what is known of the counts
abbrev pub fewest_lines : Part → Stand → ℕ
fewest_lines P.Board s = 0
fewest_lines P.Tasks s = 1
fewest_lines P.Switch s = 2
fewest_lines P.Row s = head_count + lines_for min_points * s.count + s.position
fewest_lines P.Rank s = head_count + lines_for min_points * s.count + s.position
fewest_lines P.End s = head_count + lines_for min_points * s.count + s.position

abbrev pub most_lines : Part → Stand → ℕ
most_lines P.Board s = 0
most_lines P.Tasks s = 1
most_lines P.Switch s = 2
most_lines P.Row s = head_count + lines_for max_points * s.count + s.position
most_lines P.Rank s = head_count + lines_for max_points * s.count + s.position
most_lines P.End s = head_count + lines_for max_points * s.count + s.position

abbrev pub read_by : Part → Stand → ℕ
read_by P.Board s = 0
read_by P.Tasks s = 1
read_by P.Switch s = 2
read_by P.Row s = row_start s.count + s.position
read_by P.Rank s = row_start s.count + s.position
read_by P.End s = row_start s.count + s.position

abbrev pub Counted : Part → Stand → Type 0
Counted P.Board s = (s.position ≡ 0) × (s.count ≡ 0)
Counted P.Tasks s = (s.position ≡ 0) × (s.count ≡ 0)
Counted P.Switch s = (s.position ≡ 0) × (s.count ≡ 0) × (s.left ≤ max_tasks)
Counted P.Row s = (s.position < line_count) × (s.count + suc s.left ≤ max_tasks)
Counted P.Rank s = (s.position + suc s.left ≤ s.count) × (s.count ≤ max_tasks)
Counted P.End s = (s.position ≤ s.count) × (s.count ≤ max_tasks)

abbrev pub Going : Part → Stand → List ℕ → Type 0
Going P.Board s ws = Unit {0}
Going P.Tasks s ws = Unit {0}
Going P.Switch s ws = Unit {0}
Going P.Row s ws = Partial (drop (row_start s.count) ws)
Going P.Rank s ws = Unit {0}
Going P.End s ws = Unit {0}

-- ---- a line's number is put behind those before it, and the switch where it stands in a row that is whole
abbrev pub with_number : Bool → ℕ → ℕ → ℕ → List ℕ → List ℕ
with_number last at switch v ns = let ms = set ns at v in pick last (set ms switch (switch_in ms)) ms

-- there is room for it
pub record PutAt (last : Bool) (at switch : ℕ) (ns : List ℕ) : Type 0 where
  pub here : at < length ns
  pub behind : last ≡ true → (head_switch_at < at) × (at < switch) × (switch < length ns)

-- ---- what it shows of the text's reading, with the numbers so far
abbrev pub stage_in : Part → Stand → List ℕ → Stage
stage_in P.Board s ws = at_board
stage_in P.Tasks s ws = at_tasks (board_in ws)
stage_in P.Switch s ws = at_switch s.left (board_in ws)
stage_in P.Row s ws =
    at_field s.left (board_in ws) (switch_in ws) (rows_in s.count ws) (drop (row_start s.count) ws)
stage_in P.Rank s ws = at_rank s.left (board_in ws) (rows_in s.count ws) (drop (row_start s.count) ws)
stage_in P.End s ws = at-end (board_in ws) (rows_in s.count ws) (drop (row_start s.count) ws)

abbrev pub so_far : Stand → List ℕ → List ℕ
so_far s ns = take (read_by s.part s) ns

abbrev pub stage_of : Stand → List ℕ → Stage
stage_of s ns = stage_in s.part s (so_far s ns)

-- a stand before the line k that begins at an offset: each line before it had its bytes, and has its number; and there
-- is room for more
pub record Stands (text : List ℕ) (at : ℕ) (s : Stand) (k : ℕ) (ns : List ℕ) : Type 0 where
  pub room : Room text ns
  pub bytes : line_bytes * k ≤ at + line_bytes
  pub long : read_by s.part s ≤ length ns
  pub fewest : fewest_lines s.part s < k
  pub most : k ≤ suc (most_lines s.part s)
  pub counted : Counted s.part s
  pub going : Going s.part s (so_far s ns)

-- ---- a step taken
abbrev pub progress : Stand → ℕ → ℕ → Progress
progress s line offset = record { stand = s; line = line; offset = offset }

-- before the first line
abbrev pub begun : Bool → Progress
begun ranked = progress (start ranked) 1 0

-- ---- the code as a reader: what its state and the numbers show of the text's reading
abbrev pub reader : Reader (Progress × List ℕ) Stage
reader = record {
  line = λ x. x.0.line;
  offset = λ x. x.0.offset;
  shows = λ x. stage_of x.0.stand x.1;
}

-- before its line
abbrev pub On : Bool → List ℕ → Progress × List ℕ → Type 0
On ranked text x =
    (x.0.stand.ranked ≡ ranked) × Stands text x.0.offset x.0.stand x.0.line x.1

-- past the line that it takes, or refused there
abbrev pub TakesLine : Progress → List ℕ → List ℕ → Result Progress LineRefusal → List ℕ → Type 0
TakesLine p text ns r ms =
    let ranked = p.stand.ranked in
    let taken = step (table ranked) text (stage_of p.stand ns) p.offset p.line in
    MatchResult r (λ q. Takes reader (On ranked text) taken (q, ms)) (Refuses taken)

-- past the line that it takes, or where none is expected, at the text's end
abbrev pub TakesOrEnds : Progress → List ℕ → List ℕ → Result (Option Progress) LineRefusal → List ℕ → Type 0
TakesOrEnds p text ns (Ok None) ms =
    let s = stage_of p.stand ns in
    (step (table p.stand.ranked) text s p.offset p.line ≡ stops (accepted s)) × (ms ≡ ns)
TakesOrEnds p text ns (Ok (Some q)) ms = TakesLine p text ns (Ok q) ms
TakesOrEnds p text ns (Err e) ms = TakesLine p text ns (Err e) ms
