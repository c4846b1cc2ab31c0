-- A text to watch: a table with its rank lines, none of whose tasks holds the processor; then a first release for each
-- row, the ticks to run, and the lengths of jobs. What each line is to be, and what it leaves to be read.
use Rattle.std.specs.Prelude.{true, List, [], ◌∷◌, ◌++◌, ℕ, eqb, length, get_or}
use Rattle.basics.specs.Basics.{pick}
use Rattle.text.specs.Text.{bytes}
use Rattle.grammars.specs.Forms.{natural, size}
use Rattle.grammars.specs.Grammars.{Expected, the_end, a_line, Grammar}
use Rattle.grammars.specs.Sequences.{Sequel, first, sequence}
use Rattle.rows.specs.Rows.{hold_at, row_at, rows_for, cost, tasks_of, position_of}
use Rattle.rows.specs.Rows.{Row}
use Rattle.tables.specs.TableLines.{Stage, at_board, at_tasks, at_switch, at_field, at_rank, at-end, expected, table}
use Rattle.tables.specs.TableLines.{table_at}
use Rattle.watch_demands.specs.Jobs.{rank_with}

-- a first release; the ticks of a run; how many lengths there are
abbrev pub min_release : ℕ
min_release = 0

abbrev pub max_release : ℕ
max_release = 1000000

abbrev pub min_run : ℕ
min_run = 1

abbrev pub max_run : ℕ
max_run = 1000000

abbrev pub min_lengths : ℕ
min_lengths = 0

abbrev pub max_lengths : ℕ
max_lengths = 2048

-- ---- the table
-- as the reviewer takes it, but that a hold is 0 and nothing else
abbrev pub no_hold : ℕ
no_hold = 0

abbrev pub unheld_line : Stage → Expected
unheld_line at_board = expected at_board
unheld_line (at_tasks b) = expected (at_tasks b)
unheld_line (at_switch n b) = expected (at_switch n b)
unheld_line (at_field n b s rs vs) =
    pick (eqb (length vs) hold_at) (a_line (bytes "hold=") (natural no_hold no_hold)) (expected (at_field n b s rs vs))
unheld_line (at_rank n b rs os) = expected (at_rank n b rs os)
unheld_line (at-end b rs os) = expected (at-end b rs os)

abbrev pub unheld : Grammar Stage
unheld = record { expected = unheld_line; fault = (table true).fault; after = (table true).after }

-- ---- the run
-- the first releases so far; with them the ticks; with them the lengths so far, of as many as there are
pub data RunStage : Type 0 where
  at_release : (releases : List ℕ) → RunStage
  at_ticks : (releases : List ℕ) → RunStage
  at_lengths : (releases : List ℕ) (ticks : ℕ) → RunStage
  at_length : (count : ℕ) (releases : List ℕ) (ticks : ℕ) (lengths : List ℕ) → RunStage
  run_end : (releases : List ℕ) (ticks : ℕ) (lengths : List ℕ) → RunStage

-- as many first releases as rows, then the ticks; as many lengths as the text says, then the end
abbrev pub releases_stage : ℕ → List ℕ → RunStage
releases_stage rows releases = pick (eqb (length releases) rows) (at_ticks releases) (at_release releases)

abbrev pub lengths_stage : ℕ → List ℕ → ℕ → List ℕ → RunStage
lengths_stage count releases ticks lengths =
    pick (eqb (length lengths) count) (run_end releases ticks lengths) (at_length count releases ticks lengths)

-- of a table's rows, and of the tasks of its rank lines
module _ (rows : List Row) (tasks : List ℕ) where
  -- rank i's first release is that of its row
  abbrev pub offset_of : List ℕ → ℕ → ℕ
  offset_of releases i = get_or releases (position_of (get_or tasks i 0) (tasks_of rows)) 0

  -- the row of the job that the next length is for
  abbrev pub next_row : List ℕ → List ℕ → Row
  next_row releases lengths =
      let order = rows_for tasks rows in row_at order (rank_with order (offset_of releases) (length lengths))

  abbrev pub run_line : RunStage → Expected
  run_line (at_release rels) = a_line (bytes "release=") (natural min_release max_release)
  run_line (at_ticks rels) = a_line (bytes "ticks=") (natural min_run max_run)
  run_line (at_lengths rels t) = a_line (bytes "lengths=") (natural min_lengths max_lengths)
  run_line (at_length n rels t ls) = let r = next_row rels ls in a_line (bytes "length=") (natural r.best (cost r))
  run_line (run_end rels t ls) = the_end

  abbrev pub run_after : RunStage → ℕ → RunStage
  run_after (at_release rels) v = releases_stage (length rows) (rels ++ (v ∷ []))
  run_after (at_ticks rels) v = at_lengths rels v
  run_after (at_lengths rels t) v = lengths_stage v rels t []
  run_after (at_length n rels t ls) v = lengths_stage n rels t (ls ++ (v ∷ []))
  run_after (run_end rels t ls) v = run_end rels t ls

  abbrev pub run : Grammar RunStage
  run = record { expected = run_line; fault = λ s z. 0; after = λ s z. run_after s (size z) }

-- ---- the whole text
abbrev pub run_behind : Stage → Grammar RunStage
run_behind s = let a = table_at s in run a.rows a.order

abbrev pub run_begins : Stage → RunStage
run_begins s = releases_stage (length (table_at s).rows) []

abbrev pub WatchStage : Type 0
WatchStage = Sequel Stage RunStage

abbrev pub watch_text : Grammar WatchStage
watch_text = sequence unheld run_behind run_begins

abbrev pub watch_start : WatchStage
watch_start = first at_board
