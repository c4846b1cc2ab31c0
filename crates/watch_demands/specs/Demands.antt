-- What is promised of every text to watch, of any outcome and in document 02's words: which texts are accepted, which
-- jobs are printed, and that demand 3 holds of the run that is watched. Only one outcome meets it.
use Rattle.std.specs.Prelude.{◌≡◌, Bool, true, List, [], ◌∷◌, ◌++◌, ◌↔◌, ℕ, suc, ◌+◌, ◌^◌, ◌≤◌, ◌<◌, length, get_or, Result}
use Rattle.basics.specs.Basics.{is_in}
use Rattle.text.specs.Lines.{max_digits}
use Rattle.grammars.specs.Forms.{Form}
use Rattle.grammars.specs.Grammars.{a_line}
use Rattle.grammars.specs.Reasons.{Reaches, Refused}
use Rattle.grammars.specs.Sequences.{second}
use Rattle.grammars.specs.Claims.{AsWritten, Reason, Decides}
use Rattle.rows.specs.Rows.{hold_at, row_at, rows_for, cost}
use Rattle.rows.specs.Rows.{Row}
use Rattle.tables.specs.TableLines.{Stage, at_board, at_field, at-end, expected, table}
use Rattle.tables.specs.Claims.{Tells, ranked_refusals, line_of}
use Rattle.boards.specs.Boards.{Done, is_done}
use Rattle.boards.specs.Claims.{LastsInRange, AfterFirstReleases, NoneLate}
use Rattle.plans.specs.declared.Refusal.{Refusal}
use Rattle.plans.specs.Outcomes.{Outcome, writes, refuses, Written}
use Rattle.demands.specs.Demands.{ByFormulas, entry_at, Promised, Given, FirstLate}
use Rattle.watch_demands.specs.Jobs.{index_of, length_of, rank_with, Indexed}
use Rattle.watch_demands.specs.WatchLines.{max_release, min_run, max_run, max_lengths, unheld_line, unheld}
use Rattle.watch_demands.specs.WatchLines.{run_end, offset_of, watch_text, watch_start}
use Rattle.watch_demands.specs.Runs.{finished_text, FinishedWithin}
use Rattle.watch_demands.specs.Calls.{watched}

-- ---- texts
-- the text's lines are those of a board, rows, the tasks of the rank lines, first releases, ticks and lengths, and
-- nothing follows; the lines before line k are as expected, and the condition of refusal n holds there
abbrev pub TellsRun : List ℕ → ℕ → List Row → List ℕ → List ℕ → ℕ → List ℕ → Type 0
TellsRun text board rows tasks releases ticks lengths =
    AsWritten watch_text watch_start text (second (at-end board rows tasks) (run_end releases ticks lengths))

abbrev pub FailsRun : List ℕ → ℕ → ℕ → Type 0
FailsRun text n k = Reason watch_text watch_start text n k

-- the lines behind a table: a first release for each row, the ticks, how many lengths, and the lengths
abbrev pub lengths_text : List ℕ → List ℕ
lengths_text [] = []
lengths_text (v ∷ vs) = line_of "length=" v (lengths_text vs)

abbrev pub releases_text : List ℕ → List ℕ → List ℕ
releases_text [] rest = rest
releases_text (v ∷ vs) rest = line_of "release=" v (releases_text vs rest)

abbrev pub run_lines : List ℕ → ℕ → List ℕ → List ℕ
run_lines releases ticks lengths =
    releases_text releases (line_of "ticks=" ticks (line_of "lengths=" (length lengths) (lengths_text lengths)))

-- every one of some numbers is at most another
abbrev pub AllUpTo : ℕ → List ℕ → Type 0
AllUpTo most vs = (i : ℕ) → i < length vs → get_or vs i 0 ≤ most

-- the limits of a run: a first release for each row, the ticks, and no more lengths than may be; the length of the job
-- with index m from the best of its own row to its worst and the switch
pub record RunLimits (rows : List Row) (tasks releases : List ℕ) (ticks : ℕ) (lengths : List ℕ) : Type 0 where
  pub as_many : length releases ≡ length rows
  pub releases_in : AllUpTo max_release releases
  pub some_ticks : min_run ≤ ticks
  pub few_ticks : ticks ≤ max_run
  pub few_lengths : length lengths ≤ max_lengths
  pub lengths_in :
      (m : ℕ) → m < length lengths
      → let order = rows_for tasks rows in
      let r = row_at order (rank_with order (offset_of rows tasks releases) m) in
      (r.best ≤ get_or lengths m 0) × (get_or lengths m 0 ≤ cost r)

-- such a text is one that the reviewer takes, none of whose tasks holds, and those lines behind it, in their limits
pub record RunSays (text : List ℕ) (board : ℕ) (rows : List Row) (tasks releases : List ℕ) (ticks : ℕ)
    (lengths : List ℕ) : Type 0 where
  pub front : List ℕ
  pub joins : text ≡ front ++ run_lines releases ticks lengths
  pub unheld_table : AsWritten unheld at_board front (at-end board rows tasks)
  pub limits : RunLimits rows tasks releases ticks lengths
  pub reviewed : Tells true front board rows tasks
  pub none_holds : (i : ℕ) → i < length rows → (row_at rows i).hold ≡ 0
  -- the rank of a row's task has the row's first release
  pub first_release :
      (i j : ℕ) → i < length tasks → j < length rows → get_or tasks i 0 ≡ (row_at rows j).task
      → offset_of rows tasks releases i ≡ get_or releases j 0

-- and each such table with such lines behind it is read as that run
abbrev pub RunReadsBack : Type 0
RunReadsBack =
    (front : List ℕ) (board : ℕ) (rows : List Row) (tasks releases : List ℕ) (ticks : ℕ) (lengths : List ℕ)
    → AsWritten unheld at_board front (at-end board rows tasks) → RunLimits rows tasks releases ticks lengths
    → TellsRun (front ++ run_lines releases ticks lengths) board rows tasks releases ticks lengths

-- a table is refused as the reviewer refuses it, where no hold before is above 0; and a hold above 0 with 3, on its line
pub record TableRefusals (text : List ℕ) : Type 0 where
  pub as_reviewed :
      (n k : ℕ) (s : Stage) (here : List ℕ) (key : List ℕ) (form : Form)
      → Reaches unheld at_board text k s here → unheld_line s ≡ a_line key form → expected s ≡ a_line key form
      → Refused (table true) s here n → FailsRun text n k
  pub held :
      (k left board switch v : ℕ) (rows : List Row) (values rest : List ℕ)
      → Reaches unheld at_board text k (at_field left board switch rows values) (line_of "hold=" (suc v) rest)
      → length values ≡ hold_at → suc v < 10 ^ max_digits → FailsRun text 3 k

-- ---- a run that is watched
-- of an order, its first releases and the lengths of its jobs
module _ (order : List Row) (offset : ℕ → ℕ) (lengths : List ℕ) where
  abbrev need : ℕ → ℕ → ℕ
  need = length_of order offset lengths

  -- demand 3 of this very run, whatever it says of stretches: no job that is printed is later than the `worst` line of
  -- its task in the order's plan, or earlier than its `best` line where that is promised
  pub record RunKept (ds : List Done) : Type 0 where
    pub in_time : (i r f : ℕ) → is_done i r f ds ≡ true → (r < f) × (f ≤ r + (entry_at order i).worst)
    pub not_early :
        (i r f : ℕ) → is_done i r f ds ≡ true → AfterFirstReleases order offset i r → r + (entry_at order i).best ≤ f

  -- what it comes to: 7 exactly for the first late rank, counted from 1; else 9 exactly where the room is shorter than
  -- the lines of the jobs that finish within the ticks, and else these lines
  pub record RunOf (room ticks : ℕ) (w : Outcome) : Type 0 where
    pub indexed : Indexed order offset
    -- a job within the list takes the length with its index, one past it its worst and the switch; so each lasts what
    -- its row allows
    pub given :
        (i k : ℕ) → index_of order offset i k < length lengths → need i k ≡ get_or lengths (index_of order offset i k) 0
    pub past :
        (i k : ℕ) → length lengths ≤ index_of order offset i k
        → need i k ≡ (row_at order i).worst + (row_at order i).switch
    pub lasts : LastsInRange order need
    -- each job has its three lines, one job after another
    pub lines :
        (d : Done) (ds : List Done)
        → finished_text order (d ∷ ds)
        ≡ line_of "task=" (row_at order d.rank).task (line_of "release=" d.release
        (line_of "finish=" d.finish (finished_text order ds)))
    pub no_line : finished_text order [] ≡ []
    -- each rank's figures are by the formulas, and so is whether it is late
    pub by_formulas : ByFormulas order
    pub seven : (k : ℕ) → (w ≡ refuses 7 (suc k)) ↔ FirstLate order k
    pub nine :
        NoneLate order → (keeps : ℕ → Bool) (ds : List Done) → FinishedWithin order offset need keeps ticks ds
        → (w ≡ refuses 9 0) ↔ (room < length (finished_text order ds))
    pub written :
        NoneLate order → (keeps : ℕ → Bool) (ds : List Done) → FinishedWithin order offset need keeps ticks ds
        → (w ≡ writes (finished_text order ds)) ↔ (length (finished_text order ds) ≤ room)
    pub some_run : (keeps : ℕ → Bool) → (ds : List Done) × FinishedWithin order offset need keeps ticks ds
    pub promised : NoneLate order → Promised order
    pub kept :
        NoneLate order → (keeps : ℕ → Bool) (ds : List Done) → FinishedWithin order offset need keeps ticks ds
        → RunKept ds

abbrev pub watcher_refusals : List ℕ
watcher_refusals = ranked_refusals ++ (7 ∷ 9 ∷ [])

pub record WatchDemands (text : List ℕ) (room : ℕ) (w : Outcome) : Type 0 where
  -- every text is refused exactly for its reason, with its line, or accepted as it is written
  pub decides : Decides watch_text watch_start text
  pub listed : (n p : ℕ) → w ≡ refuses n p → is_in n watcher_refusals ≡ true
  pub refused : (n k : ℕ) → ((w ≡ refuses n k) × (is_in n ranked_refusals ≡ true)) ↔ FailsRun text n k
  pub says :
      (board : ℕ) (rows : List Row) (tasks releases : List ℕ) (ticks : ℕ) (lengths : List ℕ)
      → TellsRun text board rows tasks releases ticks lengths
      → RunSays text board rows tasks releases ticks lengths × Given rows tasks (rows_for tasks rows)
  pub reads_back : RunReadsBack
  pub refused_tables : TableRefusals text
  -- the order given by the rank lines is run from the first releases of its rows
  pub accepted :
      (board : ℕ) (rows : List Row) (tasks releases : List ℕ) (ticks : ℕ) (lengths : List ℕ)
      → TellsRun text board rows tasks releases ticks lengths
      → (order : List Row) → Given rows tasks order
      → RunOf order (offset_of rows tasks releases) lengths room ticks w

-- what the public call promises, of the bytes of its buffer before and after it and of what it returns
pub record WatchSays (text buffer buffer' : List ℕ) (r : Result ℕ Refusal) : Type 0 where
  pub answer : Written (watched text (length buffer)) buffer buffer' r
  pub demands : WatchDemands text (length buffer) (watched text (length buffer))
  pub no_other : (w : Outcome) → WatchDemands text (length buffer) w → w ≡ watched text (length buffer)
