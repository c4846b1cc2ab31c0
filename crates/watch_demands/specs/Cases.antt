-- Texts to watch and what they come to, computed: each stage of a text, each refusal, and each condition of the demands
-- occurs.
use Rattle.std.specs.Prelude.{◌≡◌, true, List, [], ◌∷◌, ◌++◌, ℕ}
use Prim.Native.String.{String}
use Rattle.text.specs.Text.{lined}
use Rattle.rows.specs.Rows.{row, rows_for}
use Rattle.rows.specs.Rows.{Row}
use Rattle.boards.specs.Boards.{is_done}
use Rattle.boards.specs.Claims.{AfterFirstReleases, NoneLate}
use Rattle.plans.specs.Outcomes.{Outcome, writes, refuses}
use Rattle.demands.specs.Demands.{FirstLate}
use Rattle.watch_demands.specs.Jobs.{index_of, rank_with}
use Rattle.watch_demands.specs.WatchLines.{offset_of}
use Rattle.watch_demands.specs.Runs.{finished_by}
use Rattle.watch_demands.specs.Calls.{watched, watch_room, watcher_prints}
use Rattle.watch_demands.specs.Demands.{TellsRun, FailsRun}

-- a text, a buffer's room and the outcome; a text and what the program prints
pub data Case : Type 0 where
  call : List ℕ → ℕ → Outcome → Case
  prints : List ℕ → List ℕ → Case

abbrev pub IsSo : Case → Type 0
IsSo (call text room w) = watched text room ≡ w
IsSo (prints text output) = watcher_prints text ≡ output

abbrev pub AllSo : List Case → Type 0
AllSo [] = Unit {0}
AllSo (c ∷ cs) = IsSo c × AllSo cs

-- two tasks under a switch of a tick, with the line of task 2's deadline, and with its period as deadline
abbrev pub table_due : String → String → String → String → List ℕ
table_due deadline2 worst1 hold1 hold2 = lined (
    "board=7" ∷ "tasks=2" ∷ "switch=1"
    ∷ "task=1" ∷ "period=10" ∷ "deadline=10" ∷ worst1 ∷ "best=1" ∷ "alpha=1000" ∷ "beta=0" ∷ hold1 ∷ "points=0"
    ∷ "task=2" ∷ "period=6" ∷ deadline2 ∷ "worst=2" ∷ "best=2" ∷ "alpha=1000" ∷ "beta=0" ∷ hold2 ∷ "points=0"
    ∷ [])

abbrev pub table_of : String → String → String → List ℕ
table_of worst1 hold1 hold2 = table_due "deadline=6" worst1 hold1 hold2

-- task 2 above task 1; both are first released on tick 1
abbrev pub run_on : String → List String → List ℕ
run_on ticks lengths =
    table_of "worst=2" "hold=0" "hold=0"
    ++ lined ("rank=2" ∷ "rank=1" ∷ "release=1" ∷ "release=1" ∷ ticks ∷ lengths)

-- the first length is task 2's, which is above; the third is the job's of tick 7
abbrev pub sample_lengths : List String
sample_lengths = "lengths=3" ∷ "length=3" ∷ "length=1" ∷ "length=2" ∷ []

abbrev pub sample : List ℕ
sample = run_on "ticks=17" sample_lengths

-- the jobs of the run, in order of finish; on tick 13 task 2 takes the processor from task 1's job of tick 11
abbrev pub four_jobs : List String
four_jobs =
    "task=2" ∷ "release=1" ∷ "finish=4"
    ∷ "task=1" ∷ "release=1" ∷ "finish=5"
    ∷ "task=2" ∷ "release=7" ∷ "finish=9"
    ∷ "task=2" ∷ "release=13" ∷ "finish=16"
    ∷ []

abbrev pub fifth_job : List String
fifth_job = "task=1" ∷ "release=11" ∷ "finish=17" ∷ []

-- the run of another table or with other ranks, no lengths and five ticks
abbrev pub other : List ℕ → List String → List ℕ
other table ranks = table ++ lined ranks ++ lined ("release=0" ∷ "release=0" ∷ "ticks=5" ∷ "lengths=0" ∷ [])

-- task 1 takes five ticks of ten and task 2 three of six, so that below it task 2 is done eight ticks after its first
-- release, and ten after its second: late by its period
abbrev pub late_below : List ℕ
late_below = other (table_of "worst=4" "hold=0" "hold=0") ("rank=1" ∷ "rank=2" ∷ [])

-- those with the line of task 2's deadline, and a run of both from tick 0
abbrev pub overrun : String → String → List String → List ℕ
overrun deadline2 ticks lengths =
    table_due deadline2 "worst=4" "hold=0" "hold=0"
    ++ lined ("rank=1" ∷ "rank=2" ∷ "release=0" ∷ "release=0" ∷ ticks ∷ lengths)

-- the first jobs of each
abbrev pub first_jobs : List String
first_jobs =
    "task=1" ∷ "release=0" ∷ "finish=5"
    ∷ "task=2" ∷ "release=0" ∷ "finish=8"
    ∷ []

-- the sample's table with a curve in its first row, and its run
abbrev pub curved : List String → List ℕ
curved points =
    lined (
    "board=7" ∷ "tasks=2" ∷ "switch=1"
    ∷ "task=1" ∷ "period=10" ∷ "deadline=10" ∷ "worst=2" ∷ "best=1" ∷ "alpha=1000" ∷ "beta=0" ∷ "hold=0" ∷ points)
    ++ lined (
    "task=2" ∷ "period=6" ∷ "deadline=6" ∷ "worst=2" ∷ "best=2" ∷ "alpha=1000" ∷ "beta=0" ∷ "hold=0" ∷ "points=0"
    ∷ "rank=2" ∷ "rank=1" ∷ "release=1" ∷ "release=1" ∷ "ticks=17" ∷ sample_lengths)

abbrev pub runs : List Case
runs =
    -- a curve changes nothing of a run, whatever it permits
    call (curved ("points=2" ∷ "delay=0" ∷ "allow=0" ∷ "delay=1" ∷ "allow=0" ∷ [])) 134
    (writes (lined four_jobs ++ lined fifth_job))
    -- the last tick counts, and a finish past it does not; a buffer with just room, and one byte short
    ∷ call sample 134 (writes (lined four_jobs ++ lined fifth_job))
    ∷ call sample 133 (refuses 9 0)
    ∷ call (run_on "ticks=16" sample_lengths) 106 (writes (lined four_jobs))
    ∷ prints sample (lined four_jobs ++ lined fifth_job)
    -- no job is finished: no line, in any buffer
    ∷ call (run_on "ticks=3" sample_lengths) 0 (writes [])
    -- without lengths every job takes its worst and the switch
    ∷ call (other (table_of "worst=2" "hold=0" "hold=0") ("rank=2" ∷ "rank=1" ∷ [])) 26
    (writes (lined ("task=2" ∷ "release=0" ∷ "finish=3" ∷ [])))
    -- a late task, with its rank, whatever the buffer
    ∷ call late_below 0 (refuses 7 2)
    ∷ prints late_below (lined ("plan=0" ∷ "refusal=7" ∷ "line=2" ∷ []))
    ∷ []

-- ---- jobs that are done after the next release of their task
abbrev pub overruns : List Case
overruns =
    -- task 2's second job waits for its first, is interrupted on tick 10, and is done after the release of the third
    call (overrun "deadline=10" "ticks=16" ("lengths=0" ∷ [])) 107
    (writes (lined first_jobs
    ++ lined ("task=1" ∷ "release=10" ∷ "finish=15" ∷ "task=2" ∷ "release=6" ∷ "finish=16" ∷ [])))
    -- on tick 8 it is released and not done; a length goes to it by its release, though an older one was pending
    ∷ call (overrun "deadline=10" "ticks=8" ("lengths=0" ∷ [])) 52 (writes (lined first_jobs))
    ∷ call (overrun "deadline=10" "ticks=10" ("lengths=3" ∷ "length=5" ∷ "length=3" ∷ "length=2" ∷ [])) 79
    (writes (lined first_jobs ++ lined ("task=2" ∷ "release=6" ∷ "finish=10" ∷ [])))
    -- a longer deadline changes nothing of the run
    ∷ call (overrun "deadline=1000000" "ticks=8" ("lengths=0" ∷ [])) 52 (writes (lined first_jobs))
    -- a tick less is late by the second job, though the first is in time; and one below worst and switch is late alone
    ∷ call (overrun "deadline=9" "ticks=8" ("lengths=0" ∷ [])) 0 (refuses 7 2)
    ∷ call (other (table_due "deadline=2" "worst=2" "hold=0" "hold=0") ("rank=2" ∷ "rank=1" ∷ [])) 0 (refuses 7 1)
    ∷ call (other (table_due "deadline=3" "worst=2" "hold=0" "hold=0") ("rank=2" ∷ "rank=1" ∷ [])) 26
    (writes (lined ("task=2" ∷ "release=0" ∷ "finish=3" ∷ [])))
    -- the line itself
    ∷ call (overrun "deadline=0" "ticks=8" ("lengths=0" ∷ [])) 0 (refuses 3 15)
    ∷ call (overrun "deadline=1000001" "ticks=8" ("lengths=0" ∷ [])) 0 (refuses 3 15)
    ∷ call (overrun "deadline=" "ticks=8" ("lengths=0" ∷ [])) 0 (refuses 2 15)
    ∷ call (overrun "worst=2" "ticks=8" ("lengths=0" ∷ [])) 0 (refuses 1 15)
    ∷ []

abbrev pub refusals : List Case
refusals =
    -- a curve is refused as in every table
    call (curved ("points=2" ∷ "delay=1" ∷ "allow=0" ∷ "delay=1" ∷ [])) 0 (refuses 11 15)
    -- the first length is not task 1's, which may take 1; the second is not task 2's; a length past worst and switch
    ∷ call (run_on "ticks=17" ("lengths=2" ∷ "length=1" ∷ "length=3" ∷ [])) 0 (refuses 3 28)
    ∷ call (run_on "ticks=17" ("lengths=2" ∷ "length=2" ∷ "length=0" ∷ [])) 0 (refuses 3 29)
    ∷ call (run_on "ticks=17" ("lengths=2" ∷ "length=2" ∷ "length=4" ∷ [])) 0 (refuses 3 29)
    -- past the last tick too: the seventh job is task 1's, of tick 21
    ∷ call (run_on "ticks=1" (
    "lengths=7" ∷ "length=3" ∷ "length=1" ∷ "length=2" ∷ "length=1" ∷ "length=3" ∷ "length=3" ∷ "length=4" ∷ [])) 0
    (refuses 3 34)
    -- a hold, also one that would be past its worst, and of the second row
    ∷ call (other (table_of "worst=2" "hold=1" "hold=0") ("rank=2" ∷ "rank=1" ∷ [])) 0 (refuses 3 11)
    ∷ call (other (table_of "worst=2" "hold=3" "hold=0") ("rank=2" ∷ "rank=1" ∷ [])) 0 (refuses 3 11)
    ∷ call (other (table_of "worst=2" "hold=0" "hold=1") ("rank=2" ∷ "rank=1" ∷ [])) 0 (refuses 3 20)
    -- as document 01 has it: a worst time with the switch past its period, a rank that is named twice
    ∷ call (other (table_of "worst=10" "hold=0" "hold=0") ("rank=2" ∷ "rank=1" ∷ [])) 0 (refuses 4 7)
    ∷ call (other (table_of "worst=2" "hold=0" "hold=0") ("rank=2" ∷ "rank=2" ∷ [])) 0 (refuses 6 23)
    -- the run's own lines: out of range, in another place, one too few, one too many
    ∷ call (table_of "worst=2" "hold=0" "hold=0" ++ lined ("rank=2" ∷ "rank=1" ∷ "release=1000001" ∷ [])) 0
    (refuses 3 24)
    ∷ call (table_of "worst=2" "hold=0" "hold=0" ++ lined ("rank=2" ∷ "rank=1" ∷ "release=1000000" ∷ [])) 0
    (refuses 1 25)
    ∷ call (run_on "ticks=0" []) 0 (refuses 3 26)
    ∷ call (run_on "ticks=1000001" []) 0 (refuses 3 26)
    ∷ call (run_on "ticks=1000000" ("lengths=2049" ∷ [])) 0 (refuses 3 27)
    ∷ call (run_on "ticks=1000000" ("lengths=2048" ∷ "lengths=2" ∷ [])) 0 (refuses 1 28)
    ∷ call (run_on "ticks=17" ("lengths=1" ∷ [])) 0 (refuses 1 28)
    ∷ call (run_on "ticks=17" ("lengths=0" ∷ "length=3" ∷ [])) 0 (refuses 1 28)
    ∷ call (run_on "lengths=0" []) 0 (refuses 1 26)
    ∷ call (run_on "ticks=017" []) 0 (refuses 2 26)
    -- what a line refuses comes before a late task
    ∷ call (late_below ++ lined ("length=3" ∷ [])) 0 (refuses 1 28)
    ∷ []

-- ---- nothing is claimed in vain
abbrev pub sample_rows : List Row
sample_rows = row 1 10 10 2 1 1000 0 0 1 ∷ row 2 6 6 2 2 1000 0 0 1 ∷ []

abbrev pub sample_order : List Row
sample_order = rows_for (2 ∷ 1 ∷ []) sample_rows

abbrev pub sample_offset : ℕ → ℕ
sample_offset = offset_of sample_rows (2 ∷ 1 ∷ []) (1 ∷ 1 ∷ [])

-- the rows of the runs in which task 2, below task 1, overruns its period, with its deadline; both are first released
-- on tick 0
abbrev pub overrun_rows : ℕ → List Row
overrun_rows deadline2 = row 1 10 10 4 1 1000 0 0 1 ∷ row 2 6 deadline2 2 2 1000 0 0 1 ∷ []

abbrev pub overrun_order : ℕ → List Row
overrun_order deadline2 = rows_for (1 ∷ 2 ∷ []) (overrun_rows deadline2)

abbrev pub overrun_offset : ℕ → ℕ
overrun_offset = offset_of (overrun_rows 10) (1 ∷ 2 ∷ []) (0 ∷ 0 ∷ [])

pub record WatchMet : Type 0 where
  -- a text that tells a run, of an order in which no task is late; one that fails; and a late order, by its period and
  -- by a deadline that its first job keeps
  pub told : TellsRun sample 7 sample_rows (2 ∷ 1 ∷ []) (1 ∷ 1 ∷ []) 17 (3 ∷ 1 ∷ 2 ∷ [])
  pub none_late : NoneLate sample_order
  pub fails : FailsRun (run_on "ticks=0" []) 3 26
  pub late : FirstLate (overrun_order 6) 1
  pub late_past_first : FirstLate (overrun_order 9) 1
  -- a job that is printed, and is held to its best line
  pub printed : is_done 1 11 17 (finished_by sample_order sample_offset (3 ∷ 1 ∷ 2 ∷ []) 17) ≡ true
  pub held_early : AfterFirstReleases sample_order sample_offset 1 11
  -- and one that is done after its task's next release, of tick 12; that of tick 12, a deadline after the first
  -- releases, is held to its best line, and that of tick 6, a period after them, is not
  pub told_overrun :
      TellsRun (overrun "deadline=10" "ticks=30" ("lengths=0" ∷ [])) 7 (overrun_rows 10) (1 ∷ 2 ∷ []) (0 ∷ 0 ∷ []) 30 []
  pub overrun_in_time : NoneLate (overrun_order 10)
  pub overrun_printed : is_done 1 6 16 (finished_by (overrun_order 10) overrun_offset [] 30) ≡ true
  pub overrun_held : AfterFirstReleases (overrun_order 10) overrun_offset 1 12
  pub overrun_not_held : AfterFirstReleases (overrun_order 10) overrun_offset 1 6 → ⊥
  pub held_printed : is_done 1 12 19 (finished_by (overrun_order 10) overrun_offset [] 30) ≡ true
  -- the program's buffer
  pub room : watch_room ≡ 65536
  -- the jobs in order of release: both of tick 1, the higher rank first, that of tick 7, those of ticks 11, 13, 19 and
  -- 21
  pub first_job : index_of sample_order sample_offset 0 0 ≡ 0
  pub with_it : index_of sample_order sample_offset 1 0 ≡ 1
  pub third_job : index_of sample_order sample_offset 0 1 ≡ 2
  pub fourth_job : rank_with sample_order sample_offset 3 ≡ 1
  pub fifth_in_turn : rank_with sample_order sample_offset 4 ≡ 0
  pub seventh_job : rank_with sample_order sample_offset 6 ≡ 1
