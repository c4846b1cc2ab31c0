-- What the watcher's call comes to for a text and the room of a buffer, and what its program prints.
use Rattle.std.specs.Prelude.{List, ℕ, zero, suc}
use Rattle.grammars.specs.Grammars.{Verdict, accepted, refused, read}
use Rattle.grammars.specs.Sequences.{first, second}
use Rattle.rows.specs.Rows.{max_buffer, rows_for}
use Rattle.rows.specs.Rows.{Row}
use Rattle.tables.specs.TableLines.{table_at}
use Rattle.plans.specs.Entries.{first_late}
use Rattle.plans.specs.Outcomes.{Outcome, refuses, fitted, printed}
use Rattle.watch_demands.specs.WatchLines.{at_release, at_ticks, at_lengths, at_length, run_end, offset_of}
use Rattle.watch_demands.specs.WatchLines.{WatchStage, watch_text, watch_start}
use Rattle.watch_demands.specs.Runs.{jobs_text}

-- an order's run: 7 with the first late rank, whatever the buffer; else lines that the buffer can't hold: 9; else them
unfoldable pub run_in_time : ℕ → List Row → (ℕ → ℕ) → List ℕ → ℕ → Outcome
run_in_time room order offset lengths ticks =
    elim (first_late order) [ zero ↦ fitted room (jobs_text order offset lengths ticks) | suc k ↦ refuses 7 (suc k) ]

-- a text is accepted only at its end
abbrev pub watched_at : ℕ → WatchStage → Outcome
watched_at room (first s) = refuses 0 0
watched_at room (second s (at_release rels)) = refuses 0 0
watched_at room (second s (at_ticks rels)) = refuses 0 0
watched_at room (second s (at_lengths rels t)) = refuses 0 0
watched_at room (second s (at_length n rels t ls)) = refuses 0 0
watched_at room (second s (run_end rels t ls)) =
    let a = table_at s in run_in_time room (rows_for a.order a.rows) (offset_of a.rows a.order rels) ls t

-- refusals 1 to 6 and 11: those of the text; else what its run comes to
abbrev pub on_watch : ℕ → Verdict WatchStage → Outcome
on_watch room (accepted s) = watched_at room s
on_watch room (refused n k) = refuses n k

unfoldable pub watched : List ℕ → ℕ → Outcome
watched text room = on_watch room (read watch_text watch_start text)

-- the program: its buffer, and what it prints for the text that it took
abbrev pub watch_room : ℕ
watch_room = max_buffer

abbrev pub watcher_prints : List ℕ → List ℕ
watcher_prints text = printed (watched text watch_room)
