-- What a board finishes within some ticks, and its text.
use Rattle.std.specs.Prelude.{◌≡◌, Bool, true, List, [], ◌∷◌, ◌++◌, ◌↔◌, ℕ, ◌≤◌, ◌<◌}
use Rattle.text.specs.Text.{bytes, decimal, joined, key_line}
use Rattle.rows.specs.Rows.{row_at}
use Rattle.rows.specs.Rows.{Row}
use Rattle.boards.specs.Boards.{Done, is_done, after_ticks}
use Rattle.boards.specs.Claims.{Finishes}
use Rattle.boards.specs.Witnesses.{never}
use Rattle.watch_demands.specs.Jobs.{length_of}

-- a job's task, release and finish
unfoldable pub job_text : ℕ → ℕ → ℕ → List ℕ
job_text task release finish = joined (
    key_line (bytes "task=") (decimal task)
    ∷ key_line (bytes "release=") (decimal release)
    ∷ key_line (bytes "finish=") (decimal finish)
    ∷ [])

-- the jobs in sequence; none, no line
abbrev pub finished_text : List Row → List Done → List ℕ
finished_text order [] = []
finished_text order (d ∷ ds) =
    job_text (row_at order d.rank).task d.release d.finish ++ finished_text order ds

-- a run whose jobs have these lengths, up to tick `ticks`; no task holds the processor, so no stretch goes on
abbrev pub finished_by : List Row → (ℕ → ℕ) → List ℕ → ℕ → List Done
finished_by order offset lengths ticks =
    (after_ticks order offset (length_of order offset lengths) never ticks).finished

abbrev pub jobs_text : List Row → (ℕ → ℕ) → List ℕ → ℕ → List ℕ
jobs_text order offset lengths ticks = finished_text order (finished_by order offset lengths ticks)

-- ---- the jobs that a run finishes within some ticks, in the document's words
-- each finishes after the one before it
abbrev pub Rising : ℕ → List Done → Type 0
Rising before [] = Unit {0}
Rising before (d ∷ ds) = (before < d.finish) × Rising d.finish ds

-- those that finish by then and no others, in order of finish
pub record FinishedWithin (order : List Row) (offset : ℕ → ℕ) (need : ℕ → ℕ → ℕ) (keeps : ℕ → Bool) (ticks : ℕ)
    (ds : List Done) : Type 0 where
  pub these : (i r f : ℕ) → (is_done i r f ds ≡ true) ↔ (Finishes order offset need keeps i r f × (f ≤ ticks))
  pub in_order : Rising 0 ds
