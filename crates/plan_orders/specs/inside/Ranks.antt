-- A promise between functions: what comes of an order's ranks, their text or the first late rank.
use Rattle.std.specs.Prelude.{◌≡◌, List, ℕ, ◌<◌, Option, Some, None, Result, Ok, Err}
use Rattle.text.specs.Text.{joined}
use Rattle.text.specs.Buffers.{Wrote}
use Rattle.rows.specs.Rows.{Row}
use Rattle.plans.specs.Entries.{entries, first_late}
use Rattle.plans.specs.Plans.{rank_texts, plan_text}

-- the first late rank, where there is one
abbrev pub FirstLate : List Row → Option ℕ → Type 0
FirstLate order None = first_late order ≡ 0
FirstLate order (Some late) = (first_late order ≡ late) × (0 < late)

-- the ranks' text is written, or one of them is late, and the buffer is left open
abbrev pub PutsRanks : List Row → List ℕ → List ℕ → Result ℕ ℕ → Type 0
PutsRanks order buffer buffer' (Ok long) =
    (first_late order ≡ 0) × Wrote (joined (rank_texts 1 (entries order))) buffer buffer' long
PutsRanks order buffer buffer' (Err late) = FirstLate order (Some late)

-- the same of its plan
abbrev pub PutsPlan : ℕ → List Row → List ℕ → List ℕ → Result ℕ ℕ → Type 0
PutsPlan board order buffer buffer' (Ok long) =
    (first_late order ≡ 0) × Wrote (plan_text board (entries order)) buffer buffer' long
PutsPlan board order buffer buffer' (Err late) = FirstLate order (Some late)
