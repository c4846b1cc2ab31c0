-- The figures that a plan writes of an order, rank by rank: each row between those above it and those below it, in the
-- order's own sequence.
use Rattle.std.specs.Prelude.{true, false, List, [], ◌∷◌, ◌++◌, ℕ, suc, pos}
use Rattle.rows.specs.Rows.{Row}
use Rattle.responses.specs.Figures as Figures
use Rattle.responses.specs.Figures.{is_late}
use Rattle.plans.specs.declared.Entry.{Entry}

abbrev pub entry : Row → List Row → List Row → Entry
entry r above below = record {
  task = r.task;
  best = Figures.earliest r above below;
  worst = Figures.latest r above below;
  jitter = Figures.jitter r above below;
  margin = Figures.margin r above below;
}

abbrev pub entries_from : List Row → List Row → List Entry
entries_from above [] = []
entries_from above (r ∷ rs) = entry r above rs ∷ entries_from (above ++ (r ∷ [])) rs

abbrev pub entries : List Row → List Entry
entries order = entries_from [] order

-- what stands past the last rank
abbrev pub no_entry : Entry
no_entry = record { task = 0; best = 0; worst = 0; jitter = 0; margin = pos 0 }

-- the first late task from the top: its rank, counted from 1; 0 for none
abbrev pub late_from : ℕ → List Row → List Row → ℕ
late_from k above [] = 0
late_from k above (r ∷ rs) = elim (is_late r above rs) [ true ↦ k | false ↦ late_from (suc k) (above ++ (r ∷ [])) rs ]

abbrev pub first_late : List Row → ℕ
first_late order = late_from 1 [] order
