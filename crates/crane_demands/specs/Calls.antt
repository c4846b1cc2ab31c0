-- What the crane's call comes to for a text and the room of a buffer, and what its program prints.
use Rattle.std.specs.Prelude.{List, map, ℕ, ◌*◌, leb, length}
use Rattle.basics.specs.Basics.{pick}
use Rattle.text.specs.Text.{joined}
use Rattle.plans.specs.Plans.{plan_room}
use Rattle.plans.specs.Outcomes.{Outcome, refuses, fitted, printed}
use Rattle.demands.specs.Calls.{planner_prints}
use Rattle.crane_demands.specs.Pieces.{pieces, max_pieces}

-- what the planner prints for each piece alone
abbrev pub answers : List (List ℕ) → List (List ℕ)
answers ps = map planner_prints ps

-- the plans and refusals of a text's pieces, in sequence
unfoldable pub crane_text : List ℕ → List ℕ
crane_text text = joined (answers (pieces text))

-- more than 32 pieces: 10, whatever the buffer; else an output that the buffer can't hold: 9; else the output
unfoldable pub craned : List ℕ → ℕ → Outcome
craned text room = pick (leb (length (pieces text)) max_pieces) (fitted room (crane_text text)) (refuses 10 0)

-- room for every crane's output
abbrev pub crane_room : ℕ
crane_room = max_pieces * plan_room

-- the program: what it prints for the text that it took
abbrev pub crane_prints : List ℕ → List ℕ
crane_prints text = printed (craned text crane_room)
