-- What is promised of every crane's text, of any outcome and in document 02's words: how the text is cut, that each
-- piece's single call meets the planner's demands, and when the whole call is refused. Only one outcome meets it.
use Rattle.std.specs.Prelude.{◌≡◌, true, false, List, [], ◌∷◌, ◌++◌, map, ◌↔◌, ℕ, ◌≤◌, ◌<◌, length, get_or, Result}
use Rattle.basics.specs.Basics.{is_in}
use Rattle.text.specs.Text.{bytes, joined}
use Rattle.text.specs.Lines.{begins}
use Rattle.rows.specs.Rows.{max_buffer}
use Rattle.tables.specs.TableLines.{read_table}
use Rattle.plans.specs.declared.Refusal.{Refusal}
use Rattle.plans.specs.Plans.{refusal_text, plan_room}
use Rattle.plans.specs.Outcomes.{Outcome, writes, refuses, Written, printed}
use Rattle.demands.specs.Calls.{planned, planner_prints}
use Rattle.demands.specs.Demands.{PlanDemands}
use Rattle.crane_demands.specs.Pieces.{cut_before, Uncut, ends_line, CutOf, board_key, pieces, max_pieces}
use Rattle.crane_demands.specs.Calls.{answers, crane_text, craned, crane_room, crane_prints}

-- ---- single calls
-- outcomes of the pieces' single calls, in a buffer with room for every plan: one for each piece, and each meets the
-- planner's demands of its own piece
pub data Singles : List (List ℕ) → List Outcome → Type 0 where
  none : Singles [] []
  next : {p : List ℕ} {ps : List (List ℕ)} {w : Outcome} {ws : List Outcome}
      → PlanDemands p plan_room w
      → Singles ps ws
      → Singles (p ∷ ps) (w ∷ ws)

-- what a program prints of each, in sequence
abbrev pub printed_all : List Outcome → List ℕ
printed_all ws = joined (map printed ws)

-- the planner's own outcomes
abbrev pub planned_all : List (List ℕ) → List Outcome
planned_all ps = map (λ p. planned p plan_room) ps

-- ---- the whole call
-- of pieces and their single calls: 10 exactly for too many pieces, whatever the buffer; else 9 exactly where it is
-- shorter than what the single calls print; and else that is written
pub record CraneOf (room : ℕ) (ps : List (List ℕ)) (ws : List Outcome) (w : Outcome) : Type 0 where
  pub ten : (w ≡ refuses 10 0) ↔ (max_pieces < length ps)
  pub nine : (w ≡ refuses 9 0) ↔ ((length ps ≤ max_pieces) × (room < length (printed_all ws)))
  pub written : (w ≡ writes (printed_all ws)) ↔ ((length ps ≤ max_pieces) × (length (printed_all ws) ≤ room))

abbrev pub crane_refusals : List ℕ
crane_refusals = 9 ∷ 10 ∷ []

-- ---- laws of the output
abbrev pub plan_key : List ℕ
plan_key = bytes "plan="

pub record Composes : Type 0 where
  -- a text that is one piece is answered as the planner answers it
  pub alone : (text : List ℕ) → Uncut board_key text → crane_text text ≡ planner_prints text
  -- tables that the planner accepts, put one after another, are the pieces
  pub tables :
      (t : List ℕ) (ts : List (List ℕ))
      → ((i : ℕ) → i < length (t ∷ ts) → (read_table false (get_or (t ∷ ts) i [])).refused ≡ 0)
      → pieces (joined (t ∷ ts)) ≡ t ∷ ts
  -- of two texts put together, each is answered as if the other were not there: a refused piece changes no other
  pub together :
      (text more : List ℕ) → ends_line text ≡ true → begins board_key more ≡ true
      → crane_text (text ++ more) ≡ crane_text text ++ crane_text more
  -- the output cut before each line that begins with `plan=` is the answers, one for each piece and in their sequence
  pub told_apart : (text : List ℕ) → cut_before plan_key (crane_text text) ≡ answers (pieces text)

pub record CraneDemands (text : List ℕ) (room : ℕ) (w : Outcome) : Type 0 where
  -- the pieces are the text's cut, and the only one
  pub is_cut : CutOf board_key text (pieces text)
  pub only_cut : (ps : List (List ℕ)) → CutOf board_key text ps → ps ≡ pieces text
  -- each piece's single call meets the planner's demands, and no other outcomes do
  pub singles : Singles (pieces text) (planned_all (pieces text))
  pub only_singles : (ws : List Outcome) → Singles (pieces text) ws → ws ≡ planned_all (pieces text)
  -- the whole call
  pub listed : (n p : ℕ) → w ≡ refuses n p → (is_in n crane_refusals ≡ true) × (p ≡ 0)
  pub outcome :
      (ps : List (List ℕ)) (ws : List Outcome) → CutOf board_key text ps → Singles ps ws → CraneOf room ps ws w
  -- a program's buffer, of at most 64 KiB, has room for every output, so the program prints that, or the lines of
  -- refusal 10
  pub room_short : crane_room ≤ max_buffer
  pub has_room : crane_room ≤ room → (p : ℕ) → w ≡ refuses 9 p → ⊥
  pub prints_few : length (pieces text) ≤ max_pieces → crane_prints text ≡ crane_text text
  pub prints_many : max_pieces < length (pieces text) → crane_prints text ≡ refusal_text 10 0
  pub composes : Composes

-- what the public call promises, of the bytes of its buffer before and after it and of what it returns
pub record CraneSays (text buffer buffer' : List ℕ) (r : Result ℕ Refusal) : Type 0 where
  pub answer : Written (craned text (length buffer)) buffer buffer' r
  pub demands : CraneDemands text (length buffer) (craned text (length buffer))
  pub no_other : (w : Outcome) → CraneDemands text (length buffer) w → w ≡ craned text (length buffer)
