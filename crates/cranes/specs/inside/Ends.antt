-- Promises between functions: where the first piece of a text ends, and where each piece does.
use Rattle.std.specs.Prelude.{◌≡◌, List, [], ◌∷◌, ℕ, suc, ◌+◌, ◌≤◌, ◌<◌, Option, Some, None, length, take}
use Rattle.basics.specs.Basics.{pick}
use Rattle.crane_demands.specs.Pieces.{cut_after, board_key, pieces, max_pieces}

-- the length of the first piece
abbrev pub first_long : List ℕ → ℕ
first_long [] = 0
first_long (b ∷ s) = pick (cut_after board_key b s) 1 (suc (first_long s))

-- where each of some pieces ends, the first of which begins at an offset
abbrev pub ends_from : ℕ → List (List ℕ) → List ℕ
ends_from at [] = []
ends_from at (p ∷ ps) = (at + length p) ∷ ends_from (at + length p) ps

-- numbers are where the pieces of a text end, of which there are no more than the most
pub record AreEnds (text ends : List ℕ) : Type 0 where
  pub few : length (pieces text) ≤ max_pieces
  pub ends_are : ends ≡ ends_from 0 (pieces text)

-- how many pieces there are and where each ends, or that there are too many
abbrev pub Cuts : List ℕ → List ℕ → Option ℕ → Type 0
Cuts text ends None = max_pieces < length (pieces text)
Cuts text ends (Some count) = (0 < count) × (count ≤ length ends) × AreEnds text (take count ends)
