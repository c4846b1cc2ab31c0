-- A plan's text from its entries, and a refusal's three lines.
use Rattle.std.specs.Prelude.{List, [], ◌∷◌, ℕ, suc, ◌+◌, ◌*◌, length}
use Rattle.text.specs.Text.{bytes, decimal, signed, joined, key_line}
use Rattle.rows.specs.Rows.{max_tasks}
use Rattle.plans.specs.declared.Entry.{Entry}

-- the six lines of rank k
unfoldable pub rank_text : ℕ → Entry → List ℕ
rank_text k e = joined (
    key_line (bytes "rank=") (decimal k)
    ∷ key_line (bytes "task=") (decimal e.task)
    ∷ key_line (bytes "best=") (decimal e.best)
    ∷ key_line (bytes "worst=") (decimal e.worst)
    ∷ key_line (bytes "jitter=") (decimal e.jitter)
    ∷ key_line (bytes "margin=") (signed e.margin)
    ∷ [])

-- the ranks from k on, the highest first
abbrev pub rank_texts : ℕ → List Entry → List (List ℕ)
rank_texts k [] = []
rank_texts k (e ∷ es) = rank_text k e ∷ rank_texts (suc k) es

-- the three lines before the ranks
unfoldable pub head_text : ℕ → ℕ → List ℕ
head_text board count = joined (
    key_line (bytes "plan=") (decimal 1)
    ∷ key_line (bytes "board=") (decimal board)
    ∷ key_line (bytes "tasks=") (decimal count)
    ∷ [])

unfoldable pub plan_text : ℕ → List Entry → List ℕ
plan_text board es = joined (head_text board (length es) ∷ rank_texts 1 es)

-- a refusal's number and place
unfoldable pub refusal_text : ℕ → ℕ → List ℕ
refusal_text number place = joined (
    key_line (bytes "plan=") (decimal 0)
    ∷ key_line (bytes "refusal=") (decimal number)
    ∷ key_line (bytes "line=") (decimal place)
    ∷ [])

-- room for the lines before the ranks, for the lines of a rank, and for every plan of n ranks
abbrev pub head_room : ℕ
head_room = 28

abbrev pub rank_room : ℕ
rank_room = 79

abbrev pub room_for : ℕ → ℕ
room_for n = head_room + n * rank_room

abbrev pub plan_room : ℕ
plan_room = room_for max_tasks

-- the most ranks of a plan: its ranks have at most two digits
abbrev pub most_ranks : ℕ
most_ranks = 99
