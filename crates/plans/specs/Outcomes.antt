-- What a call comes to, what it returns and leaves in its buffer, and what a program prints of it.
use Rattle.std.specs.Prelude.{◌≡◌, true, false, List, ◌++◌, ℕ, zero, suc, leb, length, drop, Result, Ok, Err}
use Rattle.text.specs.Lines.{fault_number}
use Rattle.rows.specs.Rows.{Row}
use Rattle.plans.specs.declared.Refusal.{Refusal}
use Rattle.plans.specs.declared.Refusal.TheVariants as R
use Rattle.plans.specs.Entries.{entries, first_late}
use Rattle.plans.specs.Plans.{plan_text, refusal_text}

-- a text to write, or a refusal with its place
pub data Outcome : Type 0 where
  writes : List ℕ → Outcome
  refuses : ℕ → ℕ → Outcome

-- refusal 9: the buffer is shorter than the text
unfoldable pub fitted : ℕ → List ℕ → Outcome
fitted room text = elim (leb (length text) room) [ true ↦ writes text | false ↦ refuses 9 0 ]

-- an order's plan; refusal 9
abbrev pub plan_of : ℕ → ℕ → List Row → Outcome
plan_of room board order = fitted room (plan_text board (entries order))

-- an order's plan, where none of its tasks is late; else refusal 7 with the first late rank
unfoldable pub if_in_time : ℕ → ℕ → List Row → Outcome
if_in_time room board order = elim (first_late order) [ zero ↦ plan_of room board order | suc k ↦ refuses 7 (suc k) ]

-- a refusal's number, as it is listed, and its place: the line, the rank, or 0
abbrev pub number : Refusal → ℕ
number (R.Line refused) = fault_number refused.fault
number (R.Late rank) = 7
number R.NoOrder = 8
number R.NoRoom = 9
number R.ManyPieces = 10

abbrev pub place : Refusal → ℕ
place (R.Line refused) = refused.line
place (R.Late rank) = rank
place R.NoOrder = 0
place R.NoRoom = 0
place R.ManyPieces = 0

-- what a call returns: how many bytes it wrote, or its refusal
abbrev pub Returns : Outcome → Result ℕ Refusal → Type 0
Returns (writes text) (Ok long) = long ≡ length text
Returns (writes text) (Err refusal) = ⊥
Returns (refuses n p) (Ok long) = ⊥
Returns (refuses n p) (Err refusal) = (number refusal ≡ n) × (place refusal ≡ p)

-- a buffer with a text at its start, every byte past it as it was
abbrev pub over : List ℕ → List ℕ → List ℕ
over text buffer = text ++ drop (length text) buffer

-- a refusal keeps the whole buffer
abbrev pub after : Outcome → List ℕ → List ℕ
after (writes text) buffer = over text buffer
after (refuses number place) buffer = buffer

-- a call's promise: what it returns, and the bytes of its buffer before and after it
pub record Written (w : Outcome) (buffer buffer' : List ℕ) (r : Result ℕ Refusal) : Type 0 where
  pub returns : Returns w r
  pub holds : buffer' ≡ after w buffer

-- what a program prints
abbrev pub printed : Outcome → List ℕ
printed (writes text) = text
printed (refuses number place) = refusal_text number place
