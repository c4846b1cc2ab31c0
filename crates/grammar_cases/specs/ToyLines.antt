-- A toy text, a model for the next one: a count of marks, and then two lines for each: its number, which is above the
-- one before it, and its drift, with or without a sign. A text is its states, and what each of them expects, refuses
-- and leaves.
use Rattle.std.specs.Prelude.{List, [], ◌∷◌, ◌++◌, ℕ, zero, suc, ◌^◌, ◌≤◌, ◌<◌, ltb, ℤ, length}
use Rattle.basics.specs.Basics.{pick}
use Rattle.text.specs.Text.{bytes, decimal, signed, key_line}
use Rattle.text.specs.Lines.{max_digits}
use Rattle.grammars.specs.Forms.{natural, integer, size}
use Rattle.grammars.specs.Grammars.{Expected, the_end, a_line, Grammar}

-- how many marks there may be
abbrev pub max_marks : ℕ
max_marks = 3

-- the range of a mark
abbrev pub min_mark : ℕ
min_mark = 1

abbrev pub max_mark : ℕ
max_mark = 100

-- the refusal of a mark that is not above the one before it
abbrev pub not_above : ℕ
not_above = 21

-- a mark and its drift
pub record Mark : Type 0 where
  pub mark : ℕ
  pub drift : ℤ

-- the last of some marks, or what stands before them
abbrev pub last_from : ℕ → List Mark → ℕ
last_from v [] = v
last_from v (m ∷ ms) = last_from m.mark ms

-- what has been read: the marks so far, and how many are left after the one that is being read
pub data Stage : Type 0 where
  at_count : Stage
  at_mark : (left : ℕ) (marks : List Mark) → Stage
  at_drift : (left : ℕ) (marks : List Mark) (mark : ℕ) → Stage
  at-end : (marks : List Mark) → Stage

-- as many marks, then the end
abbrev pub marks_stage : ℕ → List Mark → Stage
marks_stage zero ms = at-end ms
marks_stage (suc n) ms = at_mark n ms

-- the line that is expected
abbrev pub expected : Stage → Expected
expected at_count = a_line (bytes "marks=") (natural 0 max_marks)
expected (at_mark n ms) = a_line (bytes "mark=") (natural min_mark max_mark)
expected (at_drift n ms v) = a_line (bytes "drift=") integer
expected (at-end ms) = the_end

-- the refusal of a number in its range, 0 for none
abbrev pub fault : Stage → ℤ → ℕ
fault at_count z = 0
fault (at_mark n ms) z = pick (ltb (last_from 0 ms) (size z)) 0 not_above
fault (at_drift n ms v) z = 0
fault (at-end ms) z = 0

-- what is to be read after a number
abbrev pub after : Stage → ℤ → Stage
after at_count z = marks_stage (size z) []
after (at_mark n ms) z = at_drift n ms (size z)
after (at_drift n ms v) z = marks_stage n (ms ++ (record { mark = v; drift = z } ∷ []))
after (at-end ms) z = at-end ms

-- the grammar
abbrev pub toy : Grammar Stage
toy = record { expected = expected; fault = fault; after = after }

-- ---- what is claimed: the marks of an accepted text rise, and such marks read back
-- a mark above a number, in its range, with a drift that can be written
pub record Above (v : ℕ) (m : Mark) : Type 0 where
  pub above : v < m.mark
  pub is_in_range : m.mark ≤ max_mark
  pub drift_fits : size m.drift < 10 ^ max_digits

-- each is above the one before it, the first above a number
pub data Rising : ℕ → List Mark → Type 0 where
  none : {v : ℕ} → Rising v []
  next : {v : ℕ} {m : Mark} {ms : List Mark} → Above v m → Rising m.mark ms → Rising v (m ∷ ms)

-- the two lines of each mark
abbrev pub marks_text : List Mark → List ℕ
marks_text [] = []
marks_text (m ∷ ms) =
    key_line (bytes "mark=") (decimal m.mark) ++ (key_line (bytes "drift=") (signed m.drift) ++ marks_text ms)

-- the whole text
abbrev pub toy_text : List Mark → List ℕ
toy_text ms = key_line (bytes "marks=") (decimal (length ms)) ++ marks_text ms
