-- Texts that are read line by line: a grammar, and the reading of a text by it.
use Rattle.std.specs.Prelude.{◌≡◌, false, List, [], ℕ, zero, suc, ◌-◌, ltb, ℤ, length}
use Rattle.basics.specs.Basics.{pick, is_in}
use Rattle.text.specs.Text.{line_feed}
use Rattle.text.specs.Lines.{missing}
use Rattle.grammars.specs.Forms.{Form, Told, number, no_number, form_at}

-- what is to stand next: nothing more, or a line with a key and a number
pub data Expected : Type 0 where
  the_end : Expected
  a_line : (key : List ℕ) (form : Form) → Expected

-- a state is what has been read so far
pub record Grammar (S : Type 0) : Type 0 where
  pub expected : S → Expected
  -- the refusal of a number in its range, 0 for none
  pub fault : S → ℤ → ℕ
  -- the state after a number that is not refused
  pub after : S → ℤ → S

-- no key has a line feed
abbrev pub key_in : Expected → List ℕ
key_in the_end = []
key_in (a_line key form) = key

abbrev pub Plain : {S : Type 0} → Grammar S → Type 0
Plain {S} g = (s : S) → is_in line_feed (key_in (g.expected s)) ≡ false

-- a text is accepted with the state at its end, or refused: the refusal's number and its line
pub data Verdict (S : Type 0) : Type 0 where
  accepted : S → Verdict S
  refused : (number line : ℕ) → Verdict S

-- one line leaves a state, the offset and the number of the next line; or it decides the outcome
pub data Step (S : Type 0) : Type 0 where
  goes_on : S → (offset line : ℕ) → Step S
  stops : Verdict S → Step S

-- a number in its range
abbrev pub on_fault : {S : Type 0} → Grammar S → S → ℤ → ℕ → ℕ → ℕ → Step S
on_fault g s z next k zero = goes_on (g.after s z) next (suc k)
on_fault g s z next k (suc n) = stops (refused (suc n) k)

abbrev pub on_told : {S : Type 0} → Grammar S → S → ℕ → Told → Step S
on_told g s k (number z next) = on_fault g s z next k (g.fault s z)
on_told g s k (no_number n) = stops (refused n k)

abbrev pub on_expected : {S : Type 0} → Grammar S → List ℕ → S → ℕ → ℕ → Expected → Step S
on_expected g text s at k the_end = stops (pick (ltb at (length text)) (refused missing k) (accepted s))
on_expected g text s at k (a_line key form) = on_told g s k (form_at key form text at k)

-- the line k that begins at an offset
abbrev pub step : {S : Type 0} → Grammar S → List ℕ → S → ℕ → ℕ → Step S
step g text s at k = on_expected g text s at k (g.expected s)

abbrev pub on_step : {S : Type 0} → Step S → (S → ℕ → ℕ → Verdict S) → Verdict S
on_step (goes_on s next k) f = f s next k
on_step (stops o) f = o

-- line by line, while there is fuel
unfoldable pub read_for : {S : Type 0} → ℕ → Grammar S → List ℕ → S → ℕ → ℕ → Verdict S
read_for zero g text s at k = refused missing k
read_for (suc fuel) g text s at k = on_step (step g text s at k) (λ t next j. read_for fuel g text t next j)

-- from the line k that begins at an offset; each line has a byte, so there is fuel enough
abbrev pub read_from : {S : Type 0} → Grammar S → List ℕ → S → ℕ → ℕ → Verdict S
read_from g text s at k = read_for (suc (length text - at)) g text s at k

abbrev pub read : {S : Type 0} → Grammar S → S → List ℕ → Verdict S
read g start text = read_from g text start 0 1
