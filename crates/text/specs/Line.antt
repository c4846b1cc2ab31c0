-- What the reading of one line answers.
use Rattle.std.specs.Prelude.{ℕ}

-- its number and the offset after it, the end of the text where nothing is expected, or a refusal with its number and
-- its line
pub data Line : Type 0 where
  Number : (value next : ℕ) → Line
  End : Line
  Refused : (number line : ℕ) → Line
