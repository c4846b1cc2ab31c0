-- Promised between functions: the digits at the front of a text, and what a line answers that has no feed behind them.
use Rattle.std.specs.Prelude.{◌≡◌, ℕ, ◌^◌, ◌<◌, ◌≤◌, false, List, length, take, ◌==◌, slice_index, Some}
use Rattle.std.specs.List.{list_any}
use Rattle.basics.specs.Basics.{pick, within}
use Rattle.text.specs.Text.{line_feed, digit_zero, digit_nine}
use Rattle.text.specs.Lines.{max_digits, digits_from, missing, malformed}
use Rattle.text.specs.declared.Front.{Front}
use Rattle.text.specs.Line.{Line}
use Rattle.text.specs.Line as L

-- the first bytes are digits, and what the code holds of their number: the number itself, if it has no more digits than
-- a number may
pub record Passed (s : List ℕ) (size value : ℕ) : Type 0 where
  pub written : ℕ
  pub there : size ≤ length s
  pub digits : digits_from 0 (take size s) ≡ Some written
  pub small : written < 10 ^ size
  pub held : size ≤ max_digits → value ≡ written

-- the digits go on as far as they can
pub record Fronts (s : List ℕ) (r : Front) : Type 0 where
  pub passed : Passed s r.size r.value
  pub stopped : r.size < length s → within digit_zero digit_nine (slice_index s r.size) ≡ false

-- a line that is no number, or that has no end
abbrev pub unread : List ℕ → ℕ → Line
unread s k = pick (list_any (λ b. b == line_feed) s) (L.Refused malformed k) (L.Refused missing k)
