-- The number of a line: how it is written, and what its reading answers.
use Rattle.std.specs.Prelude.{Bool, true, false, List, ◌++◌, ℕ, zero, suc, ◌-◌, ◌^◌, ltb, ℤ, pos, negsuc, drop}
use Rattle.basics.specs.Basics.{pick, within}
use Rattle.text.specs.Text.{bytes}
use Rattle.text.specs.Lines.{max_digits, malformed, begins, line_at, refusal}
use Rattle.text.specs.Line.{Line}
use Rattle.text.specs.Line as L

-- a number in a range, without a sign; or any number, below 0 with a sign
pub data Form : Type 0 where
  natural : (low high : ℕ) → Form
  integer : Form

-- a number without its sign
abbrev pub size : ℤ → ℕ
size (pos v) = v
size (negsuc n) = suc n

-- a number that can be written so, whatever its range
abbrev pub fits : Form → ℤ → Bool
fits (natural low high) (pos v) = ltb v (10 ^ max_digits)
fits (natural low high) (negsuc n) = false
fits integer z = ltb (size z) (10 ^ max_digits)

abbrev pub in_form : Form → ℤ → Bool
in_form (natural low high) z = within low high (size z)
in_form integer z = true

-- a number with the offset after its line, or a refusal
pub data Told : Type 0 where
  number : (z : ℤ) (next : ℕ) → Told
  no_number : (refusal : ℕ) → Told

abbrev pub plainly : Line → Told
plainly (L.Number v next) = number (pos v) next
plainly L.End = no_number (refusal L.End)
plainly (L.Refused n k) = no_number (refusal (L.Refused n k))

-- a number after a sign, which is not 0
abbrev pub below_zero : ℕ → ℕ → Told
below_zero zero next = no_number malformed
below_zero (suc n) next = number (negsuc n) next

abbrev pub negated : Line → Told
negated (L.Number v next) = below_zero v next
negated L.End = no_number (refusal L.End)
negated (L.Refused n k) = no_number (refusal (L.Refused n k))

abbrev pub minus : List ℕ
minus = bytes "-"

abbrev pub highest : ℕ
highest = 10 ^ max_digits - 1

-- the line k that begins at an offset; a sign is read as if it were the end of the key
unfoldable pub form_at : List ℕ → Form → List ℕ → ℕ → ℕ → Told
form_at key (natural low high) text at k = plainly (line_at key low high text at k)
form_at key integer text at k =
    pick (begins (key ++ minus) (drop at text))
    (negated (line_at (key ++ minus) 0 highest text at k))
    (plainly (line_at key 0 highest text at k))
