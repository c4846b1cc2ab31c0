-- One line of a text: a key, a number and a line feed, and what its reading answers.
use Rattle.std.specs.Prelude.{ℕ, suc, ◌+◌, ◌-◌, ◌*◌, Bool, true, false, not, ◌&&◌, List, [], ◌∷◌, length, drop, ◌==◌, nat_lt, slice_index, Option, Some, None, Result, Ok, Err}
use Rattle.basics.specs.Basics.{pick, within}
use Rattle.text.specs.Text.{line_feed, digit_zero, digit_nine}
use Rattle.text.specs.declared.Fault.{Fault}
use Rattle.text.specs.declared.Fault.TheVariants as F
use Rattle.text.specs.declared.LineRefusal.{LineRefusal}
use Rattle.text.specs.declared.Number.{Number}
use Rattle.text.specs.Line.{Line}
use Rattle.text.specs.Line as L

-- a number's digits: 1 to 12
abbrev pub max_digits : ℕ
max_digits = 12

-- the bytes before the first line feed, or all
abbrev pub line_of : List ℕ → List ℕ
line_of [] = []
line_of (b ∷ s) = elim (b == line_feed) [ true ↦ [] | false ↦ b ∷ line_of s ]

-- a text begins with a key
abbrev pub begins : List ℕ → List ℕ → Bool
begins [] s = true
begins (x ∷ key) [] = false
begins (x ∷ key) (y ∷ s) = x == y && begins key s

-- decimal digits after those that make v
abbrev pub digits_from : ℕ → List ℕ → Option ℕ
digits_from v [] = Some v
digits_from v (b ∷ s) =
    elim (within digit_zero digit_nine b) [ true ↦ digits_from (10 * v + (b - digit_zero)) s | false ↦ None ]

-- 1 to 12 digits, no leading zero unless the number is 0 itself
abbrev pub well_formed : List ℕ → Bool
well_formed s = within 1 max_digits (length s) && not (slice_index s 0 == digit_zero && nat_lt 1 (length s))

unfoldable pub number_of : List ℕ → Option ℕ
number_of s = pick (well_formed s) (digits_from 0 s) None

-- the refusals that every line may meet: there is no such line, no number in it, or none in its range
abbrev pub missing : ℕ
missing = 1

abbrev pub malformed : ℕ
malformed = 2

abbrev pub out_of_range : ℕ
out_of_range = 3

-- a number in its range, with the offset after its line
abbrev pub ranged : Option ℕ → ℕ → ℕ → ℕ → ℕ → Line
ranged None low high k next = L.Refused malformed k
ranged (Some v) low high k next = pick (within low high v) (L.Number v next) (L.Refused out_of_range k)

-- the line k that begins at an offset of a text
unfoldable pub line_at : List ℕ → ℕ → ℕ → List ℕ → ℕ → ℕ → Line
line_at key low high text at k =
    let s = drop at text in
    let l = line_of s in
    let next = at + suc (length l) in
    pick (nat_lt (length l) (length s) && begins key l)
    (ranged (number_of (drop (length key) l)) low high k next)
    (L.Refused missing k)

-- where nothing is expected, nothing stands
abbrev pub end_at : List ℕ → ℕ → ℕ → Line
end_at text at k = pick (nat_lt at (length text)) (L.Refused missing k) L.End

-- document 01's number of a line's answer, 0 where it is no refusal
abbrev pub refusal : Line → ℕ
refusal (L.Number v next) = 0
refusal L.End = 0
refusal (L.Refused n k) = n

-- and its place, the line that is refused
abbrev pub place : Line → ℕ
place (L.Number v next) = 0
place L.End = 0
place (L.Refused n k) = k

-- ---- a call's result as such an answer
-- the number of what is wrong with a line: the lines' own three, document 01's of a table, and 11 of a curve
abbrev pub fault_number : Fault → ℕ
fault_number F.Missing = missing
fault_number F.Malformed = malformed
fault_number F.OutOfRange = out_of_range
fault_number F.Exceeding = 4
fault_number F.Repeated = 5
fault_number F.Impossible = 6
fault_number F.Disorderly = 11

abbrev pub refused : LineRefusal → Line
refused r = L.Refused (fault_number r.fault) r.line

-- of a line with a number
abbrev pub told : Result Number LineRefusal → Line
told (Ok n) = L.Number n.value n.next
told (Err r) = refused r

-- of the end
abbrev pub told_end : Result (Unit {0}) LineRefusal → Line
told_end (Ok u) = L.End
told_end (Err r) = refused r
