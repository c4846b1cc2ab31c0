-- Text as bytes: quoted text, a number in decimal, a line.
use Rattle.std.specs.Prelude.{ℕ, zero, suc, ◌+◌, ◌/◌, ◌%◌, true, false, List, [], ◌∷◌, ◌++◌, ℤ, pos, negsuc, nat_lt}
use Prim.Native.String.{String}
use Prim.Native.Char.{code}

-- quoted text as its bytes
abbrev pub bytes : String → List ℕ
bytes String.[] = []
bytes (String.◌∷◌ c s) = code c ∷ bytes s

abbrev pub line_feed : ℕ
line_feed = 10

-- quoted lines, each with its line feed
abbrev pub lined : List String → List ℕ
lined [] = []
lined (s ∷ ss) = bytes s ++ (line_feed ∷ lined ss)

abbrev pub digit_zero : ℕ
digit_zero = 48

abbrev pub digit_nine : ℕ
digit_nine = 57

-- v in decimal, the highest digit first and no leading zero; any fuel above v is enough
unfoldable pub digits : ℕ → ℕ → List ℕ
digits zero v = []
digits (suc fuel) v =
    elim (nat_lt v 10) [ true ↦ [] | false ↦ digits fuel (v / 10) ] ++ ((digit_zero + v % 10) ∷ [])

unfoldable pub decimal : ℕ → List ℕ
decimal v = digits (suc v) v

-- a number below 0 has its sign before its digits
unfoldable pub signed : ℤ → List ℕ
signed (pos v) = decimal v
signed (negsuc v) = bytes "-" ++ decimal (suc v)

-- texts one after another
abbrev pub joined : List (List ℕ) → List ℕ
joined [] = []
joined (t ∷ ts) = t ++ joined ts

-- a key with its equals sign, a value, a line feed
unfoldable pub key_line : List ℕ → List ℕ → List ℕ
key_line key value = joined (key ∷ value ∷ (line_feed ∷ []) ∷ [])
