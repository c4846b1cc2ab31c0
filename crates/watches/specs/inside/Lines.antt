-- Promised between functions: numbers of lines with one key, one after another, each in the range of its owner.
use Rattle.std.specs.Prelude.{◌≡◌, List, [], ◌∷◌, ◌++◌, ℕ, ◌+◌, ◌≤◌, ◌<◌, length, get_or, Result, MatchResult}
use Rattle.text.specs.Line.{Line}
use Rattle.text.specs.Line as L
use Rattle.text.specs.Lines.{line_at, refused}
use Rattle.text.specs.declared.LineRefusal.{LineRefusal}
use Rattle.watches.specs.declared.lines.Range.{Range}

-- the range of an owner, and of the owner of number m
abbrev pub no_range : Range
no_range = record { low = 0; high = 0 }

abbrev pub range_at : List Range → ℕ → Range
range_at ranges i = get_or ranges i no_range

abbrev pub low_of : List Range → List ℕ → ℕ → ℕ
low_of ranges owners m = (range_at ranges (get_or owners m 0)).low

abbrev pub high_of : List Range → List ℕ → ℕ → ℕ
high_of ranges owners m = (range_at ranges (get_or owners m 0)).high

module _ (text key : List ℕ) (low high : ℕ → ℕ) where
  -- line k at an offset, if it holds number m
  abbrev pub number_line : ℕ → ℕ → ℕ → Line
  number_line m at k = line_at key (low m) (high m) text at k

  -- the lines from line k at an offset on hold these numbers, up to the next offset
  pub data Told (at k : ℕ) : List ℕ → ℕ → Type 0 where
    none : Told at k [] at
    more : {vs : List ℕ} {past : ℕ} (v next : ℕ) → Told at k vs past
        → number_line (length vs) past (k + length vs) ≡ L.Number v next
        → Told at k (vs ++ (v ∷ [])) next

  -- fewer than n numbers, and then no number
  pub record Stopped (at k n : ℕ) (answer : Line) : Type 0 where
    pub numbers : List ℕ
    pub past : ℕ
    pub told : Told at k numbers past
    pub fewer : length numbers < n
    pub stopped : number_line (length numbers) past (k + length numbers) ≡ answer

  -- all numbers, with the offset after them; or the first refusal
  abbrev pub ReadsNumbers : ℕ → ℕ → List ℕ → Result ℕ LineRefusal → Type 0
  ReadsNumbers at k ns r = MatchResult r (Told at k ns) (λ e. Stopped at k (length ns) (refused e))

-- each number has an owner with a range; and the line numbers stay small
pub record Readable (line : ℕ) (ranges : List Range) (owners numbers : List ℕ) : Type 0 where
  pub soon : line + length numbers ≤ 1000000
  pub as_many : length owners ≡ length numbers
  pub owned : (m : ℕ) → m < length owners → get_or owners m 0 < length ranges
