-- What is claimed of numbers as text: the numbers that a line may hold are those that `decimal` writes,
-- within 12 digits.
use Rattle.std.specs.Prelude.{◌≡◌, ℕ, ◌^◌, ◌<◌, List, Some}
use Rattle.text.specs.Text.{decimal}
use Rattle.text.specs.Lines.{max_digits, number_of}

pub record Numerals : Type 0 where
  -- what is written reads back
  pub reads_back : (v : ℕ) → v < 10 ^ max_digits → number_of (decimal v) ≡ Some v
  -- and nothing else is read
  pub one_way : (s : List ℕ) (v : ℕ) → number_of s ≡ Some v → (s ≡ decimal v) × (v < 10 ^ max_digits)
