-- What a writer leaves in the buffer that is lent to it.
use Rattle.std.specs.Prelude.{◌≡◌, ℕ, List, ◌++◌, length, drop}

-- its text from the start, every byte past it as it was; and it says how long the text is
pub record Wrote (text buffer buffer' : List ℕ) (long : ℕ) : Type 0 where
  pub long_is : long ≡ length text
  pub holds : buffer' ≡ text ++ drop (length text) buffer
