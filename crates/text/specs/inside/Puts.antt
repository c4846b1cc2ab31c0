-- A promise between functions: a text is put at an offset of a buffer, and every other byte is as it was.
use Rattle.std.specs.Prelude.{ℕ, ◌+◌, List, ◌++◌, length, take, drop}

-- a buffer with a text from an offset on
abbrev pub put : ℕ → List ℕ → List ℕ → List ℕ
put at text buffer = take at buffer ++ text ++ drop (at + length text) buffer
