-- Promised between functions: code that reads a text by a grammar line by line, and what its state shows of the
-- reading.
use Rattle.std.specs.Prelude.{◌≡◌, ℕ}
use Rattle.text.specs.Lines.{fault_number}
use Rattle.text.specs.declared.LineRefusal.{LineRefusal}
use Rattle.grammars.specs.Grammars.{refused, Step, goes_on, stops}

-- what the code's state holds: the line and the offset of the next line, and the state of the grammar that it shows
pub record Reader (P S : Type 0) : Type 1 where
  pub line : P → ℕ
  pub offset : P → ℕ
  pub shows : P → S

-- it goes on from the next line; On is what it stands on there
pub record Goes {P S : Type 0} (r : Reader P S) (On : P → Type 0) (s : S) (next k : ℕ) (p : P) : Type 0 where
  pub shows : r.shows p ≡ s
  pub stands : On p
  pub line : r.line p ≡ k
  pub offset : r.offset p ≡ next

-- a line takes it there
abbrev pub Takes : {P S : Type 0} → Reader P S → (P → Type 0) → Step S → P → Type 0
Takes r On (goes_on s next k) p = Goes r On s next k p
Takes r On (stops v) p = ⊥

-- or the text is refused there
abbrev pub Refuses : {S : Type 0} → Step S → LineRefusal → Type 0
Refuses x e = x ≡ stops (refused (fault_number e.fault) e.line)
