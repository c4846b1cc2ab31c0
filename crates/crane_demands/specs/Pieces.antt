-- A text cut before every line that begins with a key, and what makes a list of pieces that cut. A line begins at the
-- start of the text and after each line feed; bytes ahead of the first such line are a piece of their own, and the empty
-- text is one empty piece.
use Rattle.std.specs.Prelude.{◌≡◌, Bool, true, false, ◌&&◌, List, [], ◌∷◌, ◌++◌, ℕ, eqb}
use Rattle.text.specs.Text.{bytes, line_feed, joined}
use Rattle.text.specs.Lines.{begins}

-- a cut stands between a byte and what follows it
abbrev pub cut_after : List ℕ → ℕ → List ℕ → Bool
cut_after key b s = eqb b line_feed && begins key s

-- a byte before pieces, of which there is always one: a piece of its own, or the first byte of the first one
abbrev pub before : Bool → ℕ → List (List ℕ) → List (List ℕ)
before true b ps = (b ∷ []) ∷ ps
before false b [] = (b ∷ []) ∷ []
before false b (p ∷ ps) = (b ∷ p) ∷ ps

-- the pieces of a text, byte by byte: each byte belongs to the piece after it, but where a cut stands between them
abbrev pub cut_before : List ℕ → List ℕ → List (List ℕ)
cut_before key [] = [] ∷ []
cut_before key (b ∷ s) = before (cut_after key b s) b (cut_before key s)

-- ---- what makes a list of pieces the cut of a text
-- no line after a piece's first begins with the key
abbrev pub Uncut : List ℕ → List ℕ → Type 0
Uncut key p = (u v : List ℕ) → p ≡ u ++ (line_feed ∷ v) → begins key v ≡ false

-- a piece ends with a line feed, so that a line begins after it
abbrev pub ends_line : List ℕ → Bool
ends_line [] = false
ends_line (b ∷ []) = eqb b line_feed
ends_line (b ∷ c ∷ s) = ends_line (c ∷ s)

-- one piece or more, each uncut; each but the last ends a line, and each but the first begins with the key
abbrev pub Separate : List ℕ → List (List ℕ) → Type 0
Separate key [] = ⊥
Separate key (p ∷ []) = Uncut key p
Separate key (p ∷ q ∷ qs) = Uncut key p × (ends_line p ≡ true) × (begins key q ≡ true) × Separate key (q ∷ qs)

pub record CutOf (key text : List ℕ) (ps : List (List ℕ)) : Type 0 where
  pub joins : joined ps ≡ text
  pub separate : Separate key ps

-- ---- a crane
abbrev pub board_key : List ℕ
board_key = bytes "board="

abbrev pub pieces : List ℕ → List (List ℕ)
pieces text = cut_before board_key text

-- the most pieces of a crane
abbrev pub max_pieces : ℕ
max_pieces = 32
