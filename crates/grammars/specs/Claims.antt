-- What is claimed of every grammar and every text: a text is accepted as it is written or refused for its reason, and
-- the other way round, the lines decide the answer.
use Rattle.std.specs.Prelude.{◌≡◌, List, [], ◌++◌, ℕ, ℤ}
use Rattle.text.specs.Text.{signed, key_line}
use Rattle.grammars.specs.Grammars.{Grammar, the_end, accepted, refused, read}
use Rattle.grammars.specs.Reasons.{Passes, Reaches, Refused}

-- the text's lines lead to the state, and nothing follows; `lines` is the number of the line after the last
pub record AsWritten {S : Type 0} (g : Grammar S) (start : S) (text : List ℕ) (s : S) : Type 0 where
  pub lines : ℕ
  pub whole : Reaches g start text lines s []
  pub ends : g.expected s ≡ the_end

-- the lines before line k are as expected, and the condition of refusal n holds there
pub record Reason {S : Type 0} (g : Grammar S) (start : S) (text : List ℕ) (n k : ℕ) : Type 0 where
  pub state : S
  pub rest : List ℕ
  pub before : Reaches g start text k state rest
  pub condition : Refused g state rest n

pub record Decides {S : Type 0} (g : Grammar S) (start : S) (text : List ℕ) : Type 0 where
  pub as_written : (s : S) → read g start text ≡ accepted s → AsWritten g start text s
  pub reason : (n k : ℕ) → read g start text ≡ refused n k → Reason g start text n k
  pub accepts : (s : S) → AsWritten g start text s → read g start text ≡ accepted s
  pub refuses : (n k : ℕ) → Reason g start text n k → read g start text ≡ refused n k
  -- the lines lead to one state
  pub one_state : (k : ℕ) (s t : S) (here there : List ℕ)
      → Reaches g start text k s here
      → Reaches g start text k t there
      → (s ≡ t) × (here ≡ there)

-- a text is the lines of numbers, each of which passes where it stands, up to an end
pub data Writes {S : Type 0} (g : Grammar S) : S → List ℕ → S → Type 0 where
  done : {s : S} → g.expected s ≡ the_end → Writes g s [] s
  then : {s t : S} {rest : List ℕ} (key : List ℕ) (z : ℤ)
      → Passes g s key z
      → Writes g (g.after s z) rest t
      → Writes g s (key_line key (signed z) ++ rest) t
