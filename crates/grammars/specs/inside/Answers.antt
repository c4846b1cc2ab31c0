-- Promised between functions: what a line answers to code once its number was tested, and the step that it makes.
use Rattle.std.specs.Prelude.{ℕ, zero, suc, pos}
use Rattle.text.specs.Line.{Line}
use Rattle.text.specs.Line as L
use Rattle.grammars.specs.Grammars.{Grammar, accepted, refused, Step, goes_on, stops}

-- an answer of line k, unless there is a refusal
abbrev pub unless : ℕ → Line → ℕ → Line
unless zero l k = l
unless (suc n) l k = L.Refused (suc n) k

-- a number that a test refuses is a refusal of its line
abbrev pub tested : (ℕ → ℕ) → Line → ℕ → Line
tested fault (L.Number v next) k = unless (fault v) (L.Number v next) k
tested fault L.End k = L.End
tested fault (L.Refused n j) k = L.Refused n j

-- the step that line k makes, by its answer
abbrev pub on_answer : {S : Type 0} → Grammar S → S → ℕ → Line → Step S
on_answer g s k (L.Number v next) = goes_on (g.after s (pos v)) next (suc k)
on_answer g s k L.End = stops (accepted s)
on_answer g s k (L.Refused n j) = stops (refused n j)
