-- The rows of a table among numbers stand behind its head; and a text's refusal is the call's.
use Rattle.std.proofs.Common.{◌≡◌, List, Bool, ℕ, Err, ◌∙◌}
use Rattle.text.specs.declared.LineRefusal.{LineRefusal}
use Rattle.rows.specs.inside.Lent.{table_of}
use Rattle.tables.specs.TableLines.{read_table}
use Rattle.readers.specs.inside.Numbers.{rows_in}
use Rattle.readers.specs.inside.Readings.{Held, Refused}
use Rattle.plans.specs.declared.Refusal.TheVariants.{Line}
use Rattle.plans.specs.Outcomes.{Outcome, Written}
use Rattle.plans.proofs.Outcomes.{refused}
use Rattle.demands.specs.Calls.{on_table}
use Rattle.demands.proofs.Outcomes.{on_turned_down}

-- a refused line, whatever comes of an accepted table
pub turned_down : {asked : Bool} {text o : List ℕ} {e : LineRefusal} → Refused asked text e → (next : Outcome)
    → Written (on_table (read_table asked text) next) o o (Err (Line e))
turned_down {asked} {text} t next =
    refused (on_turned_down (read_table asked text) next (λ z. t.some (t.refused_is ∙ z))) (t.refused_is, t.line_is)

-- its rows, lent as arrays, are the table's
pub rows_are : {asked : Bool} {text ns : List ℕ} {n : ℕ} → Held asked text ns n → (rows : List (List ℕ))
    → table_of rows ≡ rows_in n ns → table_of rows ≡ (read_table asked text).rows
rows_are t rows lends = lends ∙ t.rows_are
