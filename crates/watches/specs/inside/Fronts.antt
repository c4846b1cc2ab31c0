-- Promised between functions: the table at the front of a text to watch, read line by line as the reviewer's, but that
-- no task holds.
use Rattle.std.specs.Prelude.{◌≡◌, Bool, true, false, List, ℕ, eqb, drop, Result, MatchResult}
use Rattle.text.specs.Lines.{fault_number}
use Rattle.text.specs.declared.LineRefusal.{LineRefusal}
use Rattle.grammars.specs.Grammars.{refused, step, read}
use Rattle.grammars.specs.Reasons.{Reaches}
use Rattle.grammars.specs.Sequences.{onward}
use Rattle.grammars.specs.inside.Readers.{Reader, Takes, Refuses}
use Rattle.rows.specs.Rows.{hold_at}
use Rattle.readers.specs.declared.progress.Part.{Part}
use Rattle.readers.specs.declared.progress.Part.TheVariants as P
use Rattle.readers.specs.declared.progress.Progress.{Progress}
use Rattle.readers.specs.inside.Stands.{stage_of, On}
use Rattle.watch_demands.specs.WatchLines.{unheld, run_begins, WatchStage, watch_text, watch_start}
use Rattle.watches.specs.inside.Stages.{AtReleases}

-- the next line is a hold
abbrev pub at_hold : Part → ℕ → Bool
at_hold P.Board i = false
at_hold P.Tasks i = false
at_hold P.Switch i = false
at_hold P.Row i = eqb i hold_at
at_hold P.Rank i = false
at_hold P.End i = false

-- ---- the code as a reader; it never comes to the text's end
abbrev pub front : Reader (Progress × List ℕ) WatchStage
front = record {
  line = λ x. x.0.line;
  offset = λ x. x.0.offset;
  shows = λ x. onward unheld run_begins (stage_of x.0.stand x.1);
}

-- before its line, which the lines of the text lead to
abbrev pub OnFront : List ℕ → Progress × List ℕ → Type 0
OnFront text x =
    On true text x × Reaches watch_text watch_start text x.0.line (front.shows x) (drop x.0.offset text)

-- past the line that it takes, or refused there
abbrev pub TakesUnheld : Progress → List ℕ → List ℕ → Result Progress LineRefusal → List ℕ → Type 0
TakesUnheld p text ns r ms =
    let taken = step watch_text text (front.shows (p, ns)) p.offset p.line in
    MatchResult r (λ q. Takes front (OnFront text) taken (q, ms)) (Refuses taken)

-- the table is read, and its run follows; or the text is refused in its table
abbrev pub ReadsFront : List ℕ → Result Progress LineRefusal → List ℕ → Type 0
ReadsFront text r ns =
    MatchResult r (λ p. AtReleases text p.offset p.line ns p.stand.count)
    (λ e. read watch_text watch_start text ≡ refused (fault_number e.fault) e.line)
