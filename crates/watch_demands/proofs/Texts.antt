-- A text to watch that is accepted is a table that the reviewer takes, none of whose tasks holds, and behind it the
-- lines
-- of its run, in their limits.
use mathlib.Core.Path.{◌≡◌, refl, sym, ap, subst, ◌∙◌}
use mathlib.Core.Bool.{true, false, not}
use mathlib.Core.List.{List, [], ◌∷◌, ◌++◌, append-nil}
use mathlib.Core.Logic.{inl, inr}
use Prim.Native.Nat.{ℕ, zero, suc, ◌^◌, ◌≤◌, ◌<◌}
use native.Mathlib.Omega.{arith}
use lib.Dec.{eqb}
use lib.IntN.{ℤ, pos}
use lib.ListN.{length, get_or, get_or-eq_default}
use borrow.Author.Tests.{eq-eqb, ne_eqb, not-true, lt-ltb, le-leb, lt-leb}
use Rattle.basics.proofs.Tests.{test_of, le-or-lt, true_not_false, and_left, and_right, or_right}
use Rattle.text.specs.Text.{bytes, signed}
use Rattle.text.specs.Lines.{max_digits}
use Rattle.grammars.specs.Forms.{Form, natural}
use Rattle.grammars.specs.Grammars.{Expected, the_end, a_line, Plain}
use Rattle.grammars.specs.Sequences.{first, second, where_ended, onward, Split}
use Rattle.grammars.specs.Reasons.{Passes, Reaches, Refused, out_of_range}
use Rattle.grammars.specs.Claims.{AsWritten}
use Rattle.grammars.proofs.Invariants.{Invariant, holds}
use Rattle.grammars.proofs.Sequences.{plain_sequence, split, lifted, joined}
use Rattle.grammars.proofs.Steps.{no_line}
use Rattle.rows.specs.Rows.{max_ticks, hold_at, tasks_of, has_task, distinct_rows, no_row, row_at, rows_for, cost, position_of}
use Rattle.rows.specs.Rows.{Row}
use Rattle.tables.specs.TableLines.{Stage, at_board, at_tasks, at_switch, at_field, at_rank}
use Rattle.tables.specs.TableLines.{at-end, TableRead, table_of, table_at}
use Rattle.tables.specs.TableLines.{table}
use Rattle.tables.specs.Claims.{Accepted, Tells, line_of}
use Rattle.tables.proofs.Readings.{Ending, at_last}
use Rattle.tables.proofs.Soundness as Soundness
use Rattle.watch_demands.specs.WatchLines.{RunStage, at_release, at_ticks, at_lengths, at_length, run_end}
use Rattle.watch_demands.specs.WatchLines.{no_hold, unheld_line, unheld, run_behind, run_begins}
use Rattle.watch_demands.specs.WatchLines.{WatchStage, watch_text, watch_start}
use Rattle.watch_demands.specs.Demands.{TellsRun, run_lines, RunLimits, RunSays, RunReadsBack}
use Rattle.watch_demands.specs.Demands.{TableRefusals}
use Rattle.grammars.proofs.Fronts.{refused_as, Front, in_front}
use Rattle.watch_demands.proofs.Unheld.{hold_line, unheld_plain, as_reviewed, NoHolds, Kept, kept}
use Rattle.watch_demands.proofs.RunTexts.{run_plain, run_told, run_written}
use Rattle.watch_demands.proofs.Given.{order_limits}

pub watch_plain : Plain watch_text
watch_plain = plain_sequence unheld run_behind run_begins unheld_plain (λ s. run_plain (table_at s).rows (table_at s).order)

-- ---- where a reading ends
-- a table's end is the beginning of its run
abbrev Open : WatchStage → Type 0
Open (first s) = unheld_line s ≡ the_end → ⊥
Open (second s t) = Unit {0}

onward_open : (s : Stage) → Open (onward unheld run_begins s)
onward_open s = go (unheld_line s) refl
  where
    go : (x : Expected) → unheld_line s ≡ x → Open (where_ended x s (run_begins s))
    go the_end e = tt
    go (a_line key form) e = λ h. no_line (sym e ∙ h)

all_open : Invariant watch_text watch_start Open
all_open = record { begins = onward_open at_board; keeps = go }
  where
    go : (x : WatchStage) (key : List ℕ) (z : ℤ) → Open x → Passes watch_text x key z → Open (watch_text.after x z)
    go (first s) key z h p = onward_open (unheld.after s z)
    go (second s t) key z h p = tt

unheld_ending : (s : Stage) → unheld_line s ≡ the_end → Ending s
unheld_ending at_board e = no_line e
unheld_ending (at_tasks b) e = no_line e
unheld_ending (at_switch n b) e = no_line e
unheld_ending (at_field n b s rs vs) e = elim (test_of (eqb (length vs) hold_at)) [
  | inl h ↦ no_line (rw h at e)
  | inr h ↦ no_line (rw h at e)
]
unheld_ending (at_rank n b rs os) e = no_line e
unheld_ending (at-end b rs os) e = at_last b rs os

pub data Ended : WatchStage → Type 0 where
  at_both : (b : ℕ) (rs : List Row) (os rels : List ℕ) (t : ℕ) (ls : List ℕ)
      → Ended (second (at-end b rs os) (run_end rels t ls))

module _ (text : List ℕ) where
  pub ended : (x : WatchStage) → AsWritten watch_text watch_start text x → Ended x
  ended (first s) w = absurd (holds watch_text watch_start Open all_open w.whole w.ends)
  ended (second s t) w =
      by_table s (unheld_ending s (split unheld run_behind run_begins at_board text w.whole).ended) t w.ends
    where
      by_table : (s : Stage) → Ending s → (t : RunStage) → (run_behind s).expected t ≡ the_end → Ended (second s t)
      by_table s (at_last b rs os) (at_release rels) e = no_line e
      by_table s (at_last b rs os) (at_ticks rels) e = no_line e
      by_table s (at_last b rs os) (at_lengths rels t) e = no_line e
      by_table s (at_last b rs os) (at_length n rels t ls) e = no_line e
      by_table s (at_last b rs os) (run_end rels t ls) e = at_both b rs os rels t ls

-- ---- a task's row is the first with its number, since none has it twice
position_is : (rs : List Row) (j t : ℕ) → distinct_rows rs ≡ true → j < length rs → t ≡ (row_at rs j).task
    → position_of t (tasks_of rs) ≡ j
position_is [] j t d l e = absurd (omega arith)
position_is (r ∷ rs) zero t d l e = rw (eq-eqb t r.task e, position_of)
position_is (r ∷ rs) (suc j) t d l e =
    let new = not-true (has_task r.task rs) (and_left (not (has_task r.task rs)) (distinct_rows rs) d) in
    let other : t ≡ r.task → ⊥ =
    λ h. true_not_false _ (has_at rs j t (omega arith) e) (subst (λ x. has_task x rs ≡ false) (sym h) new) in
    rw (ne_eqb t r.task other, position_of)
    (ap suc (position_is rs j t (and_right (not (has_task r.task rs)) (distinct_rows rs) d) (omega arith) e))
  where
    has_at : (rs : List Row) (j t : ℕ) → j < length rs → t ≡ (row_at rs j).task → has_task t rs ≡ true
    has_at [] j t l e = absurd (omega arith)
    has_at (r ∷ rs) zero t l e = rw (eq-eqb t r.task e)
    has_at (r ∷ rs) (suc j) t l e = or_right (eqb t r.task) (has_task t rs) (has_at rs j t (omega arith) e)

-- ---- the table at the front of a text whose lines lead behind it
module _ {text : List ℕ} {k b : ℕ} {rs : List Row} {os : List ℕ} {t : RunStage} {here : List ℕ}
    (reached : Reaches watch_text watch_start text k (second (at-end b rs os) t) here) where
  pub parts : Split unheld run_behind run_begins at_board text k (at-end b rs os) t here
  parts = split unheld run_behind run_begins at_board text reached

  pub table_front : Front unheld at_board text parts.lines (at-end b rs os) parts.middle
  table_front = in_front parts.before

  table_lines : Reaches unheld at_board table_front.front parts.lines (at-end b rs os) []
  table_lines =
      subst (λ x. Reaches unheld at_board x parts.lines (at-end b rs os) []) (append-nil table_front.front)
      (table_front.before [])

  pub tells_table : Tells true table_front.front b rs os
  tells_table = record { lines = parts.lines; whole = as_reviewed table_lines; ends = refl }

  pub sound : Accepted true (table_of b rs os)
  sound = holds (table true) at_board (Soundness.Known true) (Soundness.sound true) (as_reviewed table_lines)

  pub no_holds : NoHolds rs
  no_holds = holds unheld at_board Kept kept table_lines

-- ---- what an accepted text says
module _ (text : List ℕ) (b : ℕ) (rs : List Row) (os rels : List ℕ) (t : ℕ) (ls : List ℕ)
    (told : TellsRun text b rs os rels t ls) where
  abbrev whole : Reaches watch_text watch_start text told.lines (second (at-end b rs os) (run_end rels t ls)) []
  whole = told.whole

  ran : RunLimits rs os rels t ls × ((parts whole).middle ≡ run_lines rels t ls)
  ran = run_told rs os (parts whole).after

  pub run_says : RunSays text b rs os rels t ls
  run_says = record {
    front = (table_front whole).front;
    joins = (table_front whole).joins ∙ ap (λ x. (table_front whole).front ++ x) ran.1;
    unheld_table = record { lines = (parts whole).lines; whole = table_lines whole; ends = refl };
    limits = ran.0;
    reviewed = tells_table whole;
    none_holds = no_holds whole;
    first_release = λ i j l h e.
        ap (λ p. get_or rels p 0) (position_is rs j (get_or os i 0) (sound whole).rows_distinct h e);
  }

-- ---- and such a text is read so
cost_small : (a : TableRead) → Accepted true a → (i : ℕ) → cost (row_at (rows_for a.order a.rows) i) ≤ max_ticks
unfolding cost
cost_small a ok i = elim (le-or-lt (length (rows_for a.order a.rows)) i) [
  | inl h ↦ rw (get_or-eq_default (rows_for a.order a.rows) no_row h) (omega arith)
  | inr h ↦ let l = order_limits a ok i h in omega (arith, l.cost_period, l.period.le_high)
]

pub run_reads_back : RunReadsBack
run_reads_back front b rs os rels t ls w ok =
    let lines = run_lines rels t ls in
    let known = holds (table true) at_board (Soundness.Known true) (Soundness.sound true) (as_reviewed w.whole) in
    let f = in_front w.whole in
    let whole : front ≡ f.front = f.joins ∙ append-nil f.front in
    let reached = subst (λ x. Reaches unheld at_board (x ++ lines) w.lines (at-end b rs os) lines) (sym whole)
    (f.before lines) in
    joined unheld run_behind run_begins at_board (front ++ lines) reached refl
    (run_written rs os rels t ls ok (cost_small (table_of b rs os) known))

-- ---- a table is refused as the reviewer refuses it, and a hold above 0 with 3
module _ (text : List ℕ) where
  -- where a line of the table is expected
  at_line : {k : ℕ} {s : Stage} {here : List ℕ} (key : List ℕ) (form : Form) → unheld_line s ≡ a_line key form
      → Reaches unheld at_board text k s here → Reaches watch_text watch_start text k (first s) here
  at_line {k} {s} {here} key form x r =
      subst (λ w. Reaches watch_text watch_start text k w here)
      (ap (λ (e : Expected). where_ended e s (run_begins s)) x) (lifted unheld run_behind run_begins at_board text r)

  pub refused_tables : TableRefusals text
  unfolding signed
  refused_tables = record {
    as_reviewed = λ n k s here key form r mine theirs c. record {
      state = first s;
      rest = here;
      before = at_line key form mine r;
      condition = refused_as (mine ∙ sym theirs) (λ z. refl) c;
    };
    held = λ k left board switch v rows values rest r long short. record {
      state = first (at_field left board switch rows values);
      rest = line_of "hold=" (suc v) rest;
      before = at_line (bytes "hold=") (natural no_hold no_hold) (at_hold_lem left board switch rows values long) r;
      condition = above left board switch v rows values rest long short;
    };
  }
    where
      at_hold_lem : (left board switch : ℕ) (rows : List Row) (values : List ℕ) → length values ≡ hold_at
          → unheld_line (at_field left board switch rows values) ≡ a_line (bytes "hold=") (natural no_hold no_hold)
      at_hold_lem left board switch rows values long =
          hold_line left board switch rows values (eq-eqb (length values) hold_at long)

      above : (left board switch v : ℕ) (rows : List Row) (values rest : List ℕ) → length values ≡ hold_at
          → suc v < 10 ^ max_digits
          → Refused watch_text (first (at_field left board switch rows values)) (line_of "hold=" (suc v) rest) 3
      above left board switch v rows values rest long short =
          out_of_range (bytes "hold=") (natural no_hold no_hold) (at_hold_lem left board switch rows values long) (pos (suc v))
          rest refl (lt-ltb (suc v) (10 ^ max_digits) short) (rw (le-leb 0 (suc v) (omega arith), lt-leb (suc v) 0 (omega arith)))
