-- The table that the code has read, once its reading has ended: the text's own, in the numbers of its lines. The end of
-- a table is shown by the end of the code's reading only.
use mathlib.Core.Path.{◌≡◌, refl, sym, ap, ap₂, subst, ◌∙◌}
use mathlib.Core.Bool.{Bool, true, false, ◌&&◌}
use mathlib.Core.List.{List}
use Prim.Native.Nat.{ℕ, ◌+◌, ◌≤◌}
use native.Mathlib.Omega.{arith}
use lib.Dec.{eqb}
use lib.ListN.{length, take, drop}
use lib.Seq.{get_or-take}
use borrow.Author.Tests.{eqb-true}
use Rattle.basics.specs.Basics.{pick, distinct}
use Rattle.basics.proofs.Tests.{and_left, and_right}
use Rattle.grammars.specs.Grammars.{the_end, step, accepted, refused}
use Rattle.grammars.specs.inside.Answers.{on_answer, tested}
use Rattle.grammars.proofs.Answers.{no_test}
use Rattle.grammars.proofs.Decision.{refused_some}
use Rattle.grammars.proofs.Loops as Loops
use Rattle.grammars.proofs.Steps.{no_line}
use Rattle.std.specs.Prelude.{Ok, Err}
use Rattle.text.specs.Lines.{fault_number, end_at, told_end}
use Rattle.text.specs.declared.LineRefusal.{LineRefusal}
use Rattle.rows.specs.Rows.{max_tasks, all_tasks}
use Rattle.rows.specs.inside.Numbers.{TaskNumbers}
use Rattle.rows.proofs.Tasks.{all_small}
use Rattle.rows.proofs.RowNumbers.{rows_length, between_length}
use Rattle.readers.specs.declared.progress.Part.{Part}
use Rattle.readers.specs.declared.progress.Part.TheVariants as P
use Rattle.readers.specs.declared.progress.Stand.{Stand}
use Rattle.readers.specs.declared.progress.Progress.{Progress}
use Rattle.tables.specs.TableLines.{Stage, at-end, expected, TableRead, table, table_at, read_table}
use Rattle.tables.specs.Claims.{Accepted}
use Rattle.readers.specs.inside.Numbers.{head_count, row_start, board_in, rows_in, behind}
use Rattle.readers.specs.inside.Stands.{line_here, fault_in, read_by, stage_in, stage_of}
use Rattle.readers.specs.inside.Readings.{Held, ReadAs}
use Rattle.tables.proofs.Readings.{verdict, decided, read_is, read}
use Rattle.readers.proofs.LineNumbers.{rows_front}
use Rattle.readers.proofs.Stands.{step_shown}
use Rattle.readers.proofs.Turns.{Standing}

-- ---- a sound table has as many ranks as rows, where they are expected
pub ranks_counted : (ranked : Bool) (a : TableRead) → Accepted ranked a
    → length a.order ≡ pick ranked (length a.rows) 0
ranks_counted true a h =
    let same = eqb (length a.order) (length a.rows) in
    let once = distinct a.order in
    let both = and_left (same && once) (all_tasks a.order a.rows) (h.ranks_possible refl) in
    eqb-true (length a.order) (length a.rows) (and_left same once both)
ranks_counted false a h = ap length (h.no_ranks refl)

-- ---- a table among numbers
module _ {ranked : Bool} {text ns : List ℕ} {n : ℕ} (t : Held ranked text ns n) where
  pub sound : Accepted ranked (read_table ranked text)
  sound = (read ranked text).sound t.ok

  pub few : n ≤ max_tasks
  few = omega (arith, t.count_is, sound.few_rows)

  pub head_there : row_start n ≤ length ns
  head_there = omega (arith, t.long)

-- and its rank lines' tasks
module _ {text ns : List ℕ} {n : ℕ} (t : Held true text ns n) where
  abbrev tasks : List ℕ
  tasks = (read_table true text).order

  many : length tasks ≡ n
  many = ranks_counted true (read_table true text) (sound t) ∙ sym t.count_is

  pub ranks_held : row_start n + n ≤ length ns
  ranks_held = omega (arith, t.long, many)

  pub ranks_are : behind n n ns ≡ tasks
  ranks_are = ap (λ (k : ℕ). behind n k ns) (sym many) ∙ t.order_is

  pub all_there : all_tasks tasks (read_table true text).rows ≡ true
  all_there =
      let rows = (read_table true text).rows in
      let counts = eqb (length tasks) (length rows) && distinct tasks in
      and_right counts (all_tasks tasks rows) ((sound t).ranks_possible refl)

  pub ranks_small : TaskNumbers (behind n n ns)
  ranks_small =
      subst TaskNumbers (sym ranks_are)
      (all_small tasks (read_table true text).rows all_there (sound t).rows_in_range)

-- ---- where nothing more is expected, the numbers so far are the table's
abbrev pub end_in : Stand → List ℕ → Stage
end_in s ns = at-end (board_in ns) (rows_in s.count ns) (behind s.count s.position ns)

pub shown_end : (p : Part) (s : Stand) (ns : List ℕ) → read_by p s ≤ length ns
    → expected (stage_in p s (take (read_by p s) ns)) ≡ the_end
    → (stage_in p s (take (read_by p s) ns) ≡ end_in s ns)
    × (row_start s.count + s.position ≤ length ns)
shown_end P.Board s ns long e = no_line e
shown_end P.Tasks s ns long e = no_line e
shown_end P.Switch s ns long e = no_line e
shown_end P.Row s ns long e = no_line e
shown_end P.Rank s ns long e = no_line e
shown_end P.End s ns long e =
    let n = row_start s.count + s.position in
    let board = get_or-take n ns 0 0 (omega arith) in
    let rows = rows_front s.count n ns (omega arith) long in
    (ap₂ (λ d qs. at-end d qs (behind s.count s.position ns)) board rows, long)

-- so a table that stands there is read as the code has it
pub in_numbers : (ranked : Bool) (text : List ℕ) (s : Stand) (ns : List ℕ) → row_start s.count + s.position ≤ length ns
    → read_table ranked text ≡ table_at (end_in s ns) → Held ranked text ns s.count
in_numbers ranked text s ns fit is =
    let ranks = between_length (row_start s.count) ns s.position fit in
    record {
      ok = rw is;
      count_is = rw is (sym (rows_length s.count (drop head_count ns)));
      long = rw is (omega (arith, ranks, fit));
      board_is = rw is;
      rows_are = rw is;
      order_is = rw is (ap (λ m. behind s.count m ns) ranks);
    }

-- ---- how the text reads
module _ (ranked : Bool) (text : List ℕ) where
  -- it is refused
  pub as_refused : (e : LineRefusal) → verdict ranked text ≡ refused (fault_number e.fault) e.line → (ns : List ℕ)
      → ReadAs ranked text ns (Err e)
  as_refused e is ns =
      let read_so = read_is ranked text (refused (fault_number e.fault) e.line) is in
      record {
        answer = record {
          some = λ z. omega (arith, refused_some ((decided ranked text).reason (fault_number e.fault) e.line is).condition);
          refused_is = rw read_so;
          line_is = rw read_so;
        };
        read = read ranked text;
      }

  -- or its table stands in the numbers
  pub as_table : (s : Stand) (ns : List ℕ) → s.part ≡ P.End → read_by s.part s ≤ length ns
      → verdict ranked text ≡ accepted (stage_of s ns) → ReadAs ranked text ns (Ok s.count)
  as_table s ns last long is =
      let (stage, fit) = shown_end s.part s ns long (rw last) in
      record {
        answer = in_numbers ranked text s ns fit
            (read_is ranked text (accepted (stage_of s ns)) is ∙ ap table_at stage);
        read = read ranked text;
      }

  -- behind the last line nothing is expected
  module _ {p : Progress} {ns : List ℕ} (here : Standing ranked text p ns) (last : p.stand.part ≡ P.End) where
    at_last : step (table ranked) text (stage_of p.stand ns) p.offset p.line
        ≡ on_answer (table ranked) (stage_of p.stand ns) p.line (end_at text p.offset p.line)
    at_last =
        step_shown ranked text p.offset p.line p.stand ns p.stand.part here.stands.1.long
        ∙ ap (on_answer (table ranked) (stage_of p.stand ns) p.line) (at_end p.stand.part last)
      where
        at_end : (q : Part) → q ≡ P.End
            → tested (fault_in q p.stand ns) (line_here q p.stand.position text p.offset p.line) p.line
            ≡ end_at text p.offset p.line
        at_end q e = rw e (sym (no_test (end_at text p.offset p.line) p.line))

    pub whole : {u : Unit {0}} → told_end (Ok u) ≡ end_at text p.offset p.line → ReadAs ranked text ns (Ok p.stand.count)
    whole e =
        as_table p.stand ns last here.stands.1.long
        (Loops.accepted_at here (at_last ∙ ap (on_answer (table ranked) (stage_of p.stand ns) p.line) (sym e)))

    pub more_behind : (e : LineRefusal) → told_end (Err e) ≡ end_at text p.offset p.line → ReadAs ranked text ns (Err e)
    more_behind e is =
        as_refused e
        (Loops.refused_at here e (at_last ∙ ap (on_answer (table ranked) (stage_of p.stand ns) p.line) (sym is))) ns
