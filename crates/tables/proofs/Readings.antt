-- Every text is accepted as it is written, or refused for its reason: as every grammar decides, and since a table's
-- reading ends at its last line only.
use mathlib.Core.Path.{◌≡◌, refl, sym, ap, ◌∙◌, subst}
use mathlib.Core.Bool.{Bool}
use mathlib.Core.List.{List}
use Prim.Native.Nat.{ℕ}
use native.Mathlib.Omega.{arith}
use Rattle.grammars.specs.Grammars.{the_end, Verdict, accepted, refused}
use Rattle.grammars.specs.Grammars as Grammars
use Rattle.grammars.specs.Claims.{Decides}
use Rattle.grammars.proofs.Steps.{no_line}
use Rattle.grammars.proofs.Decision.{decides, refused_some}
use Rattle.grammars.proofs.Invariants.{holds}
use Rattle.rows.specs.Rows.{Row}
use Rattle.tables.specs.TableLines.{Stage, at_board, at_tasks, at_switch, at_field, at_rank, at-end}
use Rattle.tables.specs.TableLines.{expected, table, TableRead, turned_down, table_of, on_verdict, read_table}
use Rattle.tables.specs.Claims.{Accepted, Tells, Fails, Read}
use Rattle.tables.proofs.Keys.{table_plain}
use Rattle.tables.proofs.Soundness.{Known, sound}
use Rattle.tables.proofs.Heads.{head_says}
use Rattle.curves.proofs.Formed.{formed_so}
use Rattle.tables.proofs.ReadBack.{reads_back}

-- ---- what is read
pub data Ending : Stage → Type 0 where
  at_last : (b : ℕ) (rs : List Row) (os : List ℕ) → Ending (at-end b rs os)

pub ending : (s : Stage) → expected s ≡ the_end → Ending s
ending at_board e = no_line e
ending (at_tasks b) e = no_line e
ending (at_switch n b) e = no_line e
ending (at_field n b s rs vs) e = no_line e
ending (at_rank n b rs os) e = no_line e
ending (at-end b rs os) e = at_last b rs os

module _ (ranked : Bool) (text : List ℕ) where
  abbrev pub verdict : Verdict Stage
  verdict = Grammars.read (table ranked) at_board text

  abbrev pub decided : Decides (table ranked) at_board text
  decided = decides (table ranked) (table_plain ranked) at_board text

  pub read_is : (v : Verdict Stage) → verdict ≡ v → read_table ranked text ≡ on_verdict v
  unfolding read_table
  read_is v e = ap on_verdict e

  pub read : Read ranked text
  read = go verdict refl
    where
      accepts : (b : ℕ) (rs : List Row) (os : List ℕ) → Tells ranked text b rs os
          → read_table ranked text ≡ table_of b rs os
      accepts b rs os t = read_is (accepted (at-end b rs os)) (decided.accepts (at-end b rs os) t)

      refuses : (n k : ℕ) → Fails ranked text n k → read_table ranked text ≡ turned_down n k
      refuses n k f = read_is (refused n k) (decided.refuses n k f)

      whole : (s : Stage) → Ending s → verdict ≡ accepted s → Read ranked text
      whole s (at_last b rs os) e =
          let written = decided.as_written (at-end b rs os) e in
          let is = read_is (accepted (at-end b rs os)) e in
          let known = holds (table ranked) at_board (Known ranked) (sound ranked) written.whole in
          record {
            each_line = refl;
            sound = λ z. subst (Accepted ranked) (sym is) known;
            as_written = λ z.
                subst (λ (a : TableRead). Tells ranked text a.board a.rows a.order) (sym is) written;
            reason = λ n z. absurd (omega (arith, ap (λ (a : TableRead). a.refused) is));
            accepts = accepts;
            refuses = refuses;
            head_says = head_says ranked text;
            reads_back = reads_back ranked;
            formed_so = formed_so;
          }

      go : (v : Verdict Stage) → verdict ≡ v → Read ranked text
      go (accepted s) e = whole s (ending s (decided.as_written s e).ends) e
      go (refused n k) e =
          let why = decided.reason n k e in
          let some = refused_some why.condition in
          let is = read_is (refused n k) e in
          let number : (read_table ranked text).refused ≡ n = ap (λ (a : TableRead). a.refused) is in
          record {
            each_line = refl;
            sound = λ z. absurd (omega (arith, number));
            as_written = λ z. absurd (omega (arith, number));
            reason = λ m z.
                subst (λ i. Fails ranked text i (read_table ranked text).line) (sym number ∙ z)
                (subst (λ (a : TableRead). Fails ranked text n a.line) (sym is) why);
            accepts = accepts;
            refuses = refuses;
            head_says = head_says ranked text;
            reads_back = reads_back ranked;
            formed_so = formed_so;
          }
