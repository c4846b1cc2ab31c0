-- A table that the planner accepts is a piece: its first line alone has the key of a board. So tables put one after
-- another are the pieces.
use mathlib.Core.Path.{◌≡◌, refl, sym, ap, subst, ◌∙◌}
use mathlib.Core.Bool.{Bool, true, false}
use mathlib.Core.List.{List, [], ◌∷◌, ◌++◌}
use Prim.Native.Nat.{ℕ, suc, ◌≤◌, ◌<◌}
use native.Mathlib.Omega.{arith}
use lib.IntN.{ℤ}
use lib.ListN.{length, get_or}
use Rattle.basics.specs.Basics.{is_in}
use Rattle.basics.proofs.Tests.{true_not_false}
use Rattle.text.specs.Text.{line_feed, signed, joined, key_line}
use Rattle.text.specs.Lines.{begins}
use Rattle.grammars.specs.Grammars.{a_line, key_in}
use Rattle.grammars.specs.Forms.{Form}
use Rattle.grammars.specs.Reasons.{Passes, Reaches, begin, line}
use Rattle.grammars.proofs.Steps.{no_line}
use Rattle.rows.specs.Rows.{first_point_at}
use Rattle.rows.specs.inside.Numbers.{line_count}
use Rattle.tables.specs.TableLines.{RowLine, row_line_at}
use Rattle.tables.specs.TableLines.{Stage, at_board, at_tasks, at_switch, at_field, at_rank, at-end, table, read_table}
use Rattle.tables.proofs.Keys.{table_plain}
use Rattle.tables.proofs.Readings.{read}
use Rattle.tables.proofs.RowLines.{at_within, each_point}
use Rattle.crane_demands.specs.Pieces.{Separate, board_key, pieces}
use Rattle.crane_demands.proofs.Pieces.{only_cut}
use Rattle.crane_demands.proofs.Lines.{signed_no_feed, Others, no_others, line_other, Begun, first_line}
use Rattle.crane_demands.proofs.Answers.{Early, reached}

-- ---- keys
-- the first line's key, or that of a later one
data Kind (s : Stage) (key : List ℕ) : Type 0 where
  first : s ≡ at_board → key ≡ board_key → Kind s key
  later : (s ≡ at_board → ⊥) → ((more : List ℕ) → begins board_key (key ++ more) ≡ false) → Kind s key

abbrev is_first : Stage → Bool
is_first at_board = true
is_first (at_tasks b) = false
is_first (at_switch n b) = false
is_first (at_field n b s rs vs) = false
is_first (at_rank n b rs os) = false
is_first (at-end b rs os) = false

not_first : {s : Stage} → is_first s ≡ false → s ≡ at_board → ⊥
not_first h e = true_not_false true refl (sym (ap is_first e) ∙ h)

expected_key : {key lock : List ℕ} {form lock_form : Form} → a_line key form ≡ a_line lock lock_form → key ≡ lock
expected_key e = cc

field_differs : (i : ℕ) → i < line_count → (more : List ℕ) → begins board_key ((row_line_at i).key ++ more) ≡ false
field_differs =
    let F : RowLine → Type 0 = λ l. (more : List ℕ) → begins board_key (l.key ++ more) ≡ false in
    at_within F (
      λ s. refl,
      (
        λ s. refl,
        (
          λ s. refl,
          (
            λ s. refl,
            (
              λ s. refl,
              (
                λ s. refl,
                (
                  λ s. refl,
                  (
                    λ s. refl,
                    (
                      λ s. refl,
                      (λ s. refl, (λ s. refl, each_point F (λ at s. refl) (λ at s. refl) first_point_at 7)),
                    ),
                  ),
                ),
              ),
            ),
          ),
        ),
      ),
    )

kind : (k : ℕ) (s : Stage) (key : List ℕ) (z : ℤ) → Passes (table false) s key z → Early k s → Kind s key
kind k at_board key z p h = first refl (expected_key (sym p.is_expected))
kind k (at_tasks b) key z p h =
    let is = expected_key (sym p.is_expected) in
    later (not_first refl) (λ more. ap (λ l. begins board_key (l ++ more)) is)
kind k (at_switch n b) key z p h =
    let is = expected_key (sym p.is_expected) in
    later (not_first refl) (λ more. ap (λ l. begins board_key (l ++ more)) is)
kind k (at_field n b s rs vs) key z p h =
    let is = expected_key (sym p.is_expected) in
    later (not_first refl) (λ more. ap (λ l. begins board_key (l ++ more)) is ∙ field_differs (length vs) (omega (arith, h.0.few, h.0.more)) more)
kind k (at_rank n b rs os) key z p h = absurd h
kind k (at-end b rs os) key z p h = no_line (sym p.is_expected)

-- ---- lines
module _ {text : List ℕ} where
  from_one : {k : ℕ} {st : Stage} {here : List ℕ} → Reaches (table false) at_board text k st here → 1 ≤ k
  from_one begin = omega arith
  from_one (line key z rest r p is) = omega (arith, from_one r)

  from_start : {k : ℕ} {st : Stage} {here : List ℕ} → Reaches (table false) at_board text k st here → k ≤ 1 → here ≡ text
  from_start begin h = refl
  from_start (line key z rest r p is) h = absurd (omega (arith, from_one r))

  begun : {k : ℕ} {st : Stage} {here : List ℕ} → Reaches (table false) at_board text k st here → (st ≡ at_board → ⊥)
      → Others board_key here → Begun board_key text
  begun begin n o = absurd (n refl)
  begun (line {k = k} {s = s} {here = here} key z rest r p is) n o =
      let in_key = subst (λ x. is_in line_feed (key_in x) ≡ false) p.is_expected (table_plain false s) in
      elim (kind k s key z p (reached r)) [
        | first e same ↦
            let whole = from_start r (subst (Early k) e (reached r)) in
            subst (Begun board_key) (sym (ap (λ l. key_line l (signed z) ++ rest) same) ∙ sym is ∙ whole)
            (first_line board_key refl refl (signed z) rest (signed_no_feed z) o)
        | later m differs ↦
            begun r m (subst (Others board_key) (sym is)
            (line_other board_key refl key (signed z) in_key (signed_no_feed z) differs rest o))
      ]

-- ---- tables
table_begun : (text : List ℕ) → (read_table false text).refused ≡ 0 → Begun board_key text
table_begun text a =
    let whole = ((read false text).as_written a).whole in
    begun whole (not_first refl) (no_others board_key refl)

abbrev Accepted : List (List ℕ) → Type 0
Accepted ts = (i : ℕ) → i < length ts → (read_table false (get_or ts i [])).refused ≡ 0

tables_separate : (t : List ℕ) (ts : List (List ℕ)) → Accepted (t ∷ ts) → Separate board_key (t ∷ ts)
tables_separate t [] a = (table_begun t (a 0 (omega arith))).uncut
tables_separate t (u ∷ ts) a =
    let b = table_begun t (a 0 (omega arith)) in
    let rest = tables_separate u ts (λ i h. a (suc i) (omega arith)) in
    (b.uncut, b.ends, (table_begun u (a 1 (omega arith))).begun, rest)

pub tables_cut : (t : List ℕ) (ts : List (List ℕ)) → Accepted (t ∷ ts) → pieces (joined (t ∷ ts)) ≡ t ∷ ts
tables_cut t ts a =
    sym (only_cut board_key refl refl (joined (t ∷ ts)) (t ∷ ts) (record { joins = refl; separate = tables_separate t ts a }))
