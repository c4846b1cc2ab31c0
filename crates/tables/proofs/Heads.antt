-- The lines of a text that is accepted begin with those of its head, and its rows have the switch of the third: what
-- each line leaves behind it says so far.
use mathlib.Core.Path.{◌≡◌, refl, sym, ap, ◌∙◌}
use mathlib.Core.Bool.{Bool, true}
use mathlib.Core.List.{List, [], ◌∷◌, ◌++◌}
use mathlib.Core.Logic.{inl, inr}
use Prim.Native.Nat.{ℕ, zero, suc, ◌+◌}
use native.Mathlib.Nat.{add-zero, zero-add}
use native.Mathlib.Omega.{arith}
use lib.Dec.{eqb}
use lib.IntN.{ℤ}
use lib.ListN.{length, length-append}
use borrow.Author.Tests.{eqb-true, eq-eqb}
use Rattle.basics.specs.Basics.{pick}
use Rattle.basics.proofs.Tests.{test_of}
use Rattle.text.specs.Text.{bytes, decimal, signed, key_line}
use Rattle.grammars.specs.Forms.{size}
use Rattle.grammars.specs.Reasons.{Passes, Reaches, begin, line}
use Rattle.grammars.proofs.Naturals.{natural_written}
use Rattle.rows.specs.Rows.{min_switch, max_switch, min_tasks, max_tasks, row_of, row_at, all_rows}
use Rattle.rows.specs.Rows.{Row}
use Rattle.rows.proofs.Limits.{append_passes, at_passes}
use Rattle.tables.specs.TableLines.{min_board, max_board, is_whole}
use Rattle.tables.specs.TableLines.{Stage, at_board, at_tasks, at_switch, at_field, at_rank, at-end}
use Rattle.tables.specs.TableLines.{ranks_stage, rows_stage, after, table}
use Rattle.tables.specs.Claims.{Tells, HeadSays}

-- a row has the switch
abbrev under : ℕ → Row → Bool
under s r = eqb r.switch s

module _ (ranked : Bool) (text : List ℕ) where
  abbrev board_line : ℕ → List ℕ
  board_line b = key_line (bytes "board=") (decimal b)

  abbrev tasks_line : ℕ → List ℕ
  tasks_line n = key_line (bytes "tasks=") (decimal n)

  abbrev Head : ℕ → ℕ → ℕ → Type 0
  Head b n s =
      (rest : List ℕ) × (text ≡ board_line b ++ (tasks_line n ++ (key_line (bytes "switch=") (decimal s) ++ rest)))

  -- the rows so far, of n in all, and all of them
  abbrev Under : ℕ → ℕ → ℕ → List Row → Type 0
  Under b n s rs = Head b n s × (all_rows (under s) rs ≡ true)

  abbrev Whole : ℕ → List Row → Type 0
  Whole b rs = (s : ℕ) × Under b (length rs) s rs

  -- where a stage stands, with the text from there on
  abbrev Behind : Stage → List ℕ → Type 0
  Behind at_board here = here ≡ text
  Behind (at_tasks b) here = text ≡ board_line b ++ here
  Behind (at_switch n b) here = text ≡ board_line b ++ (tasks_line n ++ here)
  Behind (at_field n b s rs vs) here = Under b (length rs + suc n) s rs
  Behind (at_rank n b rs os) here = Whole b rs
  Behind (at-end b rs os) here = Whole b rs

  ranks_behind : (n b : ℕ) (rs : List Row) (os here : List ℕ) → Whole b rs → Behind (ranks_stage n b rs os) here
  ranks_behind zero b rs os here h = h
  ranks_behind (suc n) b rs os here h = h

  rows_behind : (n b s : ℕ) (rs : List Row) (here : List ℕ) → Under b (length rs + n) s rs
      → Behind (rows_stage ranked n b s rs) here
  rows_behind zero b s rs here h = ranks_behind (pick ranked (length rs) 0) b rs [] here (s, rw (add-zero (length rs)) at h)
  rows_behind (suc n) b s rs here h = h

  -- a line more
  next : (st : Stage) (key : List ℕ) (z : ℤ) (here rest : List ℕ) → Behind st here → Passes (table ranked) st key z
      → here ≡ key_line key (signed z) ++ rest → Behind (after ranked st (size z)) rest
  next at_board key z here rest h p is =
      sym h ∙ is ∙ ap (λ l. l ++ rest) (natural_written p (bytes "board=") min_board max_board refl)
  next (at_tasks b) key z here rest h p is =
      h ∙ ap (λ l. board_line b ++ l)
      (is ∙ ap (λ l. l ++ rest) (natural_written p (bytes "tasks=") min_tasks max_tasks refl))
  next (at_switch n b) key z here rest h p is =
      let head = h ∙ ap (λ l. board_line b ++ (tasks_line n ++ l))
      (is ∙ ap (λ l. l ++ rest) (natural_written p (bytes "switch=") min_switch max_switch refl)) in
      rows_behind n b (size z) [] rest (rw (zero-add n) ((rest, head), refl))
  next (at_field n b s rs vs) key z here rest h p is =
      let more = vs ++ (size z ∷ []) in
      let row = row_of s more in
      elim (test_of (is_whole more)) [
        | inl t ↦
            let own = eq-eqb s s refl in
            let as_many : length rs + suc n ≡ length (rs ++ (row ∷ [])) + n = omega (arith, length-append rs (row ∷ [])) in
            rw t (rows_behind n b s (rs ++ (row ∷ [])) rest
            (rw as_many at h.0, append_passes (under s) rs (row ∷ []) h.1 (rw own)))
        | inr t ↦ rw t h
      ]
  next (at_rank n b rs os) key z here rest h p is = ranks_behind n b rs (os ++ (size z ∷ [])) rest h
  next (at-end b rs os) key z here rest h p is = h

  behind : {k : ℕ} {st : Stage} {here : List ℕ} → Reaches (table ranked) at_board text k st here → Behind st here
  behind begin = refl
  behind (line {s = st} {here = here} key z rest r p is) = next st key z here rest (behind r) p is

  pub head_says : (b : ℕ) (rs : List Row) (os : List ℕ) → Tells ranked text b rs os → HeadSays text b rs
  head_says b rs os t =
      let (s, ((rest, head), same)) = behind t.whole in
      record {
        switch = s;
        rest = rest;
        head = head;
        in_rows = λ i l. eqb-true (row_at rs i).switch s (at_passes (under s) rs i same l);
      }
