-- What the planner prints is a plan's text that its buffer has room for, or the text of a refusal whose number and line
-- are small, since a table has few lines up to the one that is refused. So the buffer has room for either.
use mathlib.Core.Path.{◌≡◌, refl, sym, subst}
use mathlib.Core.Bool.{Bool, true, false, ◌&&◌}
use mathlib.Core.List.{List, [], ◌∷◌, ◌++◌}
use mathlib.Core.Logic.{inl, inr}
use mathlib.Core.Option.{Option, none, some}
use Prim.Native.Nat.{ℕ, zero, suc, ◌+◌, ◌*◌, ◌^◌, ◌≤◌, ◌<◌}
use native.Mathlib.Omega.{arith}
use lib.Dec.{eqb, ltb}
use lib.IntN.{ℤ}
use lib.ListN.{length, length-append}
use borrow.Author.Tests.{eqb-true, ltb-true}
use Rattle.basics.specs.Basics.{is_in}
use Rattle.basics.proofs.Tests.{test_of, never, and_left, and_right, or_cases, le-or-lt}
use Rattle.text.specs.Text.{bytes, joined}
use Rattle.grammars.specs.Forms.{size}
use Rattle.grammars.specs.Reasons.{Passes, Reaches, begin, line}
use Rattle.grammars.proofs.Naturals.{natural_passes}
use Rattle.grammars.proofs.Steps.{no_line}
use Rattle.curves.specs.Curves.{max_points}
use Rattle.rows.specs.Rows.{min_tasks, max_tasks, points_at, lines_for, row_of}
use Rattle.rows.specs.Rows.{Row}
use Rattle.tables.specs.TableLines.{Stage, at_board, at_tasks, at_switch, at_field, at_rank, at-end, rows_stage, after}
use Rattle.tables.specs.TableLines.{row_line_at, is_whole, table, read_table}
use Rattle.tables.specs.Claims.{Fails, table_refusals}
use Rattle.tables.specs.inside.Partial.{Partial}
use Rattle.tables.proofs.RowLines.{partial_next, whole_few}
use Rattle.tables.proofs.Refusals.{unranked_listed}
use Rattle.orders.specs.Stability.{chosen_order}
use Rattle.plans.specs.Entries.{entries}
use Rattle.plans.specs.declared.Entry.{Entry}
use Rattle.plans.specs.Plans.{plan_text, refusal_text, plan_room}
use Rattle.plans.specs.Outcomes.{printed}
use Rattle.plans.proofs.Lengths.{refusal_length}
use Rattle.plans.proofs.Outcomes.{fits, fits_not}
use Rattle.demands.specs.Calls.{if_ordered, planner_prints}
use Rattle.demands.proofs.Outcomes.{zero_or_more, on_accepted, on_refused}
use Rattle.demands.proofs.Texts.{failing}
use Rattle.crane_demands.specs.Calls.{answers}

-- ---- lines
-- the most lines of a table, with one too many
abbrev most_lines : ℕ
most_lines = 4 + max_tasks * lines_for max_points

-- line k may be the one that a stage expects
abbrev pub Early : ℕ → Stage → Type 0
Early k at_board = k ≤ 1
Early k (at_tasks b) = k ≤ 2
Early k (at_switch n b) = (k ≤ 3) × (n ≤ max_tasks)
Early k (at_field n b s rs vs) = Partial vs × (k + suc n * lines_for max_points ≤ most_lines + length vs)
Early k (at_rank n b rs os) = ⊥
Early k (at-end b rs os) = k ≤ most_lines

rows_early : (n k b s : ℕ) (rs : List Row) → k + n * lines_for max_points ≤ most_lines → Early k (rows_stage false n b s rs)
rows_early zero k b s rs h = omega arith
rows_early (suc n) k b s rs h = (record { few = omega arith; more = omega arith }, omega arith)

after_early : (k : ℕ) (st : Stage) (key : List ℕ) (z : ℤ) → Passes (table false) st key z → Early k st
    → Early (suc k) (after false st (size z))
after_early k at_board key z p h = omega arith
after_early k (at_tasks b) key z p h =
    let few = (natural_passes p (bytes "tasks=") min_tasks max_tasks refl).le_high in
    (omega arith, few)
after_early k (at_switch n b) key z p h = rows_early n (suc k) b (size z) [] (omega (arith, h.0, h.1))
after_early k (at_field n b s rs vs) key z p h =
    let more = vs ++ (size z ∷ []) in
    let long = length-append vs (size z ∷ []) in
    let l = row_line_at (length vs) in
    let high = (natural_passes p l.key l.low l.high refl).le_high in
    let few : length vs ≡ points_at → size z ≤ max_points = λ e. subst (λ i. size z ≤ (row_line_at i).high) e high in
    elim (test_of (is_whole more)) [
      | inl t ↦
          let whole = whole_few vs (size z) h.0 few t in
          rw t (rows_early n (suc k) b s (rs ++ (row_of s more ∷ [])) (omega (arith, h.1, whole.0, whole.1, long)))
      | inr t ↦ rw t (partial_next vs (size z) h.0 few t, omega (arith, h.1, long))
    ]
after_early k (at_rank n b rs os) key z p h = absurd h
after_early k (at-end b rs os) key z p h = no_line (sym p.is_expected)

pub reached : {text : List ℕ} {k : ℕ} {st : Stage} {here : List ℕ} → Reaches (table false) at_board text k st here
    → Early k st
reached begin = omega arith
reached (line {k = k} {s = st} key z rest r p is) = after_early k st key z p (reached r)

early_small : (k : ℕ) (st : Stage) → Early k st → k ≤ most_lines
early_small k at_board h = omega arith
early_small k (at_tasks b) h = omega arith
early_small k (at_switch n b) h = omega (arith, h.0)
early_small k (at_field n b s rs vs) h = omega (arith, h.0.few, h.0.more, h.1)
early_small k (at_rank n b rs os) h = absurd h
early_small k (at-end b rs os) h = h

line_small : (text : List ℕ) (n k : ℕ) → Fails false text n k → k ≤ most_lines
line_small text n k why = early_small k why.state (reached why.before)

-- a number of a list is below what all of them are below
abbrev all_below : ℕ → List ℕ → Bool
all_below high [] = true
all_below high (m ∷ ms) = ltb m high && all_below high ms

listed_small : (n high : ℕ) (ns : List ℕ) → all_below high ns ≡ true → is_in n ns ≡ true → n < high
listed_small n high [] h l = never l
listed_small n high (m ∷ ns) h l =
    elim (or_cases (eqb n m) (is_in n ns) l) [
      | inl e ↦ rw (eqb-true n m e) (ltb-true m high (and_left (ltb m high) (all_below high ns) h))
      | inr e ↦ listed_small n high ns (and_right (ltb m high) (all_below high ns) h) e
    ]

-- ---- what is printed
module _
    (P : List ℕ → Type 0)
    (plan : (board : ℕ) (es : List Entry) → length (plan_text board es) ≤ plan_room → P (plan_text board es))
    (refusal : (n p : ℕ) → n < 10 ^ 3 → p < 10 ^ 10 → P (refusal_text n p))
  where
    by_order : (board : ℕ) (o : Option (List Row)) → P (printed (if_ordered plan_room board o))
    unfolding if_ordered
    by_order board none = refusal 8 0 (omega arith) (omega arith)
    by_order board (some order) =
        let t = plan_text board (entries order) in
        elim (le-or-lt (length t) plan_room) [
          | inl h ↦ subst (λ w. P (printed w)) (sym (fits plan_room t h)) (plan board (entries order) h)
          | inr h ↦ subst (λ w. P (printed w)) (sym (fits_not plan_room t h)) (refusal 9 0 (omega arith) (omega arith))
        ]

    pub by_answer : (text : List ℕ) → P (planner_prints text)
    by_answer text =
        let a = read_table false text in
        let next = if_ordered plan_room a.board (chosen_order a.rows) in
        elim (zero_or_more a.refused) [
          | inl z ↦ subst (λ w. P (printed w)) (sym (on_accepted a next z)) (by_order a.board (chosen_order a.rows))
          | inr z ↦
              let why = failing false text z.0 z.1 in
              let listed = unranked_listed text (suc z.0) a.line why in
              let number : suc z.0 < 10 ^ 3 = listed_small (suc z.0) 1000 table_refusals refl listed in
              let place : a.line < 10 ^ 10 = omega (arith, line_small text (suc z.0) a.line why) in
              subst (λ w. P (printed w)) (sym (on_refused a next z.0 z.1))
              (refusal (suc z.0) a.line number place)
        ]

prints_short : (text : List ℕ) → length (planner_prints text) ≤ plan_room
prints_short =
    by_answer (λ t. length t ≤ plan_room) (λ board es h. h)
    (λ n p number place. omega (arith, refusal_length n p number place))

pub answers_short : (ps : List (List ℕ)) → length (joined (answers ps)) ≤ length ps * plan_room
answers_short [] = omega arith
answers_short (p ∷ ps) =
    omega (arith, prints_short p, answers_short ps, length-append (planner_prints p) (joined (answers ps)))
