-- A table none of whose tasks holds is one that the reviewer takes: a hold of 0 is in the range of every hold.
use mathlib.Core.Path.{◌≡◌, refl, sym, ap, ◌∙◌}
use mathlib.Core.Bool.{true}
use mathlib.Core.List.{List, [], ◌∷◌, ◌++◌}
use mathlib.Core.Logic.{inl, inr}
use Prim.Native.Nat.{ℕ, zero, suc, ◌<◌}
use native.Mathlib.Omega.{arith}
use lib.Dec.{eqb}
use lib.IntN.{ℤ, pos, negsuc}
use lib.ListN.{length, get_or, length-append, get_or-append}
use lib.Seq.{get_or_at}
use borrow.Author.Tests.{eqb-true, eq-eqb}
use Rattle.basics.proofs.Tests.{test_of, le-or-lt, true_within}
use Rattle.text.specs.Text.{bytes}
use Rattle.grammars.specs.Forms.{Form, natural, size, fits}
use Rattle.grammars.specs.Grammars.{a_line, Plain}
use Rattle.grammars.specs.Reasons.{Passes, Reaches}
use Rattle.grammars.proofs.Invariants.{Invariant}
use Rattle.grammars.proofs.Naturals.{natural_passes}
use Rattle.rows.specs.Rows.{min_hold, max_hold, hold_at, points_at, lines_for, row_of, no_row, row_at}
use Rattle.rows.specs.Rows.{Row}
use Rattle.tables.specs.TableLines.{Stage, at_board, at_tasks, at_switch, at_field, at_rank, at-end, row_line_at}
use Rattle.tables.specs.TableLines.{is_whole, ranks_stage, rows_stage, expected, after, table}
use Rattle.tables.proofs.Keys.{table_plain}
use Rattle.watch_demands.specs.WatchLines.{no_hold, unheld_line, unheld}
use Rattle.grammars.proofs.Fronts.{passes_as, widens}

pub unheld_plain : Plain unheld
unheld_plain at_board = refl
unheld_plain (at_tasks b) = refl
unheld_plain (at_switch n b) = refl
unheld_plain (at_field n b s rs vs) = elim (test_of (eqb (length vs) hold_at)) [
  | inl e ↦ rw e
  | inr e ↦ rw e (table_plain true (at_field n b s rs vs))
]
unheld_plain (at_rank n b rs os) = refl
unheld_plain (at-end b rs os) = refl

-- ---- a number that passes here passes there
-- whatever the range, the same numbers can be written
same_fits : (low high low' high' : ℕ) (z : ℤ) → fits (natural low high) z ≡ fits (natural low' high') z
same_fits low high low' high' (pos v) = refl
same_fits low high low' high' (negsuc n) = refl

-- where it is a hold
module _ (n b s : ℕ) (rs : List Row) (vs : List ℕ) (at_hold_lem : eqb (length vs) hold_at ≡ true) where
  abbrev here : Stage
  here = at_field n b s rs vs

  pub hold_line : unheld_line here ≡ a_line (bytes "hold=") (natural no_hold no_hold)
  hold_line = rw at_hold_lem

  table_hold : expected here ≡ a_line (bytes "hold=") (natural min_hold max_hold)
  table_hold =
      ap (λ (i : ℕ). let l = row_line_at i in a_line l.key (natural l.low l.high))
      (eqb-true (length vs) hold_at at_hold_lem)

  held_passes : {key : List ℕ} {z : ℤ} → Passes unheld here key z → Passes (table true) here key z
  held_passes {key} {z} p =
      let same : a_line key p.form ≡ a_line (bytes "hold=") (natural no_hold no_hold) =
      sym p.is_expected ∙ hold_line in
      let named : bytes "hold=" ≡ key = cc in
      let formed : natural no_hold no_hold ≡ p.form = cc in
      let none = natural_passes p (bytes "hold=") no_hold no_hold hold_line in
      record {
        form = natural min_hold max_hold;
        is_expected = table_hold ∙ ap (λ (x : List ℕ). a_line x (natural min_hold max_hold)) named;
        is_number =
            same_fits min_hold max_hold no_hold no_hold z ∙ (ap (λ (f : Form). fits f z) formed ∙ p.is_number);
        is_in_range = true_within min_hold max_hold (size z) (omega arith) (omega (arith, none.le_high));
        no_fault = p.no_fault;
      }

pub unheld_passes : (s : Stage) (key : List ℕ) (z : ℤ) → Passes unheld s key z → Passes (table true) s key z
unheld_passes at_board key z p = passes_as refl (λ z. refl) p
unheld_passes (at_tasks b) key z p = passes_as refl (λ z. refl) p
unheld_passes (at_switch n b) key z p = passes_as refl (λ z. refl) p
unheld_passes (at_field n b s rs vs) key z p = elim (test_of (eqb (length vs) hold_at)) [
  | inl e ↦ held_passes n b s rs vs e p
  | inr e ↦ passes_as (sym (rw e)) (λ z. refl) p
]
unheld_passes (at_rank n b rs os) key z p = passes_as refl (λ z. refl) p
unheld_passes (at-end b rs os) key z p = passes_as refl (λ z. refl) p

pub as_reviewed : {start : Stage} {text : List ℕ} {k : ℕ} {s : Stage} {here : List ℕ}
    → Reaches unheld start text k s here → Reaches (table true) start text k s here
as_reviewed = widens unheld (table true) (λ s z. refl) unheld_passes

-- ---- and its tasks hold nothing
abbrev pub NoHolds : List Row → Type 0
NoHolds rs = (i : ℕ) → i < length rs → (row_at rs i).hold ≡ 0

abbrev pub Kept : Stage → Type 0
Kept at_board = Unit {0}
Kept (at_tasks b) = Unit {0}
Kept (at_switch n b) = Unit {0}
Kept (at_field n b s rs vs) = NoHolds rs × (hold_at < length vs → get_or vs hold_at 0 ≡ 0)
Kept (at_rank n b rs os) = NoHolds rs
Kept (at-end b rs os) = NoHolds rs

ranks_kept : (n b : ℕ) (rs : List Row) (os : List ℕ) → NoHolds rs → Kept (ranks_stage n b rs os)
ranks_kept zero b rs os h = h
ranks_kept (suc n) b rs os h = h

rows-kept : (n b s : ℕ) (rs : List Row) → NoHolds rs → Kept (rows_stage true n b s rs)
rows-kept zero b s rs h = ranks_kept (length rs) b rs [] h
rows-kept (suc n) b s rs h = (h, λ l. absurd (omega arith))

-- one row more, whose hold is 0
row_kept : (rs : List Row) (vs : List ℕ) (s : ℕ) → NoHolds rs → get_or vs hold_at 0 ≡ 0
    → NoHolds (rs ++ (row_of s vs ∷ []))
row_kept rs vs s h none i l = elim (le-or-lt (length rs) i) [
  | inl b ↦ (
      let r = row_of s vs in
      let at : length rs ≡ i = omega (arith, length-append rs (r ∷ [])) in
      ap (λ (x : Row). x.hold) (row_last rs r i at) ∙ none)
  | inr b ↦ ap (λ (x : Row). x.hold) (get_or-append rs _ no_row i b) ∙ h i b
]
  where
    row_last : (rs : List Row) (r : Row) (i : ℕ) → length rs ≡ i → row_at (rs ++ (r ∷ [])) i ≡ r
    row_last rs r i e = get_or_at rs r [] no_row i e

pub kept : Invariant unheld at_board Kept
kept = record { begins = tt; keeps = go }
  where
    -- the hold of a row, once it is there
    hold_is : (n b s : ℕ) (rs : List Row) (vs : List ℕ) (key : List ℕ) (z : ℤ)
        → (hold_at < length vs → get_or vs hold_at 0 ≡ 0) → Passes unheld (at_field n b s rs vs) key z
        → let more = vs ++ (size z ∷ []) in hold_at < length more → get_or more hold_at 0 ≡ 0
    hold_is n b s rs vs key z h p l = elim (le-or-lt (length vs) hold_at) [
      | inl few ↦ (
          let long : length vs ≡ hold_at = omega (arith, few, l, length-append vs (size z ∷ [])) in
          let none = natural_passes p (bytes "hold=") no_hold no_hold
          (hold_line n b s rs vs (eq-eqb (length vs) hold_at long)) in
          get_or_at vs (size z) [] 0 hold_at long ∙ omega (arith, none.le_high))
      | inr there ↦ get_or-append vs (size z ∷ []) 0 hold_at there ∙ h there
    ]

    field : (n b s : ℕ) (rs : List Row) (vs : List ℕ) (key : List ℕ) (z : ℤ) → Kept (at_field n b s rs vs)
        → Passes unheld (at_field n b s rs vs) key z → Kept (after true (at_field n b s rs vs) (size z))
    field n b s rs vs key z h p =
        let more = vs ++ (size z ∷ []) in
        let next = hold_is n b s rs vs key z h.1 p in
        elim (test_of (is_whole more)) [
          | inl e ↦ (
              let long = eqb-true (length more) (lines_for (get_or more points_at 0)) e in
              rw e (rows-kept n b s _ (row_kept rs more s h.0 (next (omega (arith, long))))))
          | inr e ↦ rw e (h.0, next)
        ]

    go : (s : Stage) (key : List ℕ) (z : ℤ) → Kept s → Passes unheld s key z → Kept (after true s (size z))
    go at_board key z h p = tt
    go (at_tasks b) key z h p = tt
    go (at_switch n b) key z h p = rows-kept n b (size z) [] (λ i l. absurd (omega arith))
    go (at_field n b s rs vs) key z h p = field n b s rs vs key z h p
    go (at_rank n b rs os) key z h p = ranks_kept n b rs (os ++ (size z ∷ [])) h
    go (at-end b rs os) key z h p = h
