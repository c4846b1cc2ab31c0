-- The starred cases, the others, and those of holds, of the switch, of curves and of deadlines are so, by computing.
use mathlib.Core.Path.{◌≡◌, refl, sym, ◌∙◌}
use mathlib.Core.Bool.{true}
use mathlib.Core.List.{List, [], ◌∷◌}
use Prim.Native.Nat.{ℕ}
use native.Mathlib.Omega.{arith}
use lib.IntN.{ℤ}
use Rattle.text.specs.Text.{digits, decimal, signed, key_line}
use Rattle.text.specs.Lines.{number_of, line_at}
use Rattle.grammars.specs.Forms.{form_at}
use Rattle.grammars.specs.Grammars.{read_for}
use Rattle.tables.specs.TableLines.{read_table}
use Rattle.curves.specs.Curves.{Point, point, permitted, curve_margin}
use Rattle.rows.specs.Rows.{row, cost, with_deadline, with_switch, with_curve}
use Rattle.rows.specs.Rows.{Row}
use Rattle.responses.specs.Extremes.{smallest, largest}
use Rattle.responses.specs.BusyIntervals.{jobs_in, longest_response, latest_within}
use Rattle.responses.specs.Figures.{blocking, is_late}
use Rattle.responses.specs.Claims.{NoneHolds}
use Rattle.responses.proofs.Blocking.{no_blocking}
use Rattle.responses.proofs.Sequences.{by_blocking}
use Rattle.orders.specs.Orders.{over_set}
use Rattle.plans.specs.Plans.{rank_text, head_text, plan_text, refusal_text}
use Rattle.plans.specs.Outcomes.{fitted, if_in_time}
use Rattle.demands.specs.Calls.{on_table, if_ordered}
use Rattle.demands.specs.Cases.{HasFigures, AllSo, row11, row12, row13, starred, unstarred, of_tasks, of_holds}
use Rattle.demands.specs.Cases.{of_switch, curved13, of_curves, of_curve_texts, row21, row22, queued, long_above}
use Rattle.demands.specs.Cases.{of_deadlines}

-- the rows below count by their blocking time, which is that of none
none_blocks : (below : List Row) → NoneHolds below → blocking below ≡ blocking []
none_blocks below none = no_blocking below none ∙ sym (no_blocking [] (λ i l. absurd (omega arith)))

over : (t : Row) (above : List Row) {e w j : ℕ} {m : ℤ} → HasFigures t above [] e w j m
    → (below : List Row) → NoneHolds below → HasFigures t above below e w j m
over t above h below none =
    let same = by_blocking t above below [] (none_blocks below none) in (
      same.late_same ∙ h.0,
      same.earliest_same ∙ h.1,
      same.latest-same ∙ h.2,
      same.jitter_same ∙ h.3,
      same.margin_same ∙ h.4,
    )

late_over : (t : Row) (above : List Row) → is_late t above [] ≡ true
    → (below : List Row) → NoneHolds below → is_late t above below ≡ true
late_over t above h below none =
    (by_blocking t above below [] (none_blocks below none)).late_same ∙ h

pub starred_so : AllSo starred
unfolding digits decimal signed key_line number_of line_at form_at read_for read_table cost blocking smallest largest
    jobs_in longest_response latest_within over_set rank_text head_text plan_text fitted on_table if_ordered
starred_so = (
  over (row13 57000) [] (refl, refl, refl, refl, refl),
  (
    over (row13 57000) (row12 8000 ∷ []) (refl, refl, refl, refl, refl),
    (
      over (row13 57000) (row11 8000 ∷ []) (refl, refl, refl, refl, refl),
      (
        over (row13 57000) (row11 8000 ∷ row12 8000 ∷ []) (refl, refl, refl, refl, refl),
        (
          late_over (row12 8000) (row13 57000 ∷ []) refl,
          (
            over (row12 8000) (row11 8000 ∷ []) (refl, refl, refl, refl, refl),
            (refl, (refl, (refl, (refl, (refl, (refl, (refl, (refl, tt)))))))),
          ),
        ),
      ),
    ),
  ),
)

pub unstarred_so : AllSo unstarred
unfolding digits decimal signed key_line number_of line_at form_at read_for read_table cost blocking smallest largest
    jobs_in longest_response latest_within over_set rank_text head_text plan_text refusal_text fitted if_in_time on_table
    if_ordered
unstarred_so = (refl, (refl, (refl, (refl, (refl, (refl, (refl, tt)))))))

pub tasks_so : AllSo of_tasks
unfolding digits decimal key_line number_of line_at form_at read_for read_table refusal_text on_table
tasks_so = (refl, tt)

pub holds_so : AllSo of_holds
unfolding digits decimal signed key_line number_of line_at form_at read_for read_table cost blocking smallest largest
    jobs_in longest_response latest_within over_set rank_text head_text plan_text fitted on_table if_ordered
holds_so = (
  (refl, refl, refl, refl, refl),
  (
    (refl, refl, refl, refl, refl),
    (
      (refl, refl, refl, refl, refl),
      (
        (refl, refl, refl, refl, refl),
        ((refl, refl, refl, refl, refl), (refl, (refl, (refl, (refl, tt))))),
      ),
    ),
  ),
)

pub switch_so : AllSo of_switch
unfolding digits decimal signed key_line number_of line_at form_at read_for read_table cost blocking smallest largest
    jobs_in longest_response latest_within over_set rank_text head_text plan_text refusal_text fitted if_in_time on_table
    if_ordered
switch_so = (
  over (with_switch 5 (row13 57000)) [] (refl, refl, refl, refl, refl),
  (
    over (with_switch 1 (row13 57000)) (with_switch 1 (row12 8000) ∷ []) (refl, refl, refl, refl, refl),
    (
      over (with_switch 1 (row13 57000)) (with_switch 1 (row11 8000) ∷ with_switch 1 (row12 8000) ∷ [])
          (refl, refl, refl, refl, refl),
      (
        over (with_switch 2 (row13 57000)) (row11 8000 ∷ with_switch 1 (row12 8000) ∷ []) (refl, refl, refl, refl, refl),
        (
          (refl, refl, refl, refl, refl),
          (
            late_over (with_switch 6 (row12 8000)) (with_switch 6 (row11 8000) ∷ []) refl,
            (refl, (refl, (refl, (refl, (refl, (refl, (refl, (refl, (refl, (refl, (refl, (refl, (refl, (refl, tt)))))))))))))),
          ),
        ),
      ),
    ),
  ),
)

-- one behind another
infixr 20 ◌also◌
◌also◌ : {A B : Type 0} → A → B → A × B
a also b = (a, b)

-- with a curve, below 11 and 12
judge : (c : List Point) {e w j : ℕ} {m : ℤ} → HasFigures (curved13 c) (row11 8000 ∷ row12 8000 ∷ []) [] e w j m
    → (below : List Row) → NoneHolds below → HasFigures (curved13 c) (row11 8000 ∷ row12 8000 ∷ []) below e w j m
judge c h = over (curved13 c) (row11 8000 ∷ row12 8000 ∷ []) h

pub curves_so : AllSo of_curves
unfolding cost blocking smallest largest jobs_in longest_response latest_within permitted curve_margin
curves_so =
    judge (point 30 10 ∷ []) (refl, refl, refl, refl, refl)
    also judge (point 25 12 ∷ []) (refl, refl, refl, refl, refl)
    also judge (point 25 9 ∷ []) (refl, refl, refl, refl, refl)
    also judge (point 24 1000 ∷ []) (refl, refl, refl, refl, refl)
    also judge (point 0 1000000 ∷ []) (refl, refl, refl, refl, refl)
    also judge (point 20 20 ∷ point 40 0 ∷ []) (refl, refl, refl, refl, refl)
    also judge (point 24 11 ∷ point 27 10 ∷ []) (refl, refl, refl, refl, refl)
    also judge (point 24 10 ∷ point 27 9 ∷ []) (refl, refl, refl, refl, refl)
    also judge (point 0 30 ∷ point 25 12 ∷ point 26 0 ∷ []) (refl, refl, refl, refl, refl)
    also judge (point 0 30 ∷ point 25 10 ∷ []) (refl, refl, refl, refl, refl)
    also judge (point 0 30 ∷ point 23 20 ∷ []) (refl, refl, refl, refl, refl)
    also judge (point 24 20 ∷ point 25 11 ∷ []) (refl, refl, refl, refl, refl)
    also judge (point 0 1000000 ∷ point 1000000 0 ∷ []) (refl, refl, refl, refl, refl)
    also judge (point 0 11 ∷ point 100 11 ∷ []) (refl, refl, refl, refl, refl)
    also judge (point 5 40 ∷ point 10 30 ∷ point 15 25 ∷ point 20 18 ∷ point 25 12 ∷ []) (refl, refl, refl, refl, refl)
    also judge (point 1 40 ∷ point 2 30 ∷ point 3 25 ∷ point 4 18 ∷ point 5 12 ∷ []) (refl, refl, refl, refl, refl)
    also judge (point 0 50 ∷ point 5 45 ∷ point 10 40 ∷ point 15 30 ∷ point 20 20 ∷ point 24 15 ∷ point 27 13 ∷ point 40 0 ∷ [])
    (refl, refl, refl, refl, refl)
    also judge (point 0 20 ∷ point 1 20 ∷ point 2 20 ∷ point 3 20 ∷ point 4 20 ∷ point 5 20 ∷ point 20 20 ∷ point 30 10 ∷ [])
    (refl, refl, refl, refl, refl)
    also judge (point 1 20 ∷ point 2 20 ∷ point 3 20 ∷ point 4 20 ∷ point 5 20 ∷ point 6 20 ∷ point 7 20 ∷ point 8 20 ∷ [])
    (refl, refl, refl, refl, refl)
    also over (row13 57000) (with_curve (point 0 0 ∷ []) (row11 8000) ∷ row12 8000 ∷ []) (refl, refl, refl, refl, refl)
    also over (with_switch 1 (curved13 (point 25 20 ∷ []))) (with_switch 1 (row11 8000) ∷ with_switch 1 (row12 8000) ∷ [])
    (refl, refl, refl, refl, refl)
    also (refl, refl, refl, refl, refl)
    also (refl, refl, refl, refl, refl)
    also late_over (with_curve (point 1000000 1000000 ∷ []) (row12 8000)) (row13 57000 ∷ []) refl
    also tt

pub curve_texts_so : AllSo of_curve_texts
unfolding digits decimal signed key_line number_of line_at form_at read_for read_table cost blocking smallest largest
    jobs_in longest_response latest_within permitted curve_margin over_set rank_text head_text plan_text refusal_text
    fitted if_in_time on_table if_ordered
curve_texts_so =
    refl also refl also refl also refl also refl also refl also refl also refl
    also refl also refl also refl also refl also refl also refl also refl also refl
    also refl also refl also refl also refl also refl also refl also refl also refl
    also refl also tt

pub deadlines_so : AllSo of_deadlines
unfolding digits decimal signed key_line number_of line_at form_at read_for read_table cost blocking smallest largest
    jobs_in longest_response latest_within permitted curve_margin over_set rank_text head_text plan_text refusal_text
    fitted if_in_time on_table if_ordered
deadlines_so =
    refl
    also over (row22 118) (row21 ∷ []) (refl, refl, refl, refl, refl)
    also over (row22 1000000) (row21 ∷ []) (refl, refl, refl, refl, refl)
    also late_over (row22 117) (row21 ∷ []) refl
    also late_over (row22 100) (row21 ∷ []) refl
    also refl
    also refl
    also refl
    also (refl, refl, refl, refl, refl)
    also (refl, refl, refl, refl, refl)
    also refl
    also refl
    also over (row 22 100 1000000 60 40 1000 1000000 0 1) (row 21 70 70 25 25 1000 26000 0 1 ∷ [])
    (refl, refl, refl, refl, refl)
    also over (row 22 100 118 62 60 1000 1000000 0 0) (row21 ∷ []) (refl, refl, refl, refl, refl)
    also over (row 22 100 118 62 60 1000 1000000 2 0) (row21 ∷ []) (refl, refl, refl, refl, refl)
    also over (row22 62) [] (refl, refl, refl, refl, refl)
    also late_over (row22 61) [] refl
    also late_over (row22 1) [] refl
    also over (row22 118) (with_deadline 1 row21 ∷ []) (refl, refl, refl, refl, refl)
    also refl
    also over (queued 54) (long_above ∷ []) (refl, refl, refl, refl, refl)
    also late_over (queued 53) (long_above ∷ []) refl
    also over (with_curve (point 40 78 ∷ []) (row22 118)) (row21 ∷ []) (refl, refl, refl, refl, refl)
    also over (with_curve (point 40 77 ∷ []) (row22 118)) (row21 ∷ []) (refl, refl, refl, refl, refl)
    also refl also refl also refl also refl also refl also refl also refl also refl
    also over (row 2 6 19 1 1 20000 361000 0 0)
    (row 1 12 12 5 5 20000 5000 0 0 ∷ row 3 27 27 8 7 20000 174000 0 0 ∷ []) (refl, refl, refl, refl, refl)
    also late_over (row 1 12 12 5 5 20000 5000 0 0)
    (row 2 6 19 1 1 20000 361000 0 0 ∷ row 3 27 27 8 7 20000 174000 0 0 ∷ []) refl
    also refl also refl also refl also refl also refl also refl also refl also refl
    also refl also refl also refl also refl also refl also tt
