-- A board with more load than it has room for: the lower of two such tasks is late in each order, since a multiple of
-- all periods brings more than it has room for. So the planner says 8, and the reviewer 7.
use mathlib.Core.Path.{◌≡◌, refl, ap}
use mathlib.Core.Bool.{true, false, not}
use mathlib.Core.List.{List, [], ◌∷◌, ◌++◌}
use mathlib.Core.Logic.{inl, inr}
use Prim.Native.Nat.{ℕ, zero, suc, ◌+◌, ◌*◌, ◌<◌}
use native.Mathlib.Omega.{arith}
use lib.IntN.{pos}
use lib.ListN.{length}
use lib.Signed.{le_z}
use borrow.Author.Tests.{not-true}
use Rattle.basics.proofs.Tests.{test_of, true_not_false, and_left}
use Rattle.text.specs.Text.{digits, decimal, lined, key_line}
use Rattle.text.specs.Lines.{number_of, line_at}
use Rattle.grammars.specs.Forms.{form_at}
use Rattle.grammars.specs.Grammars.{read_for}
use Rattle.rows.specs.Rows.{Row, cost, row_at}
use Rattle.tables.specs.TableLines.{read_table}
use Rattle.tables.specs.Claims.{Tells}
use Rattle.responses.specs.Extremes.{smallest}
use Rattle.responses.specs.Interference.{ceiling}
use Rattle.responses.specs.BusyIntervals.{jobs_in, longest_response, latest_within}
use Rattle.responses.specs.Figures.{rows_above, rows_below, worst_in, blocking, is_late, margin}
use Rattle.responses.specs.Claims.{Divides}
use Rattle.responses.proofs.Finishes.{ends}
use Rattle.orders.specs.Orders.{here, later, nothing, first}
use Rattle.orders.specs.Stability.{order_stable}
use Rattle.orders.proofs.Stability.{stable_at}
use Rattle.plans.specs.Plans.{plan_room, refusal_text}
use Rattle.plans.specs.Outcomes.{refuses, printed}
use Rattle.demands.specs.Calls.{planned, reviewed}
use Rattle.demands.specs.Cases.{AllSo, heavy, heavy_text, of_loads}
use Rattle.demands.specs.Demands.{EveryOrderFails, FirstLate}
use Rattle.demands.proofs.Texts.{telling}
use Rattle.demands.proofs.Planner as Planner
use Rattle.demands.proofs.Reviewer as Reviewer

-- ten ticks bring twelve
heavy_late : (a b : ℕ) (below : List Row) → is_late (heavy a) (heavy b ∷ []) below ≡ true
unfolding cost
heavy_late a b below =
    let brought : ceiling 10 10 * cost (heavy a) + worst_in 10 (heavy b ∷ []) ≡ 12 = refl in
    (ends (heavy a) (heavy b ∷ []) below refl refl).overloaded 10 (omega arith) (1, refl) others (omega (arith, brought))
  where
    others : (i : ℕ) → i < length (heavy b ∷ []) → Divides (row_at (heavy b ∷ []) i).period 10
    others zero h = (1, refl)
    others (suc i) h = absurd (omega arith)

-- an order with a late rank is not stable
late_fails : (order : List Row) (i : ℕ) → i < length order
    → is_late (row_at order i) (rows_above order i) (rows_below order i) ≡ true → order_stable order ≡ false
late_fails order i h late = elim (test_of (order_stable order)) [
  | inr e ↦ e
  | inl e ↦ (
      let now = is_late (row_at order i) (rows_above order i) (rows_below order i) in
      let m = margin (row_at order i) (rows_above order i) (rows_below order i) in
      absurd (true_not_false now late (not-true now (and_left (not now) (le_z (pos 0) m) (stable_at order e i h)))))
]

abbrev heavy_rows : List Row
heavy_rows = heavy 31 ∷ heavy 32 ∷ []

none_stable : EveryOrderFails heavy_rows
none_stable _ (first here (first here nothing)) =
    late_fails (heavy 31 ∷ heavy 32 ∷ []) 1 (omega arith) (heavy_late 32 31 [])
none_stable _ (first (later here) (first here nothing)) =
    late_fails (heavy 32 ∷ heavy 31 ∷ []) 1 (omega arith) (heavy_late 31 32 [])
-- no third row is left to take
none_stable _ (first here (first here (first t _))) = elim t [ ]
none_stable _ (first here (first (later t) _)) = elim t [ ]
none_stable _ (first (later here) (first here (first t _))) = elim t [ ]
none_stable _ (first (later here) (first (later t) _)) = elim t [ ]
none_stable _ (first (later (later t)) _) = elim t [ ]

heavy_told : Tells false heavy_text 7 heavy_rows []
unfolding number_of line_at form_at read_for read_table
heavy_told = telling false heavy_text refl

eight : planned heavy_text plan_room ≡ refuses 8 0
eight = ((Planner.plan_demands heavy_text plan_room).accepted 7 heavy_rows heavy_told).eight.1 none_stable

-- ---- the reviewer
abbrev ranked_text : List ℕ
ranked_text = heavy_text ++ lined ("rank=32" ∷ "rank=31" ∷ [])

abbrev heavy_order : List Row
heavy_order = heavy 32 ∷ heavy 31 ∷ []

ranked_told : Tells true ranked_text 7 heavy_rows (32 ∷ 31 ∷ [])
unfolding number_of line_at form_at read_for read_table
ranked_told = telling true ranked_text refl

lower_late : FirstLate heavy_order 1
unfolding cost blocking smallest jobs_in longest_response latest_within
lower_late = record { there = omega arith; late = heavy_late 31 32 []; above_in_time = above }
  where
    above : (j : ℕ) → j < 1
        → is_late (row_at heavy_order j) (rows_above heavy_order j) (rows_below heavy_order j) ≡ false
    above zero h = refl
    above (suc j) h = absurd (omega arith)

seven : reviewed ranked_text plan_room ≡ refuses 7 2
seven =
    let d = Reviewer.review_demands ranked_text plan_room in
    let given = d.given 7 heavy_rows (32 ∷ 31 ∷ []) ranked_told in
    ((d.accepted 7 heavy_rows (32 ∷ 31 ∷ []) ranked_told heavy_order given).seven 1).1 lower_late

pub loads_so : AllSo of_loads
unfolding digits decimal key_line refusal_text
loads_so = ((λ below none. heavy_late 32 31 below), (eight, (ap printed seven, tt)))
