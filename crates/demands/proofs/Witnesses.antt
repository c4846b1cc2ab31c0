-- What is read of each text is found by computing, and the demands of that text say the rest: what it meets, and that
-- no other outcome than its own meets them.
use mathlib.Core.Path.{◌≡◌, refl, sym, ap, ap₂, ◌∙◌}
use mathlib.Core.Bool.{true, false}
use mathlib.Core.List.{List, [], ◌∷◌, map}
use Prim.Native.Nat.{ℕ, zero, suc, ◌+◌, ◌-◌, ◌*◌, ◌/◌, ◌≤◌, ◌<◌}
use native.Mathlib.Nat.{sub-zero}
use native.Mathlib.Omega.{arith}
use borrow.Author.Tests.{ne_eqb}
use lib.ListN.{length}
use Rattle.text.specs.Text.{digits, decimal, signed, key_line}
use Rattle.text.specs.Lines.{number_of, line_at}
use Rattle.grammars.specs.Forms.{form_at}
use Rattle.grammars.specs.Grammars.{read_for}
use Rattle.curves.specs.Curves.{well_formed, permitted, curve_margin}
use Rattle.rows.specs.Rows.{max_task, max_ticks, cost}
use Rattle.rows.specs.Rows.{Row}
use Rattle.tables.specs.TableLines.{TableRead, read_table}
use Rattle.responses.specs.declared.Load.{Load}
use Rattle.responses.specs.Extremes.{smallest, largest}
use Rattle.responses.specs.BusyIntervals.{jobs_in, longest_response, latest_within}
use Rattle.responses.specs.Figures.{worst_load, best_load, worst_in, best_in, blocking, finish_of, is_late}
use Rattle.responses.specs.Figures.{latest, earliest, margin_at}
use Rattle.responses.specs.Interference.{ceiling, least_fixed}
use Rattle.responses.specs.Claims.{Figured, Equation4, NotFound, AsRequest4, switched}
use Rattle.responses.proofs.Responses.{figured}
use Rattle.responses.proofs.BusyIntervals.{equation}
use Rattle.responses.proofs.Finishes.{counts, within_period}
use Rattle.responses.proofs.FixedPoints.{least_fixed_lem, least_least, least_none}
use Rattle.responses.proofs.Sums.{ceiling_covers, interference_mono}
use Rattle.orders.specs.Orders.{over_set}
use Rattle.plans.specs.declared.Entry.{Entry}
use Rattle.plans.specs.Entries.{entry, entries}
use Rattle.plans.specs.Plans.{rank_text, head_text, plan_text, rank_room}
use Rattle.plans.specs.Outcomes.{refuses, if_in_time}
use Rattle.demands.specs.Calls.{on_table, planned, reviewed}
use Rattle.demands.specs.Cases.{holding13, table, pointed, row21, row22, overrun}
use Rattle.boards.specs.Witnesses.{example_order}
use Rattle.boards.proofs.Witnesses.{runs_met}
use Rattle.demands.specs.Witnesses.{example, example_rows, timely_text, late_order, late_text, malformed}
use Rattle.demands.specs.Witnesses.{tenth, tenths, most_text, switched_text, loose_order, curved_text, curved_rows}
use Rattle.demands.specs.Witnesses.{half, three_quarters}
use Rattle.demands.specs.Witnesses.{Met, Excluded}
use Rattle.demands.proofs.Outcomes.{same_refusal, not_both}
use Rattle.demands.proofs.Texts.{failing, telling, fails_only}
use Rattle.demands.proofs.Planner as Planner
use Rattle.demands.proofs.Reviewer as Reviewer

-- ---- a rank that fills its room: W is the longest period, and E a tenth of it
module _ where
  abbrev lowest : Row
  lowest = tenth max_task

  abbrev above : List Row
  above = tenths 9

  figures : Figured lowest above []
  unfolding cost
  figures = figured lowest above [] refl refl

  -- its deadline is its period, so one job decides
  abbrev solution : ℕ
  solution = least_fixed (cost lowest + blocking []) max_ticks (map worst_load above)

  solved : (1 ≤ solution) × (solution ≤ max_ticks)
  unfolding cost blocking
  solved =
      least_least (cost lowest + blocking []) max_ticks (map worst_load above) max_ticks (omega arith) refl (omega arith)

  one_job : AsRequest4 lowest above []
  unfolding cost
  one_job = within_period lowest above [] refl refl

  whole_period : is_late lowest above [] ≡ false
  whole_period = one_job.late_then ∙ ne_eqb solution 0 (λ z. omega (arith, z, solved.0))

  latest_whole : latest lowest above [] ≡ max_ticks
  unfolding cost blocking
  latest_whole =
      let w = least_fixed_lem (cost lowest + blocking []) max_ticks (map worst_load above) solved.0 in
      let once : worst_in 1 above ≡ 9 * (max_ticks / 10) = refl in
      one_job.latest_then
      ∙ omega (arith, w.0, w.1, once, interference_mono 0 1 solution (map worst_load above) solved.0)

  earliest_tenth : earliest lowest above [] ≡ max_ticks / 10
  earliest_tenth =
      let e = figures.earliest_fixed (omega arith) whole_period in
      let none : best_in max_ticks above ≡ 0 = refl in
      omega (
        arith,
        e.0,
        none,
        interference_mono 1 (earliest lowest above []) max_ticks (map best_load above)
            (omega (arith, e.2, latest_whole)),
      )

  -- over a hold of 2 it would be done a tick later
  limit_past : NotFound (finish_of lowest above (holding13 2 ∷ [])) max_ticks 0
  unfolding cost blocking
  limit_past = record {
    goes_on = λ j h. absurd (omega (arith, h));
    none = sym (least_none (cost lowest + 1) max_ticks (map worst_load above) never);
  }
    where
      never : (v : ℕ) → 1 ≤ v → v ≡ cost lowest + 1 + worst_in v above → v ≤ max_ticks → ⊥
      never v some is most =
          let once : worst_in 1 above ≡ 9 * (max_ticks / 10) = refl in
          omega (arith, once, interference_mono 0 1 v (map worst_load above) some)

  -- the entry of any two responses
  abbrev entry_of : ℕ → ℕ → Entry
  entry_of w e = record { task = max_task; best = e; worst = w; jitter = w - e; margin = margin_at lowest w e }

  filled_then : length (rank_text 10 (entry_of max_ticks (max_ticks / 10))) ≡ rank_room
  unfolding digits decimal signed key_line rank_text
  filled_then = refl

  filled : length (rank_text 10 (entry lowest above [])) ≡ rank_room
  filled = ap₂ (λ (w e : ℕ). length (rank_text 10 (entry_of w e))) latest_whole earliest_tenth ∙ filled_then

-- ---- a busy interval of seven jobs, by whatever deadline
interval : (deadline : ℕ) → Equation4 (finish_of (row22 deadline) (row21 ∷ []) []) 100 118 6
unfolding cost blocking smallest jobs_in longest_response
interval deadline =
    equation (finish_of (row22 deadline) (row21 ∷ []) []) 100 (omega arith)
    (counts (row22 deadline) (row21 ∷ []) [] refl) (omega arith)

-- ---- one whose second job is not found: it would take 1,200,000 ticks, or more
module _ where
  abbrev loads : List Load
  loads = map worst_load (half ∷ [])

  abbrev brought : ℕ → ℕ
  brought w = ceiling w 400000 * 200000

  -- as many jobs above as there are periods in its time, each of 200,000 ticks
  brings : (w : ℕ) → worst_in w (half ∷ []) ≡ brought w
  unfolding cost
  brings w = rw (sub-zero (ceiling w 400000)) (omega arith)

  second_not_found : NotFound (finish_of three_quarters (half ∷ []) []) 400000 1
  unfolding cost blocking
  second_not_found = record {
    goes_on = goes_on;
    none = sym (least_none 600000 max_ticks loads never);
  }
    where
      never : (v : ℕ) → 1 ≤ v → v ≡ 600000 + worst_in v (half ∷ []) → v ≤ max_ticks → ⊥
      never v some is most = omega (arith, brings v, ceiling_covers v 400000 (omega arith))

      goes_on : (j : ℕ) → j < 1 → suc j * 400000 < finish_of three_quarters (half ∷ []) [] j
      goes_on zero h =
          let first = least_least 300000 max_ticks loads 700000 (omega arith) refl (omega arith) in
          let w = least_fixed 300000 max_ticks loads in
          let is = (least_fixed_lem 300000 max_ticks loads first.0).0 in
          omega (arith, first.0, is, brings w, ceiling_covers w 400000 (omega arith))
      goes_on (suc j) h = absurd (omega arith)

pub met : Met
unfolding digits decimal signed key_line number_of line_at form_at read_for read_table cost blocking smallest largest
    jobs_in longest_response latest_within well_formed permitted curve_margin over_set rank_text head_text plan_text
    if_in_time on_table
met =
    let late_told = telling true late_text refl in
    let late = Reviewer.review_demands late_text 0 in
    let late_given = late.given 7 example_rows (11 ∷ 13 ∷ 12 ∷ []) late_told in
    let timely_told = telling true timely_text refl in
    let timely = Reviewer.review_demands timely_text 0 in
    let plan_long : length (plan_text 7 (entries example_order)) ≡ 176 = refl in
    let brought : ceiling 700 100 * cost (row22 118) + blocking [] + worst_in 700 (row21 ∷ []) ≡ 694 = refl in
    let heavy : ceiling 400000 400000 * cost three_quarters + worst_in 400000 (half ∷ []) ≡ 500000 = refl in
    record {
      missing = failing false _ 0 refl;
      trailing = failing false _ 0 refl;
      no_number = failing false _ 1 refl;
      out_of_range = failing false _ 2 refl;
      exceeding = failing false _ 3 refl;
      repeated = failing false _ 4 refl;
      impossible = failing true _ 5 refl;
      disorderly = failing false _ 10 refl;
      tells = telling false example refl;
      by_rule = Planner.rule_of example 0 refl example_order refl;
      short = omega (arith, plan_long);
      every_order_fails = (Planner.choice (table "beta=8000" "beta=8000" "beta=54999") refl).none_passes refl;
      tells_late = late_told;
      given_late = late_given;
      late_first = ((late.accepted 7 example_rows (11 ∷ 13 ∷ 12 ∷ []) late_told late_order late_given).seven 2).0 refl;
      tells_timely = timely_told;
      given_timely = timely.given 7 example_rows (12 ∷ 11 ∷ 13 ∷ []) timely_told;
      none_late = runs_met.none_late;
      tells_most = telling false most_text refl;
      record_short = omega arith;
      beside_most = refl;
      beside_more = refl;
      limits_met = refl;
      worst_past = refl;
      best_past = refl;
      hold_past = refl;
      switch_most = refl;
      switch_past = refl;
      deadline_least = refl;
      deadline_most = refl;
      deadline_none = refl;
      deadline_past = refl;
      curve_met = refl;
      curve_most = refl;
      delay_not_above = refl;
      allow_above = refl;
      delay_past = refl;
      allow_past = refl;
      points_past = refl;
      tells_curved = telling false curved_text refl;
      by_rule_curved = Planner.rule_of curved_text 0 refl curved_rows refl;
      line_fails = (Planner.choice (pointed ("points=0" ∷ [])) refl).none_passes refl;
      tells_overrun = telling false (overrun "deadline=118") refl;
      by_rule_overrun = Planner.rule_of (overrun "deadline=118") 0 refl (row21 ∷ row22 118 ∷ []) refl;
      period_fails = (Planner.choice (overrun "deadline=100") refl).none_passes refl;
      due_at_period = refl;
      interval = interval 118;
      interval_late = interval 117;
      window_fits = omega (arith, brought);
      second_not_found = second_not_found;
      window_heavy = omega (arith, heavy);
      limit_reached = latest_whole;
      limit_past = limit_past;
      lent_whole = refl;
      lent_as_rows = refl;
      lent_second = refl;
      tells_switched = telling false switched_text refl;
      by_rule_switched = Planner.rule_of switched_text 0 refl (switched 1 loose_order) refl;
      beside_switched = refl;
      room_is = refl;
      head_filled = refl;
      rank_in_limits = refl;
      rank_timely = whole_period;
      rank_filled = filled;
    }

-- a text that is no table has its refusal only
malformed_only : (room : ℕ) → planned malformed room ≡ refuses 2 1
unfolding number_of line_at form_at read_for read_table on_table
malformed_only room = refl

example_accepted : (read_table false example).refused ≡ 0
unfolding number_of line_at form_at read_for read_table
example_accepted = refl

late_only : (room : ℕ) → reviewed late_text room ≡ refuses 7 3
unfolding number_of line_at form_at read_for read_table cost blocking smallest jobs_in longest_response latest_within
    if_in_time on_table
late_only room = refl

pub excluded : Excluded
excluded = record {
  two_for_a_table = λ room d.
      let e = fails_only false example 2 77 ((d.refused 2 77).0 (refl, refl)) in
      let z : ◌≡◌ {A = ℕ} 0 2 = sym example_accepted ∙ ap (λ (a : TableRead). a.refused) e in
      omega arith;
  empty_plan = λ room d. not_both (Planner.decided malformed room _ d ∙ malformed_only room);
  no_line = λ room d.
      let z : ◌≡◌ {A = ℕ} 0 1 = (same_refusal (Planner.decided malformed room _ d ∙ malformed_only room)).1 in
      omega arith;
  seven_with_no_rank = λ text room d. Reviewer.seven_ranked text room (sym (Reviewer.decided text room _ d));
  nine_for_late = λ room d.
      let z : ◌≡◌ {A = ℕ} 9 7 = (same_refusal (Reviewer.decided late_text room _ d ∙ late_only room)).0 in
      omega arith;
}
