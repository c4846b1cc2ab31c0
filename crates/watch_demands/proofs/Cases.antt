-- The cases are so, and the conditions are met, by computing.
use mathlib.Core.Path.{◌≡◌, refl}
use mathlib.Core.Bool.{false}
use mathlib.Core.List.{[], ◌∷◌}
use Prim.Native.Nat.{ℕ, zero, suc, ◌≤◌, ◌<◌}
use native.Mathlib.Omega.{arith}
use Rattle.text.specs.Text.{digits, decimal, signed, key_line}
use Rattle.text.specs.Lines.{number_of, line_at}
use Rattle.grammars.specs.Forms.{form_at}
use Rattle.grammars.specs.Grammars.{read_for}
use Rattle.grammars.proofs.Decision.{decides}
use Rattle.rows.specs.Rows.{cost, row_at}
use Rattle.responses.specs.Extremes.{smallest, largest}
use Rattle.responses.specs.BusyIntervals.{jobs_in, longest_response, latest_within}
use Rattle.responses.specs.Figures.{blocking, rows_above, rows_below, is_late}
use Rattle.boards.specs.Claims.{AfterFirstReleases, NoneLate}
use Rattle.plans.specs.Plans.{refusal_text}
use Rattle.plans.specs.Outcomes.{fitted}
use Rattle.watch_demands.specs.Jobs.{index_of, rank_with}
use Rattle.watch_demands.specs.Runs.{job_text}
use Rattle.watch_demands.specs.Calls.{run_in_time, watched}
use Rattle.watch_demands.specs.WatchLines.{watch_text, watch_start}
use Rattle.watch_demands.specs.Cases.{AllSo, runs, overruns, refusals, run_on, sample, sample_order, sample_offset}
use Rattle.watch_demands.specs.Cases.{overrun, overrun_order, overrun_offset, WatchMet}
use Rattle.watch_demands.proofs.Texts.{watch_plain}

pub runs_so : AllSo runs
unfolding digits decimal signed key_line number_of line_at form_at read_for cost blocking smallest largest jobs_in
    longest_response latest_within refusal_text fitted index_of rank_with job_text run_in_time watched
runs_so = (refl, (refl, (refl, (refl, (refl, (refl, (refl, (refl, (refl, tt)))))))))

pub overruns_so : AllSo overruns
unfolding digits decimal signed key_line number_of line_at form_at read_for
    cost blocking smallest largest jobs_in longest_response latest_within refusal_text fitted index_of rank_with job_text
    run_in_time watched
overruns_so = (refl, (refl, (refl, (refl, (refl, (refl, (refl, (refl, (refl, (refl, (refl, tt)))))))))))

pub refusals_so : AllSo refusals
unfolding digits decimal signed key_line number_of line_at form_at read_for cost blocking smallest largest jobs_in
    longest_response latest_within refusal_text fitted index_of rank_with job_text run_in_time watched
refusals_so = (refl, (refl, (refl, (refl, (refl, (refl, (refl, (refl, (refl, (refl, (refl, (refl, (refl, (refl, (refl, (refl, (refl, (refl, (refl, (refl, (refl, tt)))))))))))))))))))))

pub watch_met : WatchMet
unfolding digits decimal signed key_line number_of line_at form_at read_for
    cost blocking smallest largest jobs_in longest_response latest_within index_of rank_with
watch_met = record {
  told = (decides watch_text watch_plain watch_start sample).as_written _ refl;
  none_late = in_time;
  fails = (decides watch_text watch_plain watch_start (run_on "ticks=0" [])).reason 3 26 refl;
  late = record { there = omega arith; late = refl; above_in_time = above 6 };
  late_past_first = record { there = omega arith; late = refl; above_in_time = above 9 };
  printed = refl;
  held_early = held;
  told_overrun =
      (decides watch_text watch_plain watch_start (overrun "deadline=10" "ticks=30" ("lengths=0" ∷ []))).as_written _ refl;
  overrun_in_time = overrun_in_time;
  overrun_printed = refl;
  overrun_held = overrun_held;
  overrun_not_held = λ h. let z : 10 ≤ 6 = h 0 (omega arith) in omega (arith, z);
  held_printed = refl;
  room = refl;
  first_job = refl;
  with_it = refl;
  third_job = refl;
  fourth_job = refl;
  fifth_in_turn = refl;
  seventh_job = refl;
}
  where
    in_time : NoneLate sample_order
    in_time zero l = refl
    in_time (suc zero) l = refl
    in_time (suc (suc i)) l = absurd (omega arith)

    overrun_in_time : NoneLate (overrun_order 10)
    overrun_in_time zero l = refl
    overrun_in_time (suc zero) l = refl
    overrun_in_time (suc (suc i)) l = absurd (omega arith)

    above : (d j : ℕ) → j < 1
        → is_late (row_at (overrun_order d) j) (rows_above (overrun_order d) j) (rows_below (overrun_order d) j) ≡ false
    above d zero l = refl
    above d (suc j) l = absurd (omega arith)

    held : AfterFirstReleases sample_order sample_offset 1 11
    held zero l = omega arith
    held (suc j) l = absurd (omega arith)

    overrun_held : AfterFirstReleases (overrun_order 10) overrun_offset 1 12
    overrun_held zero l = omega arith
    overrun_held (suc j) l = absurd (omega arith)
