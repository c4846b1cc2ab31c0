-- The watcher's demands, for every text and every room. A text fails at one line for one reason or tells one run; that
-- has a late rank, or its lines fit the room or not. So the outcome is one, and it is the call's.
use mathlib.Core.Path.{◌≡◌, refl, sym, ap, subst, ◌∙◌}
use mathlib.Core.Bool.{Bool, true, false}
use mathlib.Core.List.{List, [], ◌∷◌}
use mathlib.Core.Logic.{◌⊎◌, inl, inr, ◌↔◌}
use Prim.Native.Nat.{ℕ, suc, ◌≤◌, ◌<◌}
use native.Mathlib.Omega.{arith}
use lib.IntN.{ℤ}
use lib.ListN.{length}
use Rattle.basics.specs.Basics.{is_in}
use Rattle.basics.proofs.Tests.{le-or-lt, true_not_false, in_front}
use Rattle.grammars.specs.Forms.{size}
use Rattle.grammars.specs.Grammars.{Verdict, accepted, refused, read}
use Rattle.grammars.specs.Sequences.{first, second}
use Rattle.grammars.specs.Claims.{Decides}
use Rattle.grammars.proofs.Decision.{decides, refused_as}
use Rattle.rows.specs.Rows.{row_at, rows_for, cost}
use Rattle.rows.specs.Rows.{Row}
use Rattle.tables.specs.TableLines.{fault, table_of}
use Rattle.tables.specs.Claims.{ranked_refusals}
use Rattle.tables.specs.Claims.{Accepted}
use Rattle.tables.proofs.Refusals.{fault_listed, one_of}
use Rattle.boards.specs.Boards.{Done}
use Rattle.boards.specs.Claims.{LastsInRange, NoneLate}
use Rattle.boards.specs.Witnesses.{never}
use Rattle.plans.specs.Entries.{first_late}
use Rattle.plans.specs.Outcomes.{Outcome, writes, refuses, fitted}
use Rattle.plans.proofs.Outcomes.{fits, fits_not, Numbered}
use Rattle.plans.proofs.Entries.{first_late_none}
use Rattle.demands.specs.Demands.{FirstLate}
use Rattle.demands.proofs.Outcomes.{same_refusal, not_both, zero_or_more, nine_is, written_is, numbered}
use Rattle.demands.proofs.Promises.{by_formulas, promised}
use Rattle.demands.proofs.Reviewer.{none_late_first, first_of, first-is}
use Rattle.watch_demands.specs.Jobs.{length_of, Indexed}
use Rattle.watch_demands.specs.Runs.{finished_text, finished_by, jobs_text, FinishedWithin}
use Rattle.watch_demands.specs.WatchLines.{offset_of, WatchStage, watch_text, watch_start}
use Rattle.watch_demands.specs.Calls.{run_in_time, on_watch, watched}
use Rattle.watch_demands.specs.Demands.{TellsRun, FailsRun, RunSays, RunOf, watcher_refusals, WatchDemands}
use Rattle.watch_demands.proofs.Given.{is_given, given_only, order_in_range, order_limits, order_unheld}
use Rattle.watch_demands.proofs.Merges.{indexed}
use Rattle.watch_demands.proofs.Finished.{finished_within, job_lines}
use Rattle.watch_demands.proofs.Texts.{watch_plain, Ended, at_both, ended, sound, run_says, run_reads_back}
use Rattle.watch_demands.proofs.Texts.{refused_tables}
use Rattle.watch_demands.proofs.Kept.{given, past, lasts, finished_same, run_kept}

-- ---- by the first late rank
pub late_run : (room : ℕ) (order : List Row) (offset : ℕ → ℕ) (ls : List ℕ) (t k : ℕ) → first_late order ≡ suc k
    → run_in_time room order offset ls t ≡ refuses 7 (suc k)
unfolding run_in_time
late_run room order offset ls t k e = rw (e, run_in_time)

pub timely_run : (room : ℕ) (order : List Row) (offset : ℕ → ℕ) (ls : List ℕ) (t : ℕ) → first_late order ≡ 0
    → run_in_time room order offset ls t ≡ fitted room (jobs_text order offset ls t)
unfolding run_in_time
timely_run room order offset ls t e = rw (e, run_in_time)

-- ---- refusals of a text
own_listed : (x : WatchStage) (z : ℤ) (m : ℕ) → watch_text.fault x z ≡ suc m → is_in (suc m) ranked_refusals ≡ true
own_listed (first s) z m e = one_of ranked_refusals (fault s (size z)) m e (fault_listed s (size z))
own_listed (second s t) z m e = absurd (omega (arith, e))

number_listed : (text : List ℕ) (n k : ℕ) → FailsRun text n k → is_in n ranked_refusals ≡ true
number_listed text n k why =
    refused_as (λ m. is_in m ranked_refusals ≡ true) refl refl refl (own_listed why.state) why.condition

-- ---- the run that a text tells
module _ (text : List ℕ) (b : ℕ) (rs : List Row) (os rels : List ℕ) (t : ℕ) (ls : List ℕ)
    (told : TellsRun text b rs os rels t ls) where
  abbrev order : List Row
  order = rows_for os rs

  abbrev offset : ℕ → ℕ
  offset = offset_of rs os rels

  says : RunSays text b rs os rels t ls
  says = run_says text b rs os rels t ls told

  table_sound : Accepted true (table_of b rs os)
  table_sound = sound told.whole

  run_indexed : Indexed order offset
  run_indexed =
      indexed order offset (λ j l. (order_limits (table_of b rs os) table_sound j l).period.low_le)

  run_lasts : LastsInRange order (length_of order offset ls)
  unfolding cost
  run_lasts = lasts order offset ls run_indexed sane says.limits.lengths_in
    where
      sane : (i : ℕ) → i < length order → (row_at order i).best ≤ cost (row_at order i)
      sane i l = omega (arith, (order_limits (table_of b rs os) table_sound i l).best_worst)

  -- ---- what it comes to
  module _ (room : ℕ) where
    abbrev lines : List ℕ
    lines = jobs_text order offset ls t

    abbrev outcome : Outcome
    outcome = run_in_time room order offset ls t

    timely : NoneLate order → outcome ≡ fitted room lines
    timely h = timely_run room order offset ls t (none_late_first order h)

    seven_is : (k : ℕ) → (outcome ≡ refuses 7 (suc k)) ↔ FirstLate order k
    seven_is k = (
      λ e. elim (zero_or_more (first_late order)) [
        | inl z ↦ absurd (nine_for_seven (timely_run room order offset ls t z) e)
        | inr l ↦ (
            let same = (same_refusal (sym (late_run room order offset ls t l.0 l.1) ∙ e)).1 in
            subst (FirstLate order) (omega (arith, same)) (first_of order l.0 l.1))
      ],
      λ l. late_run room order offset ls t k (first-is order k l),
    )
      where
        nine_for_seven : outcome ≡ fitted room lines → outcome ≡ refuses 7 (suc k) → ⊥
        nine_for_seven is e = elim (le-or-lt (length lines) room) [
          | inl h ↦ not_both (sym (is ∙ fits room lines h) ∙ e)
          | inr h ↦ let z : ◌≡◌ {A = ℕ} 9 7 = (same_refusal (sym (is ∙ fits_not room lines h) ∙ e)).0 in omega arith
        ]

    pub run_of : RunOf order offset ls room t outcome
    run_of = record {
      indexed = run_indexed;
      given = given order offset ls;
      past = past order offset ls;
      lasts = run_lasts;
      lines = job_lines order;
      no_line = refl;
      by_formulas = by_formulas order (order_in_range (table_of b rs os) table_sound);
      seven = seven_is;
      nine = λ h keeps ds w.
          subst (λ x. (outcome ≡ refuses 9 0) ↔ (room < length (finished_text order x))) (sym (is keeps ds w))
          (nine_is room lines outcome (timely h));
      written = λ h keeps ds w.
          subst (λ x. (outcome ≡ writes (finished_text order x)) ↔ (length (finished_text order x) ≤ room))
          (sym (is keeps ds w)) (written_is room lines outcome (timely h));
      some_run = λ keeps. (_, finished_within order offset (length_of order offset ls) keeps t);
      promised = λ h. promised order (order_in_range (table_of b rs os) table_sound) h;
      kept = λ h keeps ds w.
          run_kept order offset ls (promised order (order_in_range (table_of b rs os) table_sound) h) run_lasts keeps t
          ds w;
    }
      where
        is : (keeps : ℕ → Bool) (ds : List Done) → FinishedWithin order offset (length_of order offset ls) keeps t ds
            → ds ≡ finished_by order offset ls t
        is keeps ds w =
            finished_same order offset ls (order_unheld (table_of b rs os) table_sound says.none_holds) keeps t ds w

-- ---- how the outcome comes about
module _ (text : List ℕ) where
  abbrev pub verdict : Verdict WatchStage
  verdict = read watch_text watch_start text

  decided : Decides watch_text watch_start text
  decided = decides watch_text watch_plain watch_start text

  pub watched_is : (room : ℕ) (v : Verdict WatchStage) → verdict ≡ v → watched text room ≡ on_watch room v
  unfolding watched
  watched_is room v e = ap (on_watch room) e

  pub data Read (room : ℕ) : Type 0 where
    fails : (n k : ℕ) → FailsRun text n k → watched text room ≡ refuses n k → Read room
    tells : (b : ℕ) (rs : List Row) (os rels : List ℕ) (t : ℕ) (ls : List ℕ) → TellsRun text b rs os rels t ls
        → watched text room ≡ run_in_time room (rows_for os rs) (offset_of rs os rels) ls t → Read room

  pub as_read : (room : ℕ) → Read room
  as_read room = go verdict refl
    where
      told : (x : WatchStage) → Ended x → verdict ≡ accepted x → Read room
      told x (at_both b rs os rels t ls) e =
          tells b rs os rels t ls (decided.as_written _ e) (watched_is room (accepted _) e)

      go : (v : Verdict WatchStage) → verdict ≡ v → Read room
      go (accepted x) e = told x (ended text x (decided.as_written x e)) e
      go (refused n k) e = fails n k (decided.reason n k e) (watched_is room (refused n k) e)

  -- the outcome of a text that is known to fail, or to tell a run
  fails_is : (room n k : ℕ) → FailsRun text n k → watched text room ≡ refuses n k
  fails_is room n k f = watched_is room (refused n k) (decided.refuses n k f)

  tells_is : (room b : ℕ) (rs : List Row) (os rels : List ℕ) (t : ℕ) (ls : List ℕ) → TellsRun text b rs os rels t ls
      → watched text room ≡ run_in_time room (rows_for os rs) (offset_of rs os rels) ls t
  tells_is room b rs os rels t ls told = watched_is room (accepted _) (decided.accepts _ told)

  module _ (room : ℕ) where
    -- an accepted text is refused with 7 or 9 only
    late_or_long : (b : ℕ) (rs : List Row) (os rels : List ℕ) (t : ℕ) (ls : List ℕ) → TellsRun text b rs os rels t ls
        → (n p : ℕ) → run_in_time room (rows_for os rs) (offset_of rs os rels) ls t ≡ refuses n p → (n ≡ 7) ⊎ (n ≡ 9)
    late_or_long b rs os rels t ls told n p e =
        let order = rows_for os rs in
        let offset = offset_of rs os rels in
        let lines = jobs_text order offset ls t in
        elim (zero_or_more (first_late order)) [
          | inl z ↦
              let is = timely_run room order offset ls t z in
              elim (le-or-lt (length lines) room) [
                | inl h ↦ absurd (not_both (sym (is ∙ fits room lines h) ∙ e))
                | inr h ↦ inr (sym (same_refusal (sym (is ∙ fits_not room lines h) ∙ e)).0)
              ]
          | inr l ↦ inl (sym (same_refusal (sym (late_run room order offset ls t l.0 l.1) ∙ e)).0)
        ]

    listed : Read room → (n p : ℕ) → watched text room ≡ refuses n p → is_in n watcher_refusals ≡ true
    listed (fails m k f is) n p e =
        subst (λ x. is_in x watcher_refusals ≡ true) (same_refusal (sym is ∙ e)).0
        (in_front m ranked_refusals (7 ∷ 9 ∷ []) (number_listed text m k f))
    listed (tells b rs os rels t ls told is) n p e =
        elim (late_or_long b rs os rels t ls told n p (sym is ∙ e)) [ inl h ↦ rw h | inr h ↦ rw h ]

    refused_exactly : Read room → (n k : ℕ)
        → ((watched text room ≡ refuses n k) × (is_in n ranked_refusals ≡ true)) ↔ FailsRun text n k
    refused_exactly r n k = (by r, λ f. (fails_is room n k f, number_listed text n k f))
      where
        -- neither 7 nor 9 is a text's
        else : (m : ℕ) → is_in m ranked_refusals ≡ false → n ≡ m → is_in n ranked_refusals ≡ true → ⊥
        else m none same here =
            true_not_false (is_in n ranked_refusals) here (ap (λ x. is_in x ranked_refusals) same ∙ none)

        by : Read room → (watched text room ≡ refuses n k) × (is_in n ranked_refusals ≡ true) → FailsRun text n k
        by (fails m j f is) e =
            let same = same_refusal (sym is ∙ e.0) in
            subst (λ x. FailsRun text x k) same.0 (subst (FailsRun text m) same.1 f)
        by (tells b rs os rels t ls told is) e =
            elim (late_or_long b rs os rels t ls told n k (sym is ∙ e.0)) [
              | inl h ↦ absurd (else 7 refl h e.1)
              | inr h ↦ absurd (else 9 refl h e.1)
            ]

    pub watch_demands : WatchDemands text room (watched text room)
    watch_demands = record {
      decides = decided;
      listed = listed (as_read room);
      refused = refused_exactly (as_read room);
      says = λ b rs os rels t ls told.
          (run_says text b rs os rels t ls told, is_given (table_of b rs os) (sound told.whole));
      reads_back = run_reads_back;
      refused_tables = refused_tables text;
      accepted = λ b rs os rels t ls told order g.
          subst (λ o. RunOf o (offset_of rs os rels) ls room t (watched text room))
          (given_only (table_of b rs os) (sound told.whole) order g)
          (subst (RunOf (rows_for os rs) (offset_of rs os rels) ls room t)
          (sym (tells_is room b rs os rels t ls told)) (run_of text b rs os rels t ls told room));
    }

    -- ---- the demands decide: the outcome that meets them is the call's
    module _ (w : Outcome) (d : WatchDemands text room w) where
      module _ (b : ℕ) (rs : List Row) (os rels : List ℕ) (t : ℕ) (ls : List ℕ) (told : TellsRun text b rs os rels t ls)
        where
          abbrev order-of : List Row
          order-of = rows_for os rs

          abbrev from : ℕ → ℕ
          from = offset_of rs os rels

          abbrev finished : List Done
          finished = finished_by order-of from ls t

          abbrev text_of : List ℕ
          text_of = jobs_text order-of from ls t

          run : RunOf order-of from ls room t w
          run = d.accepted b rs os rels t ls told order-of (is_given (table_of b rs os) (sound told.whole))

          within : FinishedWithin order-of from (length_of order-of from ls) never t finished
          within = finished_within order-of from (length_of order-of from ls) never t

          run_only : w ≡ run_in_time room order-of from ls t
          run_only = elim (zero_or_more (first_late order-of)) [
            | inl z ↦
                let is = timely_run room order-of from ls t z in
                let in_time = first_late_none order-of z in
                elim (le-or-lt (length text_of) room) [
                  | inl h ↦ (run.written in_time never finished within).1 h ∙ sym (is ∙ fits room text_of h)
                  | inr h ↦ (run.nine in_time never finished within).1 h ∙ sym (is ∙ fits_not room text_of h)
                ]
            | inr l ↦
                (run.seven l.0).1 (first_of order-of l.0 l.1)
                ∙ sym (late_run room order-of from ls t l.0 l.1)
          ]

      only : Read room → w ≡ watched text room
      only (fails n k f is) = ((d.refused n k).1 f).0 ∙ sym is
      only (tells b rs os rels t ls told is) = run_only b rs os rels t ls told ∙ sym is

      pub decided_by : w ≡ watched text room
      decided_by = only (as_read room)

  -- a refusal has a number
  pub watched_numbered : (room : ℕ) → Numbered (watched text room)
  watched_numbered room = numbered (watched text room) watcher_refusals refl (listed room (as_read room))
