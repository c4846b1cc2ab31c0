-- What the lines before a stage make known, kept by every number that passes. At the end it is that the table is sound,
-- so soundness is shown of the lines of a text and not of the way they are read.
use mathlib.Core.Path.{◌≡◌, refl, sym, ap, ◌∙◌, subst}
use mathlib.Core.Bool.{Bool, true, false, ◌&&◌, not}
use mathlib.Core.List.{List, [], ◌∷◌, ◌++◌}
use mathlib.Core.Logic.{inl, inr}
use Prim.Native.Nat.{ℕ, zero, suc, ◌+◌, ◌*◌, ◌≤◌, ◌<◌}
use native.Mathlib.Omega.{arith}
use native.Mathlib.Nat.{add-zero, zero-add}
use lib.Dec.{leb, ltb}
use lib.IntN.{ℤ}
use lib.ListN.{length, get_or, take, drop, length-append, get_or-append}
use lib.Seq.{take-append-le, take_at, get_or_at, get_or-take, get_or-drop}
use borrow.Author.Tests.{eq-eqb, not-true, ltb-false, le-leb}
use Rattle.basics.specs.Basics.{is_in, distinct}
use Rattle.basics.proofs.Tests.{test_of, true_not_false, never, and_left, and_right, and_both, le-or-lt}
use Rattle.basics.proofs.Tests.{Within, not_refused, let_through, distinct_last}
use Rattle.text.specs.Text.{bytes}
use Rattle.grammars.specs.Forms.{size}
use Rattle.grammars.specs.Reasons.{Passes}
use Rattle.grammars.proofs.Steps.{no_line}
use Rattle.grammars.proofs.Invariants.{Invariant}
use Rattle.grammars.proofs.Naturals.{natural_passes}
use Rattle.rows.specs.Rows.{min_tasks, max_tasks, in_range, all_rows, tasks_of, has_task, distinct_rows, all_tasks, is_possible}
use Rattle.rows.specs.Rows.{Row}
use Rattle.rows.proofs.Tasks.{tasks_last, all_tasks_last}
use Rattle.rows.proofs.Limits.{is_in_range, append_passes}
use Rattle.curves.specs.Curves.{max_points, min_delay, max_delay, min_allow, max_allow, in_limits, follows, well_formed}
use Rattle.curves.specs.Curves.{points_from}
use Rattle.curves.proofs.PointNumbers.{point_in}
use Rattle.curves.proofs.Growing.{takes, points_take, points_more}
use Rattle.rows.specs.Rows.{task_at, period_at, deadline_at, worst_at, best_at, alpha_at, beta_at, hold_at, points_at}
use Rattle.rows.specs.Rows.{first_point_at, lines_for, row_of, min_switch, max_switch, full_cost, cost}
use Rattle.tables.specs.TableLines.{RowLine, min_board, max_board, exceeding, repeated, impossible, disorderly}
use Rattle.tables.specs.TableLines.{row_line_at, at_most, new_rank, is_whole}
use Rattle.tables.specs.TableLines.{Stage, at_board, at_tasks, at_switch, at_field, at_rank, at-end}
use Rattle.tables.specs.TableLines.{ranks_stage, rows_stage, after, table, table_of}
use Rattle.tables.specs.Claims.{Accepted}
use Rattle.tables.specs.inside.Partial.{Partial}
use Rattle.tables.proofs.RowLines.{delay_at, allow_at, partial_next, whole_few}

-- ---- what is known at each stage
-- the rows so far, of n in all
pub record Rows (b n s : ℕ) (rs : List Row) : Type 0 where
  board : Within min_board max_board b
  count : Within min_tasks max_tasks n
  switch : Within min_switch max_switch s
  ranges : all_rows in_range rs ≡ true
  once : distinct_rows rs ≡ true

-- each number of a row passed where it stands
pub record FieldPasses (s : ℕ) (rs : List Row) (vs : List ℕ) (i v : ℕ) : Type 0 where
  between : Within (row_line_at i).low (row_line_at i).high v
  no_fault : (row_line_at i).fault s rs vs v ≡ 0

abbrev pub Good : ℕ → List Row → List ℕ → Type 0
Good s rs vs = (i : ℕ) → i < length vs → FieldPasses s rs (take i vs) i (get_or vs i 0)

pub record Values (n b s : ℕ) (rs : List Row) (vs : List ℕ) : Type 0 where
  rows : Rows b (length rs + suc n) s rs
  short : Partial vs
  good : Good s rs vs

-- the ranks so far, with n left
pub record Ranks (ranked : Bool) (n b : ℕ) (rs : List Row) (os : List ℕ) : Type 0 where
  switch : ℕ
  rows : Rows b (length rs) switch rs
  pub asked : ranked ≡ true
  left : length os + n ≡ length rs
  once : distinct os ≡ true
  there : all_tasks os rs ≡ true

abbrev pub Known : Bool → Stage → Type 0
Known ranked at_board = Unit {0}
Known ranked (at_tasks b) = Within min_board max_board b
Known ranked (at_switch n b) = Within min_board max_board b × Within min_tasks max_tasks n
Known ranked (at_field n b s rs vs) = Values n b s rs vs
Known ranked (at_rank n b rs os) = Ranks ranked (suc n) b rs os
Known ranked (at-end b rs os) = Accepted ranked (table_of b rs os)

-- ---- a row whose numbers passed is in range, and its task is new
no_points : well_formed [] ≡ true
unfolding well_formed
no_points = refl

module _ (s : ℕ) (rs : List Row) where
  good_next : (vs : List ℕ) (v : ℕ) → Good s rs vs → FieldPasses s rs vs (length vs) v → Good s rs (vs ++ (v ∷ []))
  good_next vs v g p i h =
      elim (le-or-lt (length vs) i) [
        | inl l ↦
            let e : i ≡ length vs = omega (arith, length-append vs (v ∷ [])) in
            rw (take_at vs (v ∷ []) i (sym e), get_or_at vs v [] 0 i (sym e), e) p
        | inr l ↦ rw (take-append-le i vs (v ∷ []) (omega arith), get_or-append vs (v ∷ []) 0 i l) (g i l)
      ]

  -- all the numbers of a row's lines
  module _ (vs : List ℕ) (few : get_or vs points_at 0 ≤ max_points) (whole : length vs ≡ lines_for (get_or vs points_at 0))
      (g : Good s rs vs) where
    -- what was held to the number at a position before it
    at_most_lem : (i j m : ℕ) → j < i → (i < first_point_at) → (row_line_at i).fault s rs (take i vs) (get_or vs i 0)
        ≡ at_most (get_or (take i vs) j 0) m → m ≤ get_or vs j 0
    at_most_lem i j m h l is =
        let passed = sym is ∙ (g i (omega arith)).no_fault in
        let limit = get_or-take i vs j 0 h in
        let test = not_refused (ltb (get_or (take i vs) j 0) m) exceeding (omega arith) passed in
        omega (arith, limit, ltb-false (get_or (take i vs) j 0) m test)

    -- ---- its points
    abbrev points : List ℕ
    points = drop first_point_at vs

    -- the numbers of point j
    delay_is : (j : ℕ) → get_or points (2 * j) 0 ≡ get_or vs (first_point_at + 2 * j) 0
    delay_is j = get_or-drop first_point_at vs (2 * j) 0

    allow_is : (j : ℕ) → get_or points (suc (2 * j)) 0 ≡ get_or vs (suc (first_point_at + 2 * j)) 0
    allow_is j = get_or-drop first_point_at vs (suc (2 * j)) 0 ∙ ap (λ k. get_or vs k 0) (omega arith)

    -- each passed where it stands: at the line of a first point, or of one behind another
    delay_passes : (j : ℕ) → j < get_or vs points_at 0
        → FieldPasses s rs (take (first_point_at + 2 * j) vs) (first_point_at + 2 * j) (get_or vs (first_point_at + 2 * j) 0)
    delay_passes j h = g (first_point_at + 2 * j) (omega arith)

    allow_passes : (j : ℕ) → j < get_or vs points_at 0
        → FieldPasses s rs (take (suc (first_point_at + 2 * j)) vs) (suc (first_point_at + 2 * j))
        (get_or vs (suc (first_point_at + 2 * j)) 0)
    allow_passes j h = g (suc (first_point_at + 2 * j)) (omega arith)

    delay_line : (j : ℕ) → j < max_points
        → ((row_line_at (first_point_at + 2 * j)).low ≡ min_delay) × ((row_line_at (first_point_at + 2 * j)).high ≡ max_delay)
    delay_line zero h = (refl, refl)
    delay_line (suc j) h =
        let is = delay_at (first_point_at + 2 * suc j) j (omega arith) (omega arith) in
        (ap (λ (l : RowLine). l.low) is, ap (λ (l : RowLine). l.high) is)

    allow_line : (j : ℕ) → j < max_points
        → ((row_line_at (suc (first_point_at + 2 * j))).low ≡ min_allow)
        × ((row_line_at (suc (first_point_at + 2 * j))).high ≡ max_allow)
    allow_line zero h = (refl, refl)
    allow_line (suc j) h =
        let is = allow_at (suc (first_point_at + 2 * suc j)) j (omega arith) (omega arith) in
        (ap (λ (l : RowLine). l.low) is, ap (λ (l : RowLine). l.high) is)

    point_limits : (j : ℕ) → j < get_or vs points_at 0 → in_limits (point_in j points) ≡ true
    point_limits j h =
        let d = (delay_passes j h).between in
        let a = (allow_passes j h).between in
        let dl = delay_line j (omega arith) in
        let al = allow_line j (omega arith) in
        rw (delay_is j, allow_is j)
        (simp (
          le-leb min_delay (get_or vs (first_point_at + 2 * j) 0) (omega arith),
          le-leb (get_or vs (first_point_at + 2 * j) 0) max_delay (omega (arith, d.le_high, dl.1)),
          le-leb min_allow (get_or vs (suc (first_point_at + 2 * j)) 0) (omega arith),
          le-leb (get_or vs (suc (first_point_at + 2 * j)) 0) max_allow (omega (arith, a.le_high, al.1)),
        ))

    -- and follows the one before it
    point_follows : (j : ℕ) → suc j < get_or vs points_at 0 → follows (point_in j points) (point_in (suc j) points) ≡ true
    point_follows j h =
        let i = first_point_at + 2 * suc j in
        let at = first_point_at + 2 * j in
        let delays = ap (λ (l : RowLine). l.fault s rs (take i vs) (get_or vs i 0))
        (delay_at i j (omega arith) (omega arith)) in
        let allows = ap (λ (l : RowLine). l.fault s rs (take (suc i) vs) (get_or vs (suc i) 0))
        (allow_at (suc i) j (omega arith) (omega arith)) in
        let above = let_through (ltb (get_or (take i vs) at 0) (get_or vs i 0)) disorderly (omega arith)
        (sym delays ∙ (delay_passes (suc j) h).no_fault) in
        let below = let_through (leb (get_or vs (suc i) 0) (get_or (take (suc i) vs) (suc at) 0)) disorderly (omega arith)
        (sym allows ∙ (allow_passes (suc j) h).no_fault) in
        rw (delay_is j, allow_is j, delay_is (suc j), allow_is (suc j))
        (and_both (ltb (get_or vs at 0) (get_or vs i 0)) (leb (get_or vs (suc i) 0) (get_or vs (suc at) 0))
        (sym (ap (λ x. ltb x (get_or vs i 0)) (get_or-take i vs at 0 (omega arith))) ∙ above)
        (sym (ap (leb (get_or vs (suc i) 0)) (get_or-take (suc i) vs (suc at) 0 (omega arith))) ∙ below))

    curve_keeps : (n : ℕ) → n ≤ get_or vs points_at 0 → well_formed (points_from n points) ≡ true
    curve_keeps zero h = no_points
    curve_keeps (suc n) h =
        points_more points n (curve_keeps n (omega arith)) (omega arith) (point_limits n (omega arith)) (taken n h)
      where
        taken : (n : ℕ) → suc n ≤ get_or vs points_at 0 → takes (points_from n points) (point_in n points) ≡ true
        taken zero l = refl
        taken (suc m) l = points_take points m (point_in (suc m) points) ∙ point_follows m (omega arith)

    row_in_range : Within min_switch max_switch s → in_range (row_of s vs) ≡ true
    unfolding cost
    row_in_range sw =
        let in_limits_lem : (i : ℕ) → i < first_point_at → Within (row_line_at i).low (row_line_at i).high (get_or vs i 0) =
        λ i h. (g i (omega arith)).between in
        is_in_range (row_of s vs) (record {
          task = in_limits_lem task_at (omega arith);
          period = in_limits_lem period_at (omega arith);
          deadline = in_limits_lem deadline_at (omega arith);
          worst = in_limits_lem worst_at (omega arith);
          best = in_limits_lem best_at (omega arith);
          alpha = in_limits_lem alpha_at (omega arith);
          beta = in_limits_lem beta_at (omega arith);
          hold = in_limits_lem hold_at (omega arith);
          switch = sw;
          cost_period = at_most_lem worst_at period_at (full_cost (get_or vs worst_at 0) s) (omega arith) (omega arith) refl;
          best_worst = at_most_lem best_at worst_at (get_or vs best_at 0) (omega arith) (omega arith) refl;
          hold_worst = at_most_lem hold_at worst_at (get_or vs hold_at 0) (omega arith) (omega arith) refl;
          curve = curve_keeps (get_or vs points_at 0) (omega arith);
        })

    row_new : has_task (row_of s vs).task rs ≡ false
    row_new = not_refused (has_task (get_or vs task_at 0) rs) repeated (omega arith) (g task_at (omega arith)).no_fault

    -- and the rows with it are as the rows before it
    rows_next : (b n : ℕ) → Rows b (length rs + suc n) s rs
        → let more = rs ++ (row_of s vs ∷ []) in Rows b (length more + n) s more
    rows_next b n h = record {
      board = h.board;
      count = subst (Within min_tasks max_tasks) (omega (arith, length-append rs (row_of s vs ∷ []))) h.count;
      switch = h.switch;
      ranges = append_passes in_range rs (row_of s vs ∷ []) h.ranges (rw (row_in_range h.switch));
      once =
          ap distinct (tasks_last rs (row_of s vs))
          ∙ distinct_last (tasks_of rs) (row_of s vs).task h.once row_new;
    }

-- ---- every number that passes keeps it
table_known : (ranked : Bool) (b s : ℕ) (rs : List Row) (os : List ℕ) → Rows b (length rs) s rs
    → (ranked ≡ true → is_possible os rs ≡ true) → (ranked ≡ false → os ≡ []) → Accepted ranked (table_of b rs os)
table_known ranked b s rs os h possible none = record {
  board_low = h.board.low_le;
  board_high = h.board.le_high;
  some_rows = h.count.low_le;
  few_rows = h.count.le_high;
  rows_in_range = h.ranges;
  rows_distinct = h.once;
  ranks_possible = possible;
  no_ranks = none;
}

ranks_known : (ranked : Bool) (n b : ℕ) (rs : List Row) (os : List ℕ) → Ranks ranked n b rs os
    → Known ranked (ranks_stage n b rs os)
ranks_known ranked zero b rs os h =
    table_known ranked b h.switch rs os h.rows
    (λ e. rw (eq-eqb (length os) (length rs) (omega (arith, h.left)), h.once) h.there)
    (λ e. absurd (true_not_false ranked h.asked e))
ranks_known ranked (suc n) b rs os h = h

rows_known : (ranked : Bool) (n b s : ℕ) (rs : List Row) → Rows b (length rs + n) s rs
    → Known ranked (rows_stage ranked n b s rs)
rows_known true zero b s rs h =
    ranks_known true (length rs) b rs []
    (record {
      switch = s;
      rows = rw (add-zero (length rs)) at h;
      asked = refl;
      left = omega arith;
      once = refl;
      there = refl;
    })
rows_known false zero b s rs h =
    table_known false b s rs [] (rw (add-zero (length rs)) at h) never (λ e. refl)
rows_known ranked (suc n) b s rs h = record {
  rows = h;
  short = record { few = omega arith; more = omega arith };
  good = λ i l. absurd (omega arith);
}

field_known : (ranked : Bool) (n b s : ℕ) (rs : List Row) (vs : List ℕ) (v : ℕ) → Values n b s rs vs
    → FieldPasses s rs vs (length vs) v → Known ranked (after ranked (at_field n b s rs vs) v)
field_known ranked n b s rs vs v h p =
    let ws = vs ++ (v ∷ []) in
    let good = good_next s rs vs v h.good p in
    let few : length vs ≡ points_at → v ≤ max_points = λ e.
    subst (λ i. v ≤ (row_line_at i).high) e p.between.le_high in
    elim (test_of (is_whole ws)) [
      | inl t ↦
          let whole = whole_few vs v h.short few t in
          let rows = rows_next s rs ws whole.0 whole.1 good b n h.rows in
          rw t (rows_known ranked n b s (rs ++ (row_of s ws ∷ [])) rows)
      | inr t ↦ rw t (record { rows = h.rows; short = partial_next vs v h.short few t; good = good })
    ]

rank_known : (ranked : Bool) (n b : ℕ) (rs : List Row) (os : List ℕ) (v : ℕ) → Ranks ranked (suc n) b rs os
    → new_rank rs os v ≡ 0 → Known ranked (ranks_stage n b rs (os ++ (v ∷ [])))
rank_known ranked n b rs os v h e =
    let both = let_through (has_task v rs && not (is_in v os)) impossible (omega arith) e in
    let new = not-true (is_in v os) (and_right (has_task v rs) (not (is_in v os)) both) in
    ranks_known ranked n b rs (os ++ (v ∷ []))
    (record {
      switch = h.switch;
      rows = h.rows;
      asked = h.asked;
      left = omega (arith, h.left, length-append os (v ∷ []));
      once = distinct_last os v h.once new;
      there = all_tasks_last os v rs h.there (and_left (has_task v rs) (not (is_in v os)) both);
    })

pub sound : (ranked : Bool) → Invariant (table ranked) at_board (Known ranked)
sound ranked = record { begins = tt; keeps = keeps }
  where
    keeps : (s : Stage) (key : List ℕ) (z : ℤ) → Known ranked s → Passes (table ranked) s key z
        → Known ranked (after ranked s (size z))
    keeps at_board key z h p = natural_passes p (bytes "board=") min_board max_board refl
    keeps (at_tasks b) key z h p = (h, natural_passes p (bytes "tasks=") min_tasks max_tasks refl)
    keeps (at_switch n b) key z h p =
        rows_known ranked n b (size z) []
        (record {
          board = h.0;
          count = rw (zero-add n) h.1;
          switch = natural_passes p (bytes "switch=") min_switch max_switch refl;
          ranges = refl;
          once = refl;
        })
    keeps (at_field n b s rs vs) key z h p =
        let l = row_line_at (length vs) in
        field_known ranked n b s rs vs (size z) h
        (record { between = natural_passes p l.key l.low l.high refl; no_fault = p.no_fault })
    keeps (at_rank n b rs os) key z h p = rank_known ranked n b rs os (size z) h p.no_fault
    keeps (at-end b rs os) key z h p = no_line (sym p.is_expected)
