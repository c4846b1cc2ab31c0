-- An order's ranks one after another: the text of those so far, and where the first late rank is. A turn puts the rank
-- of the next row, or finds that it is the first late one.
use mathlib.Core.Path.{◌≡◌, refl, sym, ap, ap₂, subst, ◌∙◌}
use mathlib.Core.Bool.{Bool, true, false}
use mathlib.Core.List.{List, [], ◌∷◌, ◌++◌}
use mathlib.Core.Logic.{inl, inr}
use Prim.Native.Nat.{ℕ, suc, ◌+◌, ◌*◌, ◌≤◌, ◌<◌}
use native.Mathlib.Omega.{arith}
use Rattle.std.proofs.Common.{Some, Ok, add-one}
use Rattle.std.proofs.lemmas.List.{take-map, length-map}
use lib.ListN.{length, get_or, take, drop, drop_of_length-le}
use lib.IntN.{ℤ}
use lib.Seq.{take-suc, take-length, drop-cons, drop-drop, length-take-le}
use Rattle.basics.specs.Basics.{pick}
use Rattle.basics.proofs.Tests.{test_of}
use Rattle.text.specs.Text.{joined}
use Rattle.text.specs.Buffers.{Wrote}
use Rattle.text.proofs.Puts.{lent, restored, lent_length, wrote_nothing, wrote_keeps}
use Rattle.rows.specs.Rows.{Row, max_task, task_at, in_range, no_row, row_at}
use Rattle.rows.specs.inside.Lent.{lent_row}
use Rattle.rows.specs.inside.LentOrders.{rows_in_order}
use Rattle.rows.proofs.Limits.{limits, at_passes, front_passes, rest_passes, all_times}
use Rattle.rows.proofs.LentRows.{lent_at}
use Rattle.rows.proofs.RowNumbers.{line_from}
use Rattle.responses.specs.declared.Figures.{Figures}
use Rattle.responses.specs.declared.Load.{Load}
use Rattle.responses.specs.Figures.{rows_above, rows_below, blocking, is_late, latest, earliest, margin}
use Rattle.responses.specs.Figures.{worst_load, best_load, Answered, late_figures, figures_at, figures_under}
use Rattle.responses.proofs.Blocking.{blocking_max}
use Rattle.analysis.specs.inside.Above.{Filled, Under, FiguresIn}
use Rattle.plans.specs.declared.Entry.{Entry}
use Rattle.plans.specs.Entries.{entry, entries, no_entry, late_from, first_late}
use Rattle.plans.specs.Plans.{rank_text, rank_texts, rank_room}
use Rattle.plans.proofs.Entries.{InLimits, entries_length, entry_at_lem, entry_limits}
use Rattle.plans.proofs.Lengths.{rank_length}
use Rattle.plans.proofs.Ranks.{rank_put}
use Rattle.plan_orders.specs.declared.OrderInLimits.{OrderInLimits}
use Rattle.plan_orders.specs.inside.Ranks.{FirstLate, PutsRanks}

-- the entry that is made of a row's figures
abbrev entry_from : ℕ → Figures → ℤ → Entry
entry_from task x m = record { task = task; best = x.best; worst = x.worst; jitter = x.jitter; margin = m }

-- ---- a row has figures where it is not late, and its entry is made of them
module _ (t : Row) (above below : List Row) where
  abbrev in_time : Answered
  in_time = figures_at (latest t above below) (earliest t above below) (margin t above below)

  late_lem : ((x : Figures) → figures_under t above below ≡ Ok x → ⊥) → is_late t above below ≡ true
  late_lem none = elim (test_of (is_late t above below)) [
    | inl e ↦ e
    | inr e ↦ absurd (none _ (ap (λ (b : Bool). pick b late_figures in_time) e))
  ]

  entry_lem : (x : Figures) → figures_under t above below ≡ Ok x
      → (is_late t above below ≡ false) × (entry_from t.task x x.margin ≡ entry t above below)
  entry_lem x is = elim (test_of (is_late t above below)) [
    | inl e ↦ absurd (let no : late_figures ≡ Ok x = sym (ap (λ (b : Bool). pick b late_figures in_time) e) ∙ is in cc)
    | inr e ↦
        let same : Ok x ≡ in_time = sym is ∙ ap (λ (b : Bool). pick b late_figures in_time) e in
        (e, cc)
  ]

-- ---- how far an order's ranks have come: they began in `o`, and end at `m` in `o₁`
pub record Turning (order : List Row) (o : List ℕ) (m : ℕ) (o₁ : List ℕ) (i : ℕ) : Type 0 where
  pub within : m ≤ i * rank_room
  pub text_put : Wrote (joined (rank_texts 1 (take i (entries order)))) o o₁ m
  pub late_is : first_late order ≡ late_from (suc i) (rows_above order i) (drop i order)

-- the blocking time of the rows behind the first of those from an index on
pub blocks_behind : (order : List Row) (i : ℕ) {behind : List Row} {b : ℕ} → behind ≡ drop i order
    → b ≡ blocking (drop 1 behind) → b ≡ blocking (drop (i + 1) order)
blocks_behind order i e is = is ∙ ap (λ rs. blocking (drop 1 rs)) e ∙ ap blocking (drop-drop 1 i order)

module _ (given : OrderInLimits) where
  abbrev rows : List (List ℕ)
  rows = given.lent.rows.now

  abbrev ps : List ℕ
  ps = given.lent.positions.now

  abbrev order : List Row
  order = rows_in_order given.lent

  counted : length order ≡ length ps
  counted = length-map ps (lent_row rows)

  pub starts : (o : List ℕ) → Turning order o 0 o 0
  starts o = record { within = omega arith; text_put = wrote_nothing o; late_is = refl }

  -- row i
  module _ {i : ℕ} (more : i < length ps) where
    abbrev here : Row
    here = lent_row rows (get_or ps i 0)

    abbrev above : List Row
    above = rows_above order i

    abbrev below : List Row
    below = rows_below order i

    placed : row_at order i ≡ here
    placed = lent_at rows ps i more

    here_in_range : in_range here ≡ true
    here_in_range = sym (ap in_range placed) ∙ at_passes in_range order i given.is_in_range (omega (arith, counted))

    -- its task, as its numbers have it
    pub task_is : get_or (get_or rows (get_or ps i 0) []) task_at 0 ≡ here.task
    task_is = sym (line_from (get_or rows (get_or ps i 0) []) task_at (omega arith))

    pub task_max : get_or (get_or rows (get_or ps i 0) []) task_at 0 ≤ max_task
    task_max = omega (arith, task_is, (limits here here_in_range).task.le_high)

    left : late_from (suc i) above (drop i order) ≡ late_from (suc i) above (here ∷ below)
    left =
        ap (late_from (suc i) above) (drop-cons order i no_row (omega (arith, counted)) ∙ ap (λ r. r ∷ below) placed)

    -- the loads of the order's rows are known, and so is the blocking time of those below
    module _ {worst best : List Load} {b : ℕ} (f : Filled order worst best)
        (b_is : b ≡ blocking (drop (i + 1) order)) where
      blocked : b ≡ blocking below
      blocked = b_is ∙ ap (λ (k : ℕ). blocking (drop k order)) (add-one i)

      filled : Filled above (take i worst) (take i best)
      filled = record {
        worst_is = ap (take i) f.worst_is ∙ take-map worst_load i order;
        best_is = ap (take i) f.best_is ∙ take-map best_load i order;
      }

      -- it may be asked for its figures
      pub under : Under here b (take i worst) (take i best)
      under = record {
        is_in_range = here_in_range;
        rows = above;
        few = omega (arith, given.few, counted, length-take-le i order (omega (arith, counted)));
        filled = filled;
        times_are_in_range = all_times above (front_passes in_range i order given.is_in_range);
        below = below;
        blocked_is = blocked;
        blocked_max = omega (arith, blocked, blocking_max below (rest_passes in_range (suc i) order given.is_in_range));
      }

      module _ {x : Answered} (found : FiguresIn here b (take i worst) (take i best) x)
          {o : List ℕ} {m : ℕ} {o₁ : List ℕ} (t : Turning order o m o₁ i) where
        figured : x ≡ figures_under here above below
        figured = found above below filled blocked

        -- it has none: it is the first late row
        pub found_late : ((y : Figures) → x ≡ Ok y → ⊥) → FirstLate order (Some (i + 1))
        found_late none =
            let now : is_late here above below ≡ true = late_lem here above below (λ y e. none y (figured ∙ e)) in
            (t.late_is ∙ left ∙ rw (now, late_from) (omega arith), omega arith)

        -- it has some: its rank is next
        module _ (room : length order * rank_room ≤ length o) {y : Figures} (is : x ≡ Ok y) {margin : ℤ}
            (margin_is : margin ≡ y.margin) where
          abbrev e : Entry
          e = entry_from (get_or (get_or rows (get_or ps i 0) []) task_at 0) y margin

          made : (is_late here above below ≡ false) × (entry_from here.task y y.margin ≡ entry here above below)
          made = entry_lem here above below y (sym figured ∙ is)

          written : e ≡ entry here above below
          written = ap₂ (λ (k : ℕ) (z : ℤ). entry_from k y z) task_is margin_is ∙ made.1

          short : length (rank_text (i + 1) e) ≤ rank_room
          short =
              rank_length (i + 1) e (omega (arith, given.few, counted))
              (subst InLimits (sym written)
              (entry_limits here above below here_in_range (front_passes in_range i order given.is_in_range) made.0))

          pub rank_fits : length (rank_text (i + 1) e) ≤ length (lent m o₁)
          rank_fits =
              let kept = wrote_keeps (omega (arith, t.within, room, counted)) t.text_put in
              omega (arith, short, t.within, room, counted, kept, lent_length m o₁)

          -- and it is above those that follow
          pub turned : {part : List ℕ} {k : ℕ} → Wrote (rank_text (i + 1) e) (lent m o₁) part k
              → Turning order o (m + k) (restored m o₁ part) (i + 1)
          turned {part} {k} rank =
              let many = entries_length [] order in
              let fits : i < length (entries order) = omega (arith, many, counted) in
              let before = length-take-le i (entries order) (omega arith) in
              let last : get_or (entries order) i no_entry ≡ e =
              entry_at_lem order i no_entry (omega (arith, counted))
              ∙ ap (λ r. entry r above below) placed ∙ sym written in
              let grown : take (suc i) (entries order) ≡ take i (entries order) ++ (e ∷ []) =
              take-suc (entries order) i no_entry fits
              ∙ ap (λ (z : Entry). take i (entries order) ++ (z ∷ [])) last in
              let put_more = rank_put (take i (entries order)) e (i + 1) (omega (arith, before))
              (omega (arith, short, t.within, room, counted, t.text_put.long_is)) t.text_put rank in
              rw (add-one i)
              record {
                within = omega (arith, short, t.within, rank.long_is);
                text_put =
                    subst (λ (es : List Entry). Wrote (joined (rank_texts 1 es)) o (restored m o₁ part) (m + k))
                    (sym grown) put_more;
                late_is = t.late_is ∙ left ∙ rw (made.0, late_from)
                    (ap (λ (l : List Row). late_from (suc (suc i)) l below)
                    (sym (take-suc order i no_row (omega (arith, counted)) ∙ ap (λ r. above ++ (r ∷ [])) placed)));
              }

  -- all ranks are passed: none is late
  pub finished : {o : List ℕ} {m : ℕ} {o₁ : List ℕ} {i : ℕ} → Turning order o m o₁ i → i ≡ length ps
      → PutsRanks order o o₁ (Ok m)
  finished {o} {m} {o₁} {i} t done =
      let many = entries_length [] order in
      let passed : i ≡ length (entries order) = omega (arith, counted, many, done) in
      let all : take i (entries order) ≡ entries order =
      ap (λ (k : ℕ). take k (entries order)) passed ∙ take-length (entries order) in (
        t.late_is
            ∙ ap (late_from (suc i) (rows_above order i)) (drop_of_length-le order {i = i} (omega (arith, counted, done))),
        subst (λ (es : List Entry). Wrote (joined (rank_texts 1 es)) o o₁ m) all t.text_put,
      )
